use Rattle.std.proofs.Common.{◌≡◌, ◌∙◌, ap, fold}
use Rattle.std.specs.Prelude.{if◌then◌else◌, []}
use Rattle.ge_model_rows.specs.EntryRows.{Complexes}
use Rattle.ge_model_rows.specs.Faults.{after_faults}
use Rattle.ge_model_config.specs.Complexes.{put_complex, complexes_item}
use Rattle.ge_config.specs.Words.{table_faults}
use Rattle.ge_config.proofs.complexes.read_complexes.Goals as goal

pub returns : goal.returns
unfolding complexes_item
returns c =
    let k = c.args.c.now in
    let lines = c.args.lines.now in
    let made = c.in_ok-put_rows.ensures ∙ ap (λ table. fold (put_complex k) table lines) c.in_ok-table.ensures in (
      ap Complexes made,
      c.in_ok-note_table.ensures ∙ ap (λ table. after_faults c.args.faults.now (table_faults k lines table)) made,
    )
