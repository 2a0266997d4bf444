use Rattle.std.proofs.Common.{◌≡◌, ◌∙◌, ap}
use Rattle.ge_model_rows.specs.EntryRows.{Shares}
use Rattle.ge_model_rows.specs.Faults.{after_faults}
use Rattle.ge_model_config.specs.Shares.{shares_item}
use Rattle.ge_config.specs.ShareTree.{has_short_ids, share_faults}
use Rattle.ge_config.proofs.ShareTree.{short_ids}
use Rattle.ge_config.proofs.shares.read_shares.Goals as goal

pub returns : goal.returns
unfolding shares_item
returns c =
    let k = c.args.c.now in
    let lines = c.args.lines.now in
    let made = c.in_ok-nodes.ensures in (
      ap Shares made,
      c.in_ok-note_shares.ensures (ap has_short_ids made ∙ short_ids lines)
          ∙ ap (λ nodes. after_faults c.args.faults.now (share_faults k c.args.adding lines nodes)) made,
    )
