use Rattle.std.proofs.Common.{◌∙◌, sym, ◌++◌, flat_map}
use Rattle.ge_model_config.specs.Shares.{line_faults, node_faults}
use Rattle.ge_config.proofs.Noted.{tree_refused}
use Rattle.ge_config.proofs.shares.note_owned.Goals as goal

pub returns-in-Some : goal.returns-in-Some
returns-in-Some c =
    λ short whole.
    c.note.ensures
    ∙ sym (tree_refused c.args.nodes.now c.args.owned.now
    (flat_map (line_faults c.args.c.now) c.args.lines.now ++ node_faults c.args.lines.now c.args.nodes.now c.args.owned.now)
    c.in-Some.first c.args.faults.now (sym (c.in_ok-first.ensures short whole) ∙ c.in-Some.is))
