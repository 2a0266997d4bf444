use Rattle.std.proofs.Common.{List, ℕ, ap, ◌∙◌, take_all, map}
use Rattle.std.specs.Prelude.{flat_map}
use Rattle.ge_base.specs.declared.refusal.Refusal.{Refusal}
use Rattle.ge_model_config.specs.Overrides.{override_read}
use Rattle.ge_model_rows.specs.Faults.{after_faults}
use Rattle.ge_config.proofs.overrides.read_all.Goals as goal

pub returns-clause-faults : goal.returns-clause-faults
returns-clause-faults g c =
    c.loop-pair.invariant.faults
    ∙ ap (λ (ps : List (List ℕ × List ℕ)). after_faults c.args.faults.now (flat_map (λ (o : (List ℕ × g.row.T.Denot) × List Refusal). o.1) (map (override_read c.args.c.now c.args.fallback.now (g.R.Reader.read c.args.reader.now)) ps)))
    (take_all _ _ c.loop-pair-test.false)
