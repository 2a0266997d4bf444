use Rattle.std.proofs.Common.{sym, ◌∙◌, subst}
use Rattle.std.specs.Prelude.{IsTrue, ◌↔◌, ◌≡◌}
use Rattle.ge_world_master.proofs.Copied.{same_bytes}
use Rattle.ge_world_master.proofs.clusters.is_same_cluster.Goals as goal

pub returns : goal.returns
returns c =
    subst (λ is. IsTrue is ↔ (c.args.c.now ≡ c.args.d.now)) (sym c.is_word.ensures)
    (same_bytes c.args.c.now c.args.d.now c.bytes.result.now c.bytes-2.result.now c.in_ok-first.ensures.fits c.in_ok-second.ensures.fits
    (c.bytes.ensures ∙ c.in_ok-first.ensures.bytes) (c.bytes-2.ensures ∙ c.in_ok-second.ensures.bytes))
