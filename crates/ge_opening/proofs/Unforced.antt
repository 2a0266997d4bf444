-- Where no complex is FORCED, none is kept for jobs that ask for it.
use Rattle.std.proofs.Common.{◌≡◌, ℕ, Bool, true, false, not, ◌&&◌, ◌||◌, List, [], ◌∷◌, refl, sym, ap, ◌∙◌}
use Rattle.std.specs.List.{list_any, list_all}
use Rattle.std.proofs.lemmas.Bool.{false≢true}
use Rattle.ge_model_rows.specs.ClusterRows.{Cluster}
use Rattle.ge_model_rows.specs.HostRows.{Groups, InstanceId}
use Rattle.ge_model_rows.specs.JobRows.{Job}
use Rattle.ge_model_rows.specs.QueueRows.{QueueRow}
use Rattle.ge_model_rows.specs.ValueRows.{ComplexDef}
use Rattle.ge_model_place.specs.Opening.{is_forced, asks_for, is_configured, meets_forced}

first_false : (a b : Bool) → (a || b) ≡ false → a ≡ false
first_false false b e = refl
first_false true b e = e

rest_false : (a b : Bool) → (a || b) ≡ false → b ≡ false
rest_false false b e = e
rest_false true b e = absurd (false≢true (sym e))

module _ (c : Cluster) (groups : Groups) (job : Job) (at : InstanceId) (q : QueueRow) where
  one_met : (complex : List ℕ × ComplexDef) → is_forced complex.1.requestable ≡ false → meets_forced c groups job at q complex ≡ true
  one_met complex free = ap (λ b. not b || asks_for job complex.0 || not (is_configured c groups at q complex.0)) free

  pub all_met : (complexes : List (List ℕ × ComplexDef)) → list_any (λ complex. is_forced complex.1.requestable) complexes ≡ false → list_all (meets_forced c groups job at q) complexes ≡ true
  all_met [] free = refl
  all_met (complex ∷ rest) free =
      let here = first_false (is_forced complex.1.requestable) (list_any (λ complex. is_forced complex.1.requestable) rest) free in
      let behind = rest_false (is_forced complex.1.requestable) (list_any (λ complex. is_forced complex.1.requestable) rest) free in
      ap (λ b. b && list_all (meets_forced c groups job at q) rest) (one_met complex here) ∙ all_met rest behind
