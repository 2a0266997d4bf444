-- What handling a trace leaves of the areas, the master and the counts of faults, as callers of the master put it together.
use Rattle.std.proofs.Common.{◌≡◌, ℕ, ◌+◌, ◌≤◌, Bool, true, false, List, [], ◌∷◌, length, ap, ◌∙◌, sym, inl, inr, ⊎_elim, arith}
use Rattle.std.specs.Prelude.{◌||◌}
use Rattle.ge_outside.specs.Faults.{Rose}
use Rattle.ge_model_journal.specs.Disk.{Content, IsImageNow, IsImageSince}
use Rattle.ge_master.specs.Areas.{Areas, HasFailed}
use Rattle.ge_master.specs.Storing.{stored_syncs}

-- what a stop may leave now is what it may have left since some moment before
now-since : (told : List Content) (start : ℕ) (image : List ℕ) → start ≤ length told → IsImageNow told image → IsImageSince start told image
now-since [] start image later left = absurd left
now-since (now ∷ earlier) start image later left = (later, inl left)

-- what holds at each moment of a call holds where it ends
pub ends-images : (a new_a b new_b : List Content) (Q : List ℕ → List ℕ → Type 0) → length a ≤ length new_a → length b ≤ length new_b
    → ((c d : List ℕ) → IsImageSince (length a) new_a c → IsImageSince (length b) new_b d → Q c d) → (c d : List ℕ) → IsImageNow new_a c → IsImageNow new_b d → Q c d
ends-images a new_a b new_b Q later_a later_b each =
    λ c d of_c of_d. each c d (now-since new_a (length a) c later_a of_c) (now-since new_b (length b) d later_b of_d)

-- whether events stop the master, from what the master tells before and after them
pub stops-as : (before after stops : Bool) → before ≡ false → after ≡ (before || stops) → stops ≡ after
stops-as before after stops going is = sym (is ∙ ap (λ s. s || stops) going)

-- three syncs at most
pub three-syncs : (compacting : Bool) (before after : ℕ) → after ≤ before + stored_syncs compacting → after ≤ before + 3
three-syncs true before after few = few
three-syncs false before after few = omega (arith, few)

-- what rose since later rose since earlier
pub rose-since : (first second last : ℕ) → first ≤ second → Rose second last → Rose first last
rose-since first second last later rose = omega (arith, later, rose)

pub failed-since : (before now after : Areas) → before.faults_a ≤ now.faults_a → before.faults_b ≤ now.faults_b → HasFailed now after → HasFailed before after
failed-since before now after later_a later_b failed =
    ⊎_elim (λ r. inl (rose-since before.faults_a now.faults_a after.faults_a later_a r)) (λ r. inr (rose-since before.faults_b now.faults_b after.faults_b later_b r)) failed
