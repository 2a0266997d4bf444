-- Worked rows: what entries make of advance reservations.
use Rattle.std.specs.Prelude.{◌≡◌, ℕ, ◌^◌, ◌-◌, true, fold, codes, List, [], ◌∷◌, None, refl}
use Rattle.ge_model_rows.specs.ClusterRows.{Cluster}
use Rattle.ge_model_rows.specs.EntryRows.{Delete, Run, Book, Unbook}
use Rattle.ge_model_rows.specs.JobRows.{Job, Advance}
use Rattle.ge_model_jobs.specs.Applying.{after_entry, changes_in_full}
use Rattle.ge_model_jobs.proofs.Samples.{plain_job, some_advance, cluster, at}

-- one that lasts up to a moment
abbrev up_to : ℕ → Advance
up_to moment = some_advance (codes "ar") 10 moment []

-- a cluster with jobs and advance reservations, of which the next has the number 7
unfoldable booked : List (ℕ × Job) → List (ℕ × Advance) → Cluster
unfolding cluster
booked jobs advances = record (cluster jobs) { next_advance = 7; advances = advances }

-- a job that joined one
abbrev joined : ℕ → ℕ → Job
joined number advance = record (plain_job number) { advance = advance }

-- the next number, each time
two_more : fold after_entry (booked [] ((2, up_to 20) ∷ [])) (at 1 (Book (up_to 30)) ∷ at 2 (Book (up_to 40)) ∷ [])
    ≡ record (booked [] ((2, up_to 20) ∷ (7, up_to 30) ∷ (8, up_to 40) ∷ [])) { last = 2; next_advance = 9 }
unfolding changes_in_full booked
two_more = refl

last_number : after_entry (record (booked [] []) { next_advance = 2 ^ 32 - 1 }) (at 1 (Book (up_to 30)))
    ≡ record (booked [] ((2 ^ 32 - 1, up_to 30) ∷ [])) { last = 1; next_advance = 2 ^ 32 - 1 }
unfolding changes_in_full booked
last_number = refl

-- one that isn't there changes nothing
some_given_up : after_entry (booked [] ((2, up_to 20) ∷ (3, up_to 30) ∷ (4, up_to 40) ∷ [])) (at 1 (Unbook (4 ∷ 9 ∷ 2 ∷ [])))
    ≡ record (booked [] ((3, up_to 30) ∷ [])) { last = 1 }
unfolding changes_in_full booked
some_given_up = refl

-- a run at 20 leaves the one that lasts longer, and the one that a live job joined
over_at_a_run : after_entry (booked ((1, joined 1 3) ∷ []) ((2, up_to 20) ∷ (3, up_to 19) ∷ (4, up_to 21) ∷ [])) (at 20 (Run []))
    ≡ record (booked ((1, joined 1 3) ∷ []) ((3, up_to 19) ∷ (4, up_to 21) ∷ [])) { last = 20; last_run = 20 }
unfolding changes_in_full booked
over_at_a_run = refl

-- no other entry lets one go, and the run behind the end of its last job does
gone_with_its_job : fold after_entry (booked ((1, joined 1 3) ∷ []) ((3, up_to 19) ∷ []))
    (at 20 (Run []) ∷ at 21 (Delete (record { job = 1; tasks = None } ∷ []) true) ∷ at 21 (Book (up_to 30)) ∷ at 22 (Run []) ∷ [])
    ≡ record (booked [] ((7, up_to 30) ∷ [])) { last = 22; last_run = 22; next_advance = 8 }
unfolding changes_in_full booked
gone_with_its_job = refl
