-- The lines of qrstat: advance reservations.
use Rattle.std.specs.Prelude.{ℕ, nat_lt, if◌then◌else◌, List, [], ◌∷◌, map, Option, Some, None, codes, decimal}
use Rattle.ge_collections.specs.Keyed.{at_number}
use Rattle.ge_model_rows.specs.ClusterRows.{Cluster}
use Rattle.ge_model_rows.specs.JobRows.{Advance}
use Rattle.ge_model_report.specs.Grants.{grants_text, granted_slots, worded}

-- w before its beginning, r from then on, x from its end on (qrstat)
abbrev pub booked_state : ℕ → Advance → List ℕ
booked_state now booked = if nat_lt now booked.from then codes "w" else (if nat_lt now booked.until then codes "r" else codes "x")

-- number, name, owner, state, beginning, end and slots
abbrev pub booked_line : ℕ → ℕ × Advance → List ℕ
booked_line now (number, booked) =
    worded (
    decimal number
    ∷ booked.name
    ∷ booked.owner
    ∷ booked_state now booked
    ∷ decimal booked.from
    ∷ decimal booked.until
    ∷ decimal (granted_slots booked.grants)
    ∷ []
    )

-- a reservation that is named shows its grants too
abbrev pub one_booked : ℕ → ℕ → Option Advance → List (List ℕ)
one_booked now number None = []
one_booked now number (Some booked) = booked_line now (number, booked) ∷ grants_text booked.grants ∷ []

-- the lines of all reservations at a moment, by number, or those of one
unfoldable pub booked_lines : Cluster → Option ℕ → ℕ → List (List ℕ)
booked_lines c None now = map (booked_line now) c.advances
booked_lines c (Some number) now = one_booked now number (at_number c.advances number)
