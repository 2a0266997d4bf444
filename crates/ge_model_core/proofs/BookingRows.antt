-- Advance reservations where no script leads: full tables, last numbers, and jobs whose reservation isn't there.
use Rattle.std.specs.Prelude.{◌≡◌, ℕ, true, false, List, [], ◌∷◌, map, replicate, codes, refl}
use Rattle.ge_base.specs.declared.refusal.Refusal.TheVariants.{BadValue}
use Rattle.ge_model_rows.specs.ClusterRows.{Cluster}
use Rattle.ge_model_rows.specs.EventRows.{Event, Good}
use Rattle.ge_model_rows.specs.JobRows.{Advance}
use Rattle.ge_model_rows.specs.Complexes.{opening}
use Rattle.ge_model_jobs.proofs.Samples.{some_advance}
use Rattle.ge_model_grammar.specs.Options.{Given}
use Rattle.ge_model_config.specs.Requests.{request_of}
use Rattle.ge_model_core.specs.JobAdvances.{stay_faults}
use Rattle.ge_model_core.specs.Booking.{booked_from, asked_until, is_booked_out}

abbrev bare_advance : Advance
bare_advance = record (some_advance [] 1 2 []) { owner = []; group = [] }

-- the opening cluster with so many reservations, the next of which has a number
unfoldable booked : ℕ → ℕ → Cluster
booked count next = record opening { advances = replicate count (1, bare_advance); next_advance = next }

-- 10,000 of them, and the number 4,294,967,294
one_place : is_booked_out (booked 9999 4294967294) ≡ false
unfolding booked opening
one_place = refl

no_place : is_booked_out (booked 10000 1) ≡ true
unfolding booked opening
no_place = refl

no_number : is_booked_out (booked 0 4294967295) ≡ true
unfolding booked opening
no_number = refl

-- a job whose reservation isn't there, of a foreign spool, is altered as any that has one: no environment is its reservation's
abbrev one : List ℕ → List (List ℕ) → Given
one name words = (name, words) ∷ []

altered : map (λ given. stay_faults opening given 7) (
    one (codes "-R") (codes "y" ∷ [])
    ∷ one (codes "-R") (codes "no" ∷ [])
    ∷ one (codes "-P") (codes "p" ∷ [])
    ∷ one (codes "-pe") (codes "smp" ∷ codes "1" ∷ [])
    ∷ one (codes "-l") (codes "h_rt=5,arch=lx" ∷ [])
    ∷ one (codes "-l") (codes "slots=1" ∷ [])
    ∷ one (codes "-N") (codes "a" ∷ [])
    ∷ [])
    ≡ (BadValue ∷ []) ∷ [] ∷ (BadValue ∷ []) ∷ (BadValue ∷ []) ∷ [] ∷ (BadValue ∷ []) ∷ [] ∷ []
unfolding opening request_of
altered = refl

-- one without a reservation is altered freely
free : stay_faults opening (one (codes "-R") (codes "y" ∷ [])) 0 ≡ []
unfolding opening request_of
free = refl

-- from -a or now on, until -e or as long as -d says; what is no TIME lasts no second
abbrev now : Event
now = record { moment = 50; user = codes "ann"; group = codes "staff"; text = []; form = Good }

begins : booked_from now (one (codes "-a") (codes "0070" ∷ [])) ∷ booked_from now [] ∷ [] ≡ 70 ∷ 50 ∷ []
begins = refl

ends : map (asked_until now) (
    one (codes "-e") (codes "80" ∷ [])
    ∷ one (codes "-d") (codes "1:0:0" ∷ [])
    ∷ one (codes "-d") (codes "30" ∷ [])
    ∷ one (codes "-d") (codes "1:0" ∷ [])
    ∷ ((codes "-a", codes "70" ∷ []) ∷ (codes "-d", codes "::1" ∷ []) ∷ [])
    ∷ [])
    ≡ 80 ∷ 3650 ∷ 80 ∷ 50 ∷ 71 ∷ []
ends = refl
