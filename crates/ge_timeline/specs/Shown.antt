-- Step functions in a slab, by the numbers of limits.
use Rattle.std.specs.Prelude.{◌≡◌, ℕ, ◌≤◌, Bool, List, ◌∷◌, [], ◌++◌, Option, Some, None, Vec, cond, min, ◌+◌, count_by, flat_map}
use Rattle.slab.specs.Slab.{Slab, get}
use Rattle.std.specs.Map.{lookup}
use Rattle.std.specs.List.{list_any}
use Rattle.std.specs.declared.alloc.Global.{Global}
use Rattle.ge_model_rows.specs.ScheduleRows.{LimitId, Demand, Booking}
use Rattle.ge_model_place.specs.Bookings.{same_limit, greatest_sum, is_within, demand_on, plain_sum}
use Rattle.ge_timeline.specs.declared.points.Point.{Point}
use Rattle.ge_timeline.specs.StepFunctions.{IsRising, level, level_with, moments, HasMoments}
use Rattle.ge_timeline.specs.Looks.{changes, changes_by}

-- the amount was added in the span, and nothing else changed
abbrev pub IsRaised : ℕ → ℕ → ℕ → Option (Vec Point Global) → Option (Vec Point Global) → Type 0
IsRaised from until amount None new = ⊥
IsRaised from until amount (Some old) None = ⊥
IsRaised from until amount (Some old) (Some new) = ((t : ℕ) → level new.items t ≡ level_with from until amount t (level old.items t)) × HasMoments old.items (from ∷ until ∷ []) new.items

-- the number of the first pair whose limit is this one
abbrev pub number_in : List (LimitId × ℕ) → LimitId → Option ℕ
number_in index limit = lookup (same_limit limit) index

-- of no kind of moments are there more in one list than in another
abbrev pub HasNoMore : List ℕ → List ℕ → Type 0
HasNoMore less more = (test : ℕ → Bool) → count_by test less ≤ count_by test more

-- points whose number at each moment is this, with no other moments than these
pub record Draws (sums : ℕ → ℕ) (changed : List ℕ) (points : List Point) : Type 0 where
  pub rising : IsRising points
  pub same : (t : ℕ) → level points t ≡ sums t
  pub within : HasNoMore (moments points) changed

-- what is shown of one limit: a step function, or zeros where the limit has no number
abbrev pub ShowsPoints : (ℕ → ℕ) → List ℕ → Option (Vec Point Global) → Type 0
ShowsPoints sums changed None = ⊥
ShowsPoints sums changed (Some points) = Draws sums changed points.items

abbrev pub ShowsLimit : Slab (Vec Point Global) → (ℕ → ℕ) → List ℕ → Option ℕ → Type 0
ShowsLimit functions sums changed None = (t : ℕ) → sums t ≡ 0
ShowsLimit functions sums changed (Some number) = ShowsPoints sums changed (get functions number)

-- the step functions show these sums, and two limits have two of them
pub record Shows (index : List (LimitId × ℕ)) (functions : Slab (Vec Point Global)) (sums : LimitId → ℕ → ℕ) (changed : LimitId → List ℕ) : Type 0 where
  pub each : (limit : LimitId) → ShowsLimit functions (sums limit) (changed limit) (number_in index limit)
  pub apart : (a b : LimitId) (number : ℕ) → number_in index a ≡ Some number → number_in index b ≡ Some number → a ≡ b

-- the step functions show some sums
abbrev pub IsWhole : List (LimitId × ℕ) → Slab (Vec Point Global) → Type 0
IsWhole index functions = (sums : LimitId → ℕ → ℕ) × (changed : LimitId → List ℕ) × Shows index functions sums changed

-- these sums but for one limit
abbrev pub sums_but : LimitId → (ℕ → ℕ) → (LimitId → ℕ → ℕ) → LimitId → ℕ → ℕ
sums_but limit own sums other t = cond (same_limit limit other) (own t) (sums other t)

abbrev pub changes_but : LimitId → List ℕ → (LimitId → List ℕ) → LimitId → List ℕ
changes_but limit own changed other = cond (same_limit limit other) own (changed other)

-- the sums while a booking's demands are added
abbrev pub sums_with : List Booking → Booking → List Demand → LimitId → ℕ → ℕ
sums_with bookings b demands limit t = cond (is_within b t) (min (plain_sum bookings limit t + demand_on demands limit) greatest_sum) (plain_sum bookings limit t)

abbrev pub changes_with : List Booking → Booking → List Demand → LimitId → List ℕ
changes_with bookings b demands limit = changes bookings limit ++ flat_map (changes_by limit b) demands

-- the sums of one limit with what a booking takes of it by one demand
abbrev pub own_with : LimitId → Booking → Demand → (ℕ → ℕ) → ℕ → ℕ
own_with limit b d sums t = cond (same_limit d.limit limit) (level_with b.from b.until d.amount t (sums t)) (sums t)

-- whether one of these demands is on a limit
abbrev pub is_asked : List Demand → LimitId → Bool
is_asked demands limit = list_any (λ d. same_limit d.limit limit) demands

-- the sums while those of a booking's limits are taken anew from the bookings that are left
abbrev pub sums_anew : List Booking → List Demand → (LimitId → ℕ → ℕ) → LimitId → ℕ → ℕ
sums_anew bookings demands sums limit t = cond (is_asked demands limit) (plain_sum bookings limit t) (sums limit t)

abbrev pub changes_anew : List Booking → List Demand → (LimitId → List ℕ) → LimitId → List ℕ
changes_anew bookings demands changed limit = cond (is_asked demands limit) (changes bookings limit) (changed limit)
