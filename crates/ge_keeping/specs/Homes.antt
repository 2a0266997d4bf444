-- A journal that holds a value, and what every pair of images of its areas stands for.
use Rattle.std.specs.Prelude.{◌≡◌, ℕ, Result, Ok}
use Rattle.ge_model_journal.specs.Journal.{State}
use Rattle.ge_model_keeping.specs.Standing.{stands_for}
use Rattle.ge_spool.specs.Settled.{IsSettled}
use Rattle.ge_spool.specs.declared.spool.Spool.{Spool}
use Rattle.ge_keeping.specs.Areas.{Areas, EachSince}

-- every pair of images at each moment from the one on stands for a value
abbrev pub StandsSince : {T W : Type 0} → (ℕ → ℕ → W) → (ℕ → ℕ → W) → (State → Result T ℕ) → Areas → Areas → T → Type 0
StandsSince frame bad held before after t = EachSince before after (λ c d. stands_for frame bad held c d ≡ Ok t)

-- A journal is at rest on its areas, and what it holds is a value. So every pair of images now stands for that value.
pub record IsHome {T : Type 0} (held : State → Result T ℕ) (spool : Spool) (t : T) (now : Areas) : Type 0 where
  pub state : State
  pub settled : IsSettled spool now.a now.b state
  pub holds : held state ≡ Ok t
