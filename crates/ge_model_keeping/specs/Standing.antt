-- What two areas stand for as a value.
use Rattle.std.specs.Prelude.{◌≡◌, ◌⊎◌, ℕ, List, Result, Ok, Err}
use Rattle.ge_model_journal.specs.Area.{head}
use Rattle.ge_model_journal.specs.Journal.{State, choice, meaning, counted_area}

-- frame, bad: that the frame of an area is wrong at a place, or what begins there can't be read; held: what a state stands for
module _ {T W : Type 0} (frame bad : ℕ → ℕ → W) (held : State → Result T ℕ) where
  abbrev pub or_bad : ℕ → Result T ℕ → Result T W
  or_bad area (Ok t) = Ok t
  or_bad area (Err place) = Err (bad area place)

  abbrev pub or_frame : ℕ → Result State (ℕ × ℕ) → Result T W
  or_frame area (Ok s) = or_bad area (held s)
  or_frame area (Err wrong) = Err (frame wrong.0 wrong.1)

  -- what two areas stand for, or the first of what is wrong: headers and lists before bodies, and each by its place
  abbrev pub stands_for : List ℕ → List ℕ → Result T W
  stands_for a b = or_frame (counted_area (choice (head a) (head b))) (meaning a b)

  -- two areas stand for the one value or for the other
  abbrev pub StandsForOneOf : T → T → List ℕ → List ℕ → Type 0
  StandsForOneOf before later a b = (stands_for a b ≡ Ok before) ⊎ (stands_for a b ≡ Ok later)
