-- What a clock tells of its coming answers.
use Rattle.std.specs.Prelude.{◌≡◌, ℕ, List, [], ◌∷◌, Option, None, Some}

-- the answers to come, and the one that it gives for ever after them
pub record Answers : Type 0 where
  pub coming : List ℕ
  pub at_last : ℕ

-- the next answer
abbrev pub next_answer : Answers → ℕ
next_answer answers = elim answers.coming [ [] ↦ answers.at_last | moment ∷ moments ↦ moment ]

-- the answers after the next one
abbrev pub later_answers : Answers → Answers
later_answers answers = elim answers.coming [ [] ↦ answers | moment ∷ moments ↦ record { coming = moments; at_last = answers.at_last } ]

-- a clock gives its next answer, where it tells its answers
abbrev pub Ticks : Option Answers → Option Answers → ℕ → Type 0
Ticks None None moment = Unit {0}
Ticks (Some old) (Some new) moment = (moment ≡ next_answer old) × (new ≡ later_answers old)
Ticks None (Some new) moment = ⊥
Ticks (Some old) None moment = ⊥
