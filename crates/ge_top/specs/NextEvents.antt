-- The next events of a script, and when there are no more.
use Rattle.std.specs.Prelude.{◌≡◌, ℕ, List, [], ◌++◌, Option, Some, None, IfSome}
use Rattle.ge_model_rows.specs.EventRows.{Event}
use Rattle.ge_model_grammar.specs.Sources.{IsReadToEnd}

abbrev pub GivesSomeOf : Option (List Event) → Option (List Event) → List Event → Type 0
GivesSomeOf None None events = Unit {0}
GivesSomeOf (Some old) (Some new) events = old ≡ events ++ new
GivesSomeOf None (Some new) events = ⊥
GivesSomeOf (Some old) None events = ⊥

-- these are the next of the events to come, where the source tells them
pub record GivesSome (old new : Option (List Event)) (events : List Event) : Type 0 where
  pub told : GivesSomeOf old new events

-- no events are to come, and the source has ended
pub record HasNoMore (coming : Option (List Event)) (rest : Option (List ℕ)) : Type 0 where
  pub none : IfSome coming (λ events. events ≡ [])
  pub ended : IsReadToEnd rest
