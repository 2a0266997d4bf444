-- The next events of a script, taken one by one.
use Rattle.std.proofs.Common.{◌≡◌, ◌⊎◌, ℕ, List, [], ◌∷◌, ◌++◌, length, Option, Some, None, IfSome, refl, ap, ◌∙◌, sym, subst, append_assoc, ⊎_elim, inl, inr}
use Rattle.ge_model_rows.specs.EventRows.{Event}
use Rattle.ge_script.specs.Pieces.{GivesNext}
use Rattle.ge_top.specs.NextEvents.{GivesSome, HasNoMore}
use Rattle.ge_top.proofs.Told.{no_some, same_some}

pub gives-none : (coming : Option (List Event)) → GivesSome coming coming []
gives-none None = record { told = tt }
gives-none (Some events) = record { told = refl }

-- one event more
pub gives-more : (first old new : Option (List Event)) (events : List Event) (event : Event) → GivesSome first old events → GivesNext old new (Some event)
    → GivesSome first new (events ++ event ∷ [])
gives-more None None None events event gives next = record { told = tt }
gives-more None None (Some more) events event gives next = absurd next
gives-more None (Some left) new events event gives next = absurd gives.told
gives-more (Some all) None new events event gives next = absurd gives.told
gives-more (Some all) (Some left) None events event gives next = absurd next
gives-more (Some all) (Some left) (Some more) events event gives next =
    record { told = gives.told ∙ ap (λ es. events ++ es) next ∙ sym (append_assoc events (event ∷ []) more) }

-- no event more
pub gives-last : (first old new : Option (List Event)) (events : List Event) → GivesSome first old events → GivesNext old new None → GivesSome first new events
gives-last None None None events gives next = record { told = tt }
gives-last None None (Some more) events gives next = absurd next
gives-last None (Some left) new events gives next = absurd gives.told
gives-last (Some all) None new events gives next = absurd gives.told
gives-last (Some all) (Some left) None events gives next = absurd next
gives-last (Some all) (Some left) (Some more) events gives next =
    record { told = gives.told ∙ ap (λ es. events ++ es) (next.0 ∙ sym next.1) }

pub no-more : (old new : Option (List Event)) → GivesNext old new None → IfSome new (λ events. events ≡ [])
no-more None None next = tt
no-more None (Some more) next = absurd next
no-more (Some left) None next = tt
no-more (Some left) (Some more) next = next.1

-- what is to come behind some events
pub gives-split : (left next : Option (List Event)) (batch events : List Event) → GivesSome left next batch → left ≡ Some events
    → (rest : List Event) × (next ≡ Some rest) × (events ≡ batch ++ rest)
gives-split None next batch events gives is = absurd (no_some events is)
gives-split (Some all) None batch events gives is = absurd gives.told
gives-split (Some all) (Some rest) batch events gives is = (rest, refl, sym (same_some all events is) ∙ gives.told)

pub none-behind : (next : Option (List Event)) (left : Option (List ℕ)) (rest : List Event) → HasNoMore next left → next ≡ Some rest → rest ≡ []
none-behind next left rest none is = subst (λ (o : Option (List Event)). IfSome o (λ events. events ≡ [])) is none.none

-- where they are fewer there are no more
pub no-more-behind : (next : Option (List Event)) (left : Option (List ℕ)) (size : ℕ) (batch : List Event) → (length batch ≡ size) ⊎ HasNoMore next left → (length batch ≡ size → ⊥)
    → HasNoMore next left
no-more-behind next left size batch all fewer = ⊎_elim (λ full. absurd (fewer full)) (λ none. none) all
