-- A refusal noted again changes nothing, and what is asked where nothing else refuses.
use Rattle.std.proofs.Common.{◌≡◌, ℕ, Bool, true, false, cond, ◌||◌, List, [], ◌∷◌, ◌++◌, refl, sym, ap, ◌∙◌, true≢false}
use Rattle.std.specs.Prelude.{Option, Some, None, is_some, nat_lt, flat_map}
use Rattle.std.specs.List.{list_any}
use Rattle.ge_base.specs.declared.refusal.Refusal.{Refusal}
use Rattle.ge_model_rows.specs.PeopleRows.{ShareNode}
use Rattle.ge_model_rows.specs.Faults.{turn_of, when, earlier_fault, first_fault, after_faults, sooner}
use Rattle.ge_model_rows.proofs.FaultLaws.{after_faults-sooner}
use Rattle.ge_model_config.specs.Shares.{tree_faults}

either : (b : Bool) (answer : Option Refusal) → cond b answer answer ≡ answer
either true answer = refl
either false answer = refl

noted_twice : (old : Option Refusal) (refusal : Refusal) → earlier_fault (earlier_fault old refusal) refusal ≡ earlier_fault old refusal
noted_twice None refusal = either (nat_lt (turn_of refusal) (turn_of refusal)) (Some refusal)
noted_twice (Some first) refusal = by (nat_lt (turn_of refusal) (turn_of first)) refl
  where
    by : (sooner : Bool) → nat_lt (turn_of refusal) (turn_of first) ≡ sooner
        → earlier_fault (cond sooner (Some refusal) (Some first)) refusal ≡ cond sooner (Some refusal) (Some first)
    by true is = either (nat_lt (turn_of refusal) (turn_of refusal)) (Some refusal)
    by false is = ap (λ (b : Bool). cond b (Some refusal) (Some first)) is

-- one refusal of many things is noted where it holds of one of them
pub each_noted : {A : Type 0} (holds : A → Bool) (refusal : Refusal) (old : Option Refusal) (xs : List A)
    → after_faults old (flat_map (λ x. when (holds x) refusal) xs) ≡ after_faults old (when (list_any holds xs) refusal)
each_noted holds refusal old [] = refl
each_noted holds refusal old (x ∷ xs) = by (holds x) (λ found. each_noted holds refusal found xs)
  where
    again : (b : Bool) → after_faults (earlier_fault old refusal) (when b refusal) ≡ earlier_fault old refusal
    again true = noted_twice old refusal
    again false = refl

    by : (b : Bool) → ((found : Option Refusal) → after_faults found (flat_map (λ x. when (holds x) refusal) xs) ≡ after_faults found (when (list_any holds xs) refusal))
        → after_faults old (when b refusal ++ flat_map (λ x. when (holds x) refusal) xs) ≡ after_faults old (when (b || list_any holds xs) refusal)
    by true rest = rest (earlier_fault old refusal) ∙ again (list_any holds xs)
    by false rest = rest old

never_none : (first : Refusal) (faults : List Refusal) → is_some (after_faults (Some first) faults) ≡ true
never_none first [] = refl
never_none first (fault ∷ faults) = by (nat_lt (turn_of fault) (turn_of first)) (λ found. never_none found faults)
  where
    by : (sooner : Bool) → ((found : Refusal) → is_some (after_faults (Some found) faults) ≡ true) → is_some (after_faults (cond sooner (Some fault) (Some first)) faults) ≡ true
    by true rest = rest fault
    by false rest = rest first

-- where nothing refuses, there is no refusal
pub none_found : (faults : List Refusal) → first_fault faults ≡ None → faults ≡ []
none_found [] none = refl
none_found (fault ∷ faults) none = absurd (true≢false (sym (never_none fault faults) ∙ ap is_some none))

-- the refusals of nodes alone
pub tree_refused : (table : List (ℕ × ShareNode)) (owned : List ℕ) (faults : List Refusal) (first : Refusal) (old : Option Refusal) → first_fault faults ≡ Some first
    → after_faults old (tree_faults table owned faults) ≡ after_faults old (when true first)
tree_refused table owned [] first old is = absurd (true≢false (sym (ap is_some is)))
tree_refused table owned (fault ∷ faults) first old is = after_faults-sooner old (fault ∷ faults) ∙ ap (sooner old) is

-- and what is asked of them behind these
pub tree_asked : (table : List (ℕ × ShareNode)) (owned : List ℕ) (faults : List Refusal) (old : Option Refusal) → first_fault faults ≡ None
    → after_faults old (tree_faults table owned faults) ≡ after_faults old (tree_faults table owned [])
tree_asked table owned faults old none = ap (λ (f : List Refusal). after_faults old (tree_faults table owned f)) (none_found faults none)
