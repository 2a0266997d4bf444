-- Sets that are gathered: their union by one more, and what is left of a set without each of them.
use Rattle.std.proofs.Common.{◌≡◌, ◌&&◌, ◌||◌, Bool, true, false, not, List, [], ◌∷◌, ◌++◌, fold, refl, sym, ap, ◌∙◌, arith}
use Rattle.std.specs.List.{list_all}
use Rattle.std.proofs.lemmas.List.Folds.{list_all-append}
use Rattle.std.proofs.lemmas.List.Sums.{fold-append}
use Rattle.ge_model_rows.specs.TaskRows.{TaskSpan, is_form}
use Rattle.ge_model_rows.specs.Sets.{has_number, union, meet, difference}
use Rattle.ge_model_rows.proofs.Together.{union_form, union_has, meet_form, meet_has, difference_form, difference_has}
use Rattle.ge_model_rows.proofs.Unique.{one_form}

pub one_more : (begun set : List TaskSpan) (further new : List (List TaskSpan)) → new ≡ further ++ set ∷ [] → fold union begun new ≡ union (fold union begun further) set
one_more begun set further new is = ap (λ (sets : List (List TaskSpan)). fold union begun sets) is ∙ fold-append union begun further (set ∷ [])

pub more_formed : (set : List TaskSpan) (further new : List (List TaskSpan)) → list_all is_form further ≡ true → is_form set ≡ true → new ≡ further ++ set ∷ []
    → list_all is_form new ≡ true
more_formed set further new all form is =
    ap (λ (sets : List (List TaskSpan)). list_all is_form sets) is ∙ list_all-append is_form further (set ∷ []) ∙ (λ i. all i && (form i && true))

both : (a b : Bool) → (a && b) ≡ true → (a ≡ true) × (b ≡ true)
both a b h = grind arith

-- the union of sets in the form is in the form
pub all_formed : (begun : List TaskSpan) (further : List (List TaskSpan)) → is_form begun ≡ true → list_all is_form further ≡ true → is_form (fold union begun further) ≡ true
all_formed begun [] form all = form
all_formed begun (set ∷ further) form all =
    let each = both (is_form set) (list_all is_form further) all in
    all_formed (union begun set) further (union_form begun set form each.0) each.1

-- without one set and then another is without both
without_two : (set one two : List TaskSpan) → is_form set ≡ true → is_form one ≡ true → is_form two ≡ true
    → difference (difference set one) two ≡ difference set (union one two)
without_two set one two form first second =
    one_form (difference (difference set one) two) (difference set (union one two))
    (difference_form (difference set one) two left second) (difference_form set (union one two) form (union_form one two first second))
    (λ m. difference_has m (difference set one) two left second
    ∙ ap (λ b. b && not (has_number m two)) (difference_has m set one form first)
    ∙ neither (has_number m set) (has_number m one) (has_number m two)
    ∙ sym (difference_has m set (union one two) form (union_form one two first second) ∙ ap (λ b. has_number m set && not b) (union_has m one two first second)))
  where
    left : is_form (difference set one) ≡ true
    left = difference_form set one form first

    neither : (u a b : Bool) → ((u && not a) && not b) ≡ (u && not (a || b))
    neither true true b = refl
    neither true false b = refl
    neither false a b = refl

each_without : (set begun : List TaskSpan) (further : List (List TaskSpan)) → is_form set ≡ true → is_form begun ≡ true → list_all is_form further ≡ true
    → fold difference (difference set begun) further ≡ difference set (fold union begun further)
each_without set begun [] form first all = refl
each_without set begun (next ∷ further) form first all =
    let each = both (is_form next) (list_all is_form further) all in
    ap (λ (left : List TaskSpan). fold difference left further) (without_two set begun next form first each.0)
    ∙ each_without set (union begun next) further form (union_form begun next first each.0) each.1

-- what is left without each is what is left without all
pub each_left : (set begun first_left left : List TaskSpan) (further : List (List TaskSpan)) → is_form set ≡ true → is_form begun ≡ true → list_all is_form further ≡ true
    → first_left ≡ difference set begun → left ≡ fold difference first_left further → left ≡ difference set (fold union begun further)
each_left set begun first_left left further form first all one is =
    is ∙ ap (λ (tasks : List TaskSpan). fold difference tasks further) one ∙ each_without set begun further form first all

-- what isn't left of a set without another one is what both have
pub met_by_left : (set all left part : List TaskSpan) → is_form set ≡ true → is_form all ≡ true → left ≡ difference set all → part ≡ difference set left → part ≡ meet set all
met_by_left set all left part form other without is =
    is ∙ ap (λ (tasks : List TaskSpan). difference set tasks) without
    ∙ one_form (difference set (difference set all)) (meet set all)
    (difference_form set (difference set all) form rest) (meet_form set all form other)
    (λ m. difference_has m set (difference set all) form rest
    ∙ ap (λ b. has_number m set && not b) (difference_has m set all form other)
    ∙ twice (has_number m set) (has_number m all)
    ∙ sym (meet_has m set all form other))
  where
    rest : is_form (difference set all) ≡ true
    rest = difference_form set all form other

    twice : (u v : Bool) → (u && not (u && not v)) ≡ (u && v)
    twice true true = refl
    twice true false = refl
    twice false v = refl
