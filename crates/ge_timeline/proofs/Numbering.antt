-- The order of limits finds the same limit in a table, also once a pair was put in.
use Rattle.std.proofs.Common.{◌≡◌, ◌==◌, ℕ, inl, inr, Bool, true, false, cond, ◌&&◌, List, [], ◌∷◌, Some, None, refl, sym, ap, subst, ◌∙◌}
use Rattle.std.specs.BTreeMap.{is_at, insert_entry}
use Rattle.std.specs.Cmp.Lexicographic.{texts_ties}
use Rattle.std.specs.Cmp.{unsigned_ties}
use Rattle.std.specs.Ordering.{ordering_then, match_ordering, is_eq, nat_cmp}
use Rattle.std.specs.declared.cmp.Ordering.{Ordering}
use Rattle.std.specs.declared.cmp.Ordering.TheVariants.{Less, Equal, Greater}
use Rattle.std.proofs.lemmas.Bool.{cases_Bool, cond-true, cond-false, true≢false, false_from_ne_true}
use Rattle.ge_collections.specs.Keyed.{text_cmp, text_eq}
use Rattle.ge_rows.specs.contracts.scheduling.LimitIdOrd.TheImpl.{cmp-value}
use Rattle.ge_model_rows.specs.ScheduleRows.{LimitId, Instance, Host, Global, Pe, Quota}
use Rattle.ge_model_rows.specs.ScheduleRows.{Advance as Booked}
use Rattle.ge_model_place.specs.Bookings.{same_limit}
use Rattle.ge_model_place.proofs.Same.{limits_equal}
use Rattle.ge_timeline.specs.Shown.{number_in}

then_eq : (o p : Ordering) → is_eq (ordering_then o p) ≡ (is_eq o && is_eq p)
then_eq Less p = refl
then_eq Equal p = refl
then_eq Greater p = refl

text_at : (a b : _) → is_eq (text_cmp a b) ≡ text_eq a b
text_at a b = sym (texts_ties a b)

both_at : (o p : Ordering) (s t : Bool) → is_eq o ≡ s → is_eq p ≡ t → is_eq (ordering_then o p) ≡ (s && t)
both_at o p s t first second = then_eq o p ∙ ap (λ b. b && is_eq p) first ∙ ap (λ b. s && b) second

regroup : (a b c d e f g h : Bool) → (a && (b && (c && (d && (e && (f && (g && h))))))) ≡ (((a && b) && ((((c && d) && e) && f) && g)) && h)
regroup false b c d e f g h = refl
regroup true false c d e f g h = refl
regroup true true false d e f g h = refl
regroup true true true false e f g h = refl
regroup true true true true false f g h = refl
regroup true true true true true false g h = refl
regroup true true true true true true g h = refl

pub same_at : (a b : LimitId) → is_at (cmp-value.it a) b ≡ same_limit a b
same_at (Global n) (Global m) = text_at n m
same_at (Pe n) (Pe m) = text_at n m
same_at (Host x n) (Host y m) = then_eq (text_cmp x y) (text_cmp n m) ∙ ap (λ b. b && is_eq (text_cmp n m)) (text_at x y) ∙ ap (λ b. text_eq x y && b) (text_at n m)
same_at (Instance x n) (Instance y m) =
    then_eq (ordering_then (text_cmp x.queue y.queue) (text_cmp x.host y.host)) (text_cmp n m)
    ∙ ap (λ b. b && is_eq (text_cmp n m)) (both_at (text_cmp x.queue y.queue) (text_cmp x.host y.host) (text_eq x.queue y.queue) (text_eq x.host y.host) (text_at x.queue y.queue) (text_at x.host y.host))
    ∙ ap (λ b. (text_eq x.queue y.queue && text_eq x.host y.host) && b) (text_at n m)
same_at (Quota a) (Quota b) =
    both_at (text_cmp a.set b.set) _ (text_eq a.set b.set) _ (text_at a.set b.set)
    (both_at (nat_cmp a.rule b.rule) _ (a.rule == b.rule) _ (sym (unsigned_ties a.rule b.rule))
    (both_at (text_cmp a.user b.user) _ (text_eq a.user b.user) _ (text_at a.user b.user)
    (both_at (text_cmp a.project b.project) _ (text_eq a.project b.project) _ (text_at a.project b.project)
    (both_at (text_cmp a.pe b.pe) _ (text_eq a.pe b.pe) _ (text_at a.pe b.pe)
    (both_at (text_cmp a.queue b.queue) _ (text_eq a.queue b.queue) _ (text_at a.queue b.queue)
    (both_at (text_cmp a.host b.host) (text_cmp a.resource b.resource) (text_eq a.host b.host) (text_eq a.resource b.resource) (text_at a.host b.host) (text_at a.resource b.resource)))))))
    ∙ regroup (text_eq a.set b.set) (a.rule == b.rule) (text_eq a.user b.user) (text_eq a.project b.project) (text_eq a.pe b.pe) (text_eq a.queue b.queue) (text_eq a.host b.host) (text_eq a.resource b.resource)
same_at (Booked k x) (Booked l y) =
    both_at (nat_cmp k l) (ordering_then (text_cmp x.queue y.queue) (text_cmp x.host y.host)) (k == l) (text_eq x.queue y.queue && text_eq x.host y.host) (sym (unsigned_ties k l))
    (both_at (text_cmp x.queue y.queue) (text_cmp x.host y.host) (text_eq x.queue y.queue) (text_eq x.host y.host) (text_at x.queue y.queue) (text_at x.host y.host))
same_at (Instance x n) (Host y m) = refl
same_at (Instance x n) (Global m) = refl
same_at (Instance x n) (Pe m) = refl
same_at (Instance x n) (Quota m) = refl
same_at (Host x n) (Instance y m) = refl
same_at (Host x n) (Global m) = refl
same_at (Host x n) (Pe m) = refl
same_at (Host x n) (Quota m) = refl
same_at (Global n) (Instance y m) = refl
same_at (Global n) (Host y m) = refl
same_at (Global n) (Pe m) = refl
same_at (Global n) (Quota m) = refl
same_at (Pe n) (Instance y m) = refl
same_at (Pe n) (Host y m) = refl
same_at (Pe n) (Global m) = refl
same_at (Pe n) (Quota m) = refl
same_at (Quota n) (Instance y m) = refl
same_at (Quota n) (Host y m) = refl
same_at (Quota n) (Global m) = refl
same_at (Quota n) (Pe m) = refl
same_at (Instance x n) (Booked k z) = refl
same_at (Booked k z) (Instance y m) = refl
same_at (Host x n) (Booked k z) = refl
same_at (Booked k z) (Host y m) = refl
same_at (Global n) (Booked k z) = refl
same_at (Booked k z) (Global m) = refl
same_at (Pe n) (Booked k z) = refl
same_at (Booked k z) (Pe m) = refl
same_at (Quota n) (Booked k z) = refl
same_at (Booked k z) (Quota m) = refl

abbrev put : List (LimitId × ℕ) → LimitId → ℕ → List (LimitId × ℕ)
put index limit key = insert_entry cmp-value.it index limit key

some_none : (n : ℕ) → Some n ≡ None → ⊥
some_none n e = cc

-- what a limit has in a table with one more pair
pub number_in_more : (index : List (LimitId × ℕ)) (limit : LimitId) (key : ℕ) (other : LimitId) → number_in index limit ≡ None → number_in (put index limit key) other ≡ cond (same_limit other limit) (Some key) (number_in index other)
number_in_more [] limit key other none = refl
number_in_more (e ∷ index) limit key other none = go (λ none_behind. number_in_more index limit key other none_behind) (cmp-value.it limit e.0) refl
  where
    go : (number_in index limit ≡ None → number_in (put index limit key) other ≡ cond (same_limit other limit) (Some key) (number_in index other)) → (o : Ordering) → cmp-value.it limit e.0 ≡ o → number_in (match_ordering o ((limit, key) ∷ e ∷ index) ((e.0, key) ∷ index) (e ∷ put index limit key)) other ≡ cond (same_limit other limit) (Some key) (number_in (e ∷ index) other)
    go more Less h = refl
    go more Equal h =
        let same : same_limit limit e.0 ≡ true = sym (same_at limit e.0) ∙ ap is_eq h in
        let found : number_in (e ∷ index) limit ≡ Some e.1 = cond-true _ _ _ same in
        absurd (some_none e.1 (sym found ∙ none))
    go more Greater h =
        let differs : same_limit limit e.0 ≡ false = sym (same_at limit e.0) ∙ ap is_eq h in
        let none_behind : number_in index limit ≡ None = sym (cond-false _ _ _ differs) ∙ none in
        let rest = more none_behind in
        elim (cases_Bool (same_limit other e.0)) [
          | inl here ↦
              let apart : same_limit other limit ≡ false = false_from_ne_true (same_limit other limit) (λ there. true≢false (sym (subst (λ l. same_limit l e.0 ≡ true) (limits_equal other limit there) here) ∙ differs)) in
              cond-true _ _ _ here ∙ sym (cond-true _ _ _ here) ∙ sym (cond-false _ _ _ apart)
          | inr there ↦ cond-false _ _ _ there ∙ rest ∙ ap (λ o. cond (same_limit other limit) (Some key) o) (sym (cond-false _ _ _ there))
        ]
