-- Amounts raised along one line again and again are raised once, by their sum.
use Rattle.std.proofs.Common.{◌≡◌, ℕ, ◌<◌, ◌==◌, inl, inr, Bool, true, false, cond, List, [], ◌∷◌, fold, Option, Some, None, unwrap_or, refl, sym, ap, ◌∙◌, arith, nat_cmp, Ordering, Less, Equal, Greater}
use Rattle.std.specs.BTreeMap.{is_at}
use Rattle.std.specs.Ordering.{match_ordering}
use Rattle.std.proofs.lemmas.Bool.{cases_Bool, eqb-true, eq-eqb}
use Rattle.ge_base.specs.Fixed.{cut_sum}
use Rattle.ge_collections.specs.Keyed.{at_number, put_number}
use Rattle.ge_model_jobs.proofs.Keys.{same_key}
use Rattle.ge_model_jobs.specs.Usage.{UsageKey, decayed}
use Rattle.ge_model_order.specs.ShareTables.{amount_at, raised_amount, raised_along}
use Rattle.ge_tickets.specs.declared.finding.LeafFinder.{LeafFinder}
use Rattle.ge_tickets.specs.Found.{line_by}
use Rattle.ge_tickets.specs.Listed.{with_usage_by}

-- tables by number, of which a row is put in

same_order : (k : ℕ) → nat_cmp k k ≡ Equal
same_order k = grind arith

put_twice : (k x y : ℕ) (rows : List (ℕ × ℕ)) → put_number (put_number rows k x) k y ≡ put_number rows k y
put_twice k x y [] = ap (λ (o : Ordering). match_ordering o ((k, y) ∷ (k, x) ∷ []) ((k, y) ∷ []) ((k, x) ∷ (k, y) ∷ [])) (same_order k)
put_twice k x y (row ∷ rows) = by (nat_cmp k row.0) refl (put_twice k x y rows)
  where
    by : (order : Ordering) → nat_cmp k row.0 ≡ order → put_number (put_number rows k x) k y ≡ put_number rows k y
        → put_number (match_ordering order ((k, x) ∷ row ∷ rows) ((row.0, x) ∷ rows) (row ∷ put_number rows k x)) k y
        ≡ match_ordering order ((k, y) ∷ row ∷ rows) ((row.0, y) ∷ rows) (row ∷ put_number rows k y)
    by Less is again = ap (λ (o : Ordering). match_ordering o ((k, y) ∷ (k, x) ∷ row ∷ rows) ((k, y) ∷ row ∷ rows) ((k, x) ∷ put_number (row ∷ rows) k y)) (same_order k)
    by Equal is again = ap (λ (o : Ordering). match_ordering o ((k, y) ∷ (row.0, x) ∷ rows) ((row.0, y) ∷ rows) ((row.0, x) ∷ put_number rows k y)) is
    by Greater is again =
        ap (λ (o : Ordering). match_ordering o ((k, y) ∷ row ∷ put_number rows k x) ((row.0, y) ∷ put_number rows k x) (row ∷ put_number (put_number rows k x) k y)) is
        ∙ ap (λ (later : List (ℕ × ℕ)). row ∷ later) again

-- what is found at a number, once a row is put in
at_put : (n key x : ℕ) (rows : List (ℕ × ℕ)) → at_number (put_number rows key x) n ≡ cond (n == key) (Some x) (at_number rows n)
at_put n key x [] = ap (λ here. cond here (Some x) None) (same_key n key)
at_put n key x (row ∷ rows) = by (nat_cmp key row.0) refl (at_put n key x rows)
  where
    behind : Option ℕ
    behind = at_number rows n

    passed : (first here : Bool) → (first ≡ true → here ≡ false) → cond first (Some row.1) (cond here (Some x) behind) ≡ cond here (Some x) (cond first (Some row.1) behind)
    passed true true h = absurd (grind arith)
    passed true false h = refl
    passed false here h = refl

    replaced : (first here : Bool) → first ≡ here → cond first (Some x) behind ≡ cond here (Some x) (cond first (Some row.1) behind)
    replaced true true h = refl
    replaced true false h = absurd (grind arith)
    replaced false true h = absurd (grind arith)
    replaced false false h = refl

    by : (order : Ordering) → nat_cmp key row.0 ≡ order → at_number (put_number rows key x) n ≡ cond (n == key) (Some x) behind
        → at_number (match_ordering order ((key, x) ∷ row ∷ rows) ((row.0, x) ∷ rows) (row ∷ put_number rows key x)) n ≡ cond (n == key) (Some x) (cond (is_at (nat_cmp n) row.0) (Some row.1) behind)
    by Less is again = ap (λ here. cond here (Some x) (cond (is_at (nat_cmp n) row.0) (Some row.1) behind)) (same_key n key)
    by Equal is again = replaced (is_at (nat_cmp n) row.0) (n == key) (grind arith)
    by Greater is again = ap (λ z. cond (is_at (nat_cmp n) row.0) (Some row.1) z) again ∙ passed (is_at (nat_cmp n) row.0) (n == key) (λ h. grind arith)

-- a row is put in at the head of a table, in place of it, or behind it
headed : (n v : ℕ) (e : ℕ × ℕ) (es : List (ℕ × ℕ)) (o : Ordering) → nat_cmp n e.0 ≡ o → put_number (e ∷ es) n v ≡ match_ordering o ((n, v) ∷ e ∷ es) ((e.0, v) ∷ es) (e ∷ put_number es n v)
headed n v e es o is = ap (λ (order : Ordering). match_ordering order ((n, v) ∷ e ∷ es) ((e.0, v) ∷ es) (e ∷ put_number es n v)) is

-- rows at two numbers are put in in either order
module _ (k j x y : ℕ) (lower : k < j) where
  is_less : nat_cmp k j ≡ Less
  is_less = grind arith

  is_greater : nat_cmp j k ≡ Greater
  is_greater = grind arith

  put_lower : (rows : List (ℕ × ℕ)) → put_number (put_number rows j y) k x ≡ put_number (put_number rows k x) j y
  put_lower [] = headed k x (j, y) [] Less is_less ∙ sym (headed j y (k, x) [] Greater is_greater)
  put_lower (row ∷ rows) = by (nat_cmp k row.0) refl (nat_cmp j row.0) refl (put_lower rows)
    where
      before : (o : Ordering) → nat_cmp j row.0 ≡ o → put_number ((k, x) ∷ row ∷ rows) j y ≡ (k, x) ∷ match_ordering o ((j, y) ∷ row ∷ rows) ((row.0, y) ∷ rows) (row ∷ put_number rows j y)
      before o is = headed j y (k, x) (row ∷ rows) Greater is_greater ∙ ap (λ (later : List (ℕ × ℕ)). (k, x) ∷ later) (headed j y row rows o is)

      by : (a : Ordering) → nat_cmp k row.0 ≡ a → (b : Ordering) → nat_cmp j row.0 ≡ b → put_number (put_number rows j y) k x ≡ put_number (put_number rows k x) j y
          → put_number (match_ordering b ((j, y) ∷ row ∷ rows) ((row.0, y) ∷ rows) (row ∷ put_number rows j y)) k x
          ≡ put_number (match_ordering a ((k, x) ∷ row ∷ rows) ((row.0, x) ∷ rows) (row ∷ put_number rows k x)) j y
      by Less is_a Less is_b again = headed k x (j, y) (row ∷ rows) Less is_less ∙ sym (before Less is_b)
      by Less is_a Equal is_b again = headed k x (row.0, y) rows Less is_a ∙ sym (before Equal is_b)
      by Less is_a Greater is_b again = headed k x row (put_number rows j y) Less is_a ∙ sym (before Greater is_b)
      by Equal is_a Less is_b again = absurd (grind arith)
      by Equal is_a Equal is_b again = absurd (grind arith)
      by Equal is_a Greater is_b again = headed k x row (put_number rows j y) Equal is_a ∙ sym (headed j y (row.0, x) rows Greater is_b)
      by Greater is_a Less is_b again = absurd (grind arith)
      by Greater is_a Equal is_b again = absurd (grind arith)
      by Greater is_a Greater is_b again =
          headed k x row (put_number rows j y) Greater is_a ∙ ap (λ (later : List (ℕ × ℕ)). row ∷ later) again ∙ sym (headed j y row (put_number rows k x) Greater is_b)

put_either : (k j x y : ℕ) (rows : List (ℕ × ℕ)) → (k == j) ≡ false → put_number (put_number rows j y) k x ≡ put_number (put_number rows k x) j y
put_either k j x y rows apart = by (nat_cmp k j) refl
  where
    by : (o : Ordering) → nat_cmp k j ≡ o → put_number (put_number rows j y) k x ≡ put_number (put_number rows k x) j y
    by Less is = put_lower k j x y (grind arith) rows
    by Equal is = absurd (grind arith)
    by Greater is = sym (put_lower j k y x (grind arith) rows)

-- amounts at nodes, raised one after the other

sums_cut : (v a b : ℕ) → cut_sum (cut_sum v a) b ≡ cut_sum v (cut_sum a b)
sums_cut v a b = omega arith

in_turn : (a b : ℕ) → cut_sum a b ≡ cut_sum b a
in_turn a b = omega arith

-- at one node
twice_there : (amounts : List (ℕ × ℕ)) (id a b : ℕ) → raised_amount b (raised_amount a amounts id) id ≡ raised_amount (cut_sum a b) amounts id
twice_there amounts id a b =
    let first : ℕ = cut_sum (amount_at amounts id) a in
    let there : amount_at (put_number amounts id first) id ≡ first =
    ap (λ (found : Option ℕ). unwrap_or found 0) (at_put id id first amounts ∙ ap (λ (here : Bool). cond here (Some first) (at_number amounts id)) (eq-eqb id id refl)) in
    put_twice id first (cut_sum (amount_at (put_number amounts id first) id) b) amounts
    ∙ ap (λ (n : ℕ). put_number amounts id (cut_sum n b)) there
    ∙ ap (λ (n : ℕ). put_number amounts id n) (sums_cut (amount_at amounts id) a b)

-- at two nodes
either_first : (amounts : List (ℕ × ℕ)) (k j a b : ℕ) → raised_amount b (raised_amount a amounts j) k ≡ raised_amount a (raised_amount b amounts k) j
either_first amounts k j a b =
    elim (cases_Bool (k == j)) [
      | inl one ↦
          ap (λ (n : ℕ). raised_amount b (raised_amount a amounts j) n) (eqb-true k j one)
          ∙ twice_there amounts j a b
          ∙ ap (λ (n : ℕ). raised_amount n amounts j) (in_turn a b)
          ∙ sym (twice_there amounts j b a)
          ∙ ap (λ (n : ℕ). raised_amount a (raised_amount b amounts n) j) (sym (eqb-true k j one))
      | inr two ↦
          let at_j : ℕ = cut_sum (amount_at amounts j) a in
          let at_k : ℕ = cut_sum (amount_at amounts k) b in
          let left : amount_at (put_number amounts j at_j) k ≡ amount_at amounts k =
          ap (λ (found : Option ℕ). unwrap_or found 0) (at_put k j at_j amounts ∙ ap (λ (here : Bool). cond here (Some at_j) (at_number amounts k)) two) in
          let right : amount_at (put_number amounts k at_k) j ≡ amount_at amounts j =
          ap (λ (found : Option ℕ). unwrap_or found 0) (at_put j k at_k amounts ∙ ap (λ (here : Bool). cond here (Some at_k) (at_number amounts j)) (other_way two)) in
          ap (λ (n : ℕ). put_number (put_number amounts j at_j) k (cut_sum n b)) left
          ∙ put_either k j at_k at_j amounts two
          ∙ ap (λ (n : ℕ). put_number (put_number amounts k at_k) j (cut_sum n a)) (sym right)
    ]
  where
    other_way : (k == j) ≡ false → (j == k) ≡ false
    other_way apart = grind arith

one_first : (amounts : List (ℕ × ℕ)) (id more a : ℕ) (line : List ℕ) → raised_amount more (raised_along amounts line a) id ≡ raised_along (raised_amount more amounts id) line a
one_first amounts id more a [] = refl
one_first amounts id more a (next ∷ line) =
    one_first (raised_amount a amounts next) id more a line ∙ ap (λ (rows : List (ℕ × ℕ)). raised_along rows line a) (either_first amounts id next a more)

-- along a line
raised_twice : (amounts : List (ℕ × ℕ)) (line : List ℕ) (a b : ℕ) → raised_along (raised_along amounts line a) line b ≡ raised_along amounts line (cut_sum a b)
raised_twice amounts [] a b = refl
raised_twice amounts (id ∷ line) a b =
    ap (λ (rows : List (ℕ × ℕ)). raised_along rows line b) (one_first (raised_amount a amounts id) id b a line)
    ∙ raised_twice (raised_amount b (raised_amount a amounts id) id) line a b
    ∙ ap (λ (rows : List (ℕ × ℕ)). raised_along rows line (cut_sum a b)) (twice_there amounts id a b)

module _ (epoch : ℕ) (finder : LeafFinder) (usage : List (ℕ × ℕ)) (line : List ℕ) (sum : ℕ) where
  -- a row of the user and project whose usage is summed up
  pub summed_more : (key : UsageKey) (amount : ℕ) (rest : List (UsageKey × ℕ)) → line ≡ line_by finder key.0 key.1
      → fold (with_usage_by epoch finder) (raised_along usage line sum) ((key, amount) ∷ rest) ≡ fold (with_usage_by epoch finder) (raised_along usage line (cut_sum sum (decayed amount key.2 epoch))) rest
  summed_more key amount rest is =
      ap (λ (rows : List (ℕ × ℕ)). fold (with_usage_by epoch finder) rows rest)
      (ap (λ (own : List ℕ). raised_along (raised_along usage line sum) own (decayed amount key.2 epoch)) (sym is) ∙ raised_twice usage line sum (decayed amount key.2 epoch))
