-- A table of amounts has at each id the sum of what was put there; so sums once a parent are the sums that each child would make.
use Rattle.std.proofs.Common.{◌≡◌, refl, ap, sym, ◌∙◌}
use Rattle.std.specs.Prelude.{ℕ, ◌^◌, ◌-◌, ◌≤◌, Bool, true, false, ◌==◌, ◌&&◌, ◌||◌, not, cond, List, [], ◌∷◌, filter, fold, Option, Some, unwrap_or, refl as same}
use mathlib.Core.Bool.{true≢false}
use native.Mathlib.Omega.{arith}
use Rattle.std.specs.BTreeMap.{insert_entry, is_at}
use Rattle.std.specs.Map.{lookup}
use Rattle.std.specs.List.{list_any}
use Rattle.std.proofs.lemmas.Bool.Decides.{nat_tests}
use Rattle.std.specs.Ordering.{is_eq, match_ordering, nat_cmp}
use Rattle.std.specs.Cmp.{unsigned_ties}
use Rattle.std.specs.declared.cmp.Ordering.{Ordering}
use Rattle.std.specs.declared.cmp.Ordering.TheVariants.{Less, Equal, Greater}
use Rattle.std.proofs.lemmas.Map.Lookups.{CmpEqualImpliesEq, exact_unsigned}
use Rattle.ge_base.specs.Fixed.{cut_sum}
use Rattle.ge_collections.specs.Keyed.{at_number, put_number}
use Rattle.ge_model_order.specs.Amounts.{cut_total}
use Rattle.ge_model_order.specs.ShareRule.{is_first, is_child_of, is_leaf}
use Rattle.ge_model_order.specs.ShareTree.{Entered}
use Rattle.ge_model_order.specs.ShareTables.{amount_at, raised_amount, with_part, children_sums, child_counts}

pub equal : (o : Ordering) → is_eq o ≡ true → o ≡ Equal
equal Less e = absurd (true≢false (sym e))
equal Equal e = refl
equal Greater e = absurd (true≢false (sym e))

-- a look-up after one more pair was put in, where keys that rank alike are equal
pub put_in : {K X : Type 0} (cmp : K → K → Ordering) → CmpEqualImpliesEq cmp → (rows : List (K × X)) (k q : K) (v : X)
    → lookup (is_at (cmp q)) (insert_entry cmp rows k v) ≡ cond (is_eq (cmp q k)) (Some v) (lookup (is_at (cmp q)) rows)
put_in cmp exact [] k q v = refl
put_in {K} {X} cmp exact (row ∷ rows) k q v = by (cmp k row.0) same (put_in cmp exact rows k q v)
  where
    twice : (b : Bool) (o : Option X) → cond b (Some v) o ≡ cond b (Some v) (cond b (Some row.1) o)
    twice true o = refl
    twice false o = refl

    apart : (b : Bool) → is_eq (cmp q row.0) ≡ b → (d : Bool) → is_eq (cmp q k) ≡ d → is_eq (cmp k row.0) ≡ false
        → cond b (Some row.1) (cond d (Some v) (lookup (is_at (cmp q)) rows)) ≡ cond d (Some v) (cond b (Some row.1) (lookup (is_at (cmp q)) rows))
    apart true at true there other = absurd (true≢false (sym (ap (λ (n : K). is_eq (cmp n row.0)) (sym (exact q k (equal (cmp q k) there))) ∙ at) ∙ other))
    apart true at false there other = refl
    apart false at true there other = refl
    apart false at false there other = refl

    by : (o : Ordering) → cmp k row.0 ≡ o → lookup (is_at (cmp q)) (insert_entry cmp rows k v) ≡ cond (is_eq (cmp q k)) (Some v) (lookup (is_at (cmp q)) rows)
        → lookup (is_at (cmp q)) (match_ordering o ((k, v) ∷ row ∷ rows) ((row.0, v) ∷ rows) (row ∷ insert_entry cmp rows k v))
        ≡ cond (is_eq (cmp q k)) (Some v) (cond (is_eq (cmp q row.0)) (Some row.1) (lookup (is_at (cmp q)) rows))
    by Less is later = refl
    by Equal is later =
        twice (is_eq (cmp q row.0)) (lookup (is_at (cmp q)) rows)
        ∙ ap (λ (n : K). cond (is_eq (cmp q n)) (Some v) (cond (is_eq (cmp q row.0)) (Some row.1) (lookup (is_at (cmp q)) rows))) (sym (exact k row.0 is))
    by Greater is later =
        ap (λ (o : Option X). cond (is_eq (cmp q row.0)) (Some row.1) o) later ∙ apart (is_eq (cmp q row.0)) same (is_eq (cmp q k)) same (ap is_eq is)

-- the same of a table by number
pub put_at : {X : Type 0} (rows : List (ℕ × X)) (k q : ℕ) (v : X) → at_number (put_number rows k v) q ≡ cond (is_eq (nat_cmp q k)) (Some v) (at_number rows q)
put_at rows k q v = put_in nat_cmp exact_unsigned rows k q v

-- no amount is above the end
abbrev pub AreCut : List (ℕ × ℕ) → Type 0
AreCut rows = (q : ℕ) → amount_at rows q ≤ 2 ^ 128 - 1

pub none_cut : AreCut []
none_cut q = omega arith

-- what is put at an id is added there, and nowhere else
pub raised_at : (rows : List (ℕ × ℕ)) (id q amount : ℕ) → AreCut rows → amount_at (raised_amount amount rows id) q ≡ cut_sum (amount_at rows q) (cond (is_eq (nat_cmp id q)) amount 0)
raised_at rows id q amount cut = ap (λ (o : Option ℕ). unwrap_or o 0) (put_at rows id q (cut_sum (amount_at rows id) amount)) ∙ by (is_eq (nat_cmp q id)) same (is_eq (nat_cmp id q)) same
  where
    by : (b : Bool) → is_eq (nat_cmp q id) ≡ b → (d : Bool) → is_eq (nat_cmp id q) ≡ d → unwrap_or (cond b (Some (cut_sum (amount_at rows id) amount)) (at_number rows q)) 0 ≡ cut_sum (amount_at rows q) (cond d amount 0)
    by true at true there = ap (λ (n : ℕ). cut_sum (amount_at rows n) amount) (exact_unsigned id q (equal (nat_cmp id q) there))
    by true at false there = absurd (true≢false (sym (ap (λ (n : ℕ). is_eq (nat_cmp n q)) (sym (exact_unsigned q id (equal (nat_cmp q id) at))) ∙ ap (λ (n : ℕ). is_eq (nat_cmp q n)) (exact_unsigned q id (equal (nat_cmp q id) at)) ∙ at) ∙ there))
    by false at true there = absurd (true≢false (sym (ap (λ (n : ℕ). is_eq (nat_cmp n id)) (sym (exact_unsigned id q (equal (nat_cmp id q) there))) ∙ ap (λ (n : ℕ). is_eq (nat_cmp id n)) (exact_unsigned id q (equal (nat_cmp id q) there)) ∙ there) ∙ at))
    by false at false there = let least = cut q in omega arith

pub raised_cut : (rows : List (ℕ × ℕ)) (id amount : ℕ) → AreCut rows → AreCut (raised_amount amount rows id)
raised_cut rows id amount cut q = let is = raised_at rows id q amount cut in omega arith

-- the sums of the children of each node are what every child would sum itself
with_part_cut : (part : Entered → ℕ) (rows : List (ℕ × ℕ)) (node : Entered) (above : List ℕ) → AreCut rows → AreCut (with_part part rows node above)
with_part_cut part rows node [] cut = cut
with_part_cut part rows node (parent ∷ above) cut = raised_cut rows parent (part node) cut

abbrev add_part : (Entered → ℕ) → ℕ → Entered → ℕ
add_part part total node = cut_sum total (part node)

children_at : (part : Entered → ℕ) (tree : List Entered) (rows : List (ℕ × ℕ)) (q : ℕ) → AreCut rows
    → amount_at (fold (λ rows node. with_part part rows node node.above) rows tree) q ≡ fold (add_part part) (amount_at rows q) (filter (is_child_of q) tree)
children_at part [] rows q cut = refl
children_at part (node ∷ tree) rows q cut = children_at part tree (with_part part rows node node.above) q (with_part_cut part rows node node.above cut) ∙ step node.above
  where
    by : (b : Bool) → fold (add_part part) (cut_sum (amount_at rows q) (cond b (part node) 0)) (filter (is_child_of q) tree) ≡ fold (add_part part) (amount_at rows q) (cond b (node ∷ filter (is_child_of q) tree) (filter (is_child_of q) tree))
    by true = refl
    by false = let least = cut q in ap (λ (n : ℕ). fold (add_part part) n (filter (is_child_of q) tree)) (omega arith)

    step : (above : List ℕ) → fold (add_part part) (amount_at (with_part part rows node above) q) (filter (is_child_of q) tree)
        ≡ fold (add_part part) (amount_at rows q) (cond (is_first q above) (node ∷ filter (is_child_of q) tree) (filter (is_child_of q) tree))
    step [] = refl
    step (parent ∷ above) =
        ap (λ (n : ℕ). fold (add_part part) n (filter (is_child_of q) tree)) (raised_at rows parent q (part node) cut)
        ∙ by (is_eq (nat_cmp parent q))
        ∙ ap (λ (b : Bool). fold (add_part part) (amount_at rows q) (cond b (node ∷ filter (is_child_of q) tree) (filter (is_child_of q) tree))) (sym (unsigned_ties parent q))

-- the sums once a parent are those that the rule makes of the children of each node
pub children_sums-at : (part : Entered → ℕ) (tree : List Entered) (q : ℕ) → amount_at (children_sums part tree) q ≡ cut_total part (filter (is_child_of q) tree)
children_sums-at part tree q = children_at part tree [] q none_cut

-- a node has no child where none was counted for it
none_or_more : (p : Entered → Bool) (tree : List Entered) (n : ℕ) → (fold (add_part (λ node. 1)) n (filter p tree) == 0) ≡ ((n == 0) && not (list_any p tree))
none_or_more p [] n = one (n == 0)
  where
    one : (b : Bool) → b ≡ (b && true)
    one true = refl
    one false = refl
none_or_more p (node ∷ tree) n = by (p node) (none_or_more p tree n) (none_or_more p tree (cut_sum n 1))
  where
    never : (b : Bool) → (b && false) ≡ false
    never true = refl
    never false = refl

    by : (b : Bool) → (fold (add_part (λ node. 1)) n (filter p tree) == 0) ≡ ((n == 0) && not (list_any p tree))
        → (fold (add_part (λ node. 1)) (cut_sum n 1) (filter p tree) == 0) ≡ ((cut_sum n 1 == 0) && not (list_any p tree))
        → (fold (add_part (λ node. 1)) n (cond b (node ∷ filter p tree) (filter p tree)) == 0) ≡ ((n == 0) && not (b || list_any p tree))
    by true later more = more ∙ ap (λ (b : Bool). b && not (list_any p tree)) (let e : (cut_sum n 1 == 0) ≡ false = grind (arith, nat_tests) in e) ∙ sym (never (n == 0))
    by false later more = later

-- whether a node is a leaf: once counted, a look-up
pub is_leaf-counted : (tree : List Entered) (node : Entered) → (amount_at (child_counts tree) node.id == 0) ≡ is_leaf tree node
is_leaf-counted tree node = ap (λ (n : ℕ). n == 0) (children_sums-at (λ node. 1) tree node.id) ∙ none_or_more (is_child_of node.id) tree 0
