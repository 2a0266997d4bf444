-- Walks of a share tree, and what they tell.
use Rattle.std.proofs.Common.{◌≡◌, ℕ, zero, suc, ◌+◌, ◌-◌, ◌*◌, ◌^◌, ◌<◌, ◌≤◌, Bool, true, false, cond, not, ◌&&◌, ◌||◌, List, [], ◌∷◌, ◌++◌, length, take, get_or, refl, sym, ap, ◌∙◌, subst, arith, true≢false}
use Rattle.std.specs.Prelude.{◌==◌, is_none, nat_lt, nat_le, Option, Some, None, fold, filter_map, flat_map, slice_get, count_by}
use Rattle.std.specs.List.{list_any, list_all, cons_option}
use Rattle.std.specs.Option.{option_to_list}
use Rattle.std.specs.Map.{keys_of, lookup}
use Rattle.std.specs.BTreeMap.{is_at}
use Rattle.std.specs.Ordering.{nat_cmp, match_ordering}
use Rattle.std.specs.declared.cmp.Ordering.{Ordering}
use Rattle.std.specs.declared.cmp.Ordering.TheVariants.{Less, Equal, Greater}
use Rattle.std.proofs.lemmas.Bool.{eqb-true, ltb-true, leb-true, ne_eqb, and_parts}
use Rattle.std.specs.Cmp.{unsigned_ties}
use Rattle.std.proofs.lemmas.List.Folds.{list_any-append}
use Rattle.std.proofs.lemmas.List.{take_more}
use Rattle.std.proofs.lemmas.List.Sums.{fold-append}
use Rattle.std.proofs.lemmas.List.Concat.{flat_map-append}
use Rattle.ge_collections.specs.Keyed.{at_number, put_number}
use Rattle.ge_model_rows.specs.PeopleRows.{ShareNode}
use Rattle.ge_model_rows.specs.ValueRows.{Value, Kind}
use Rattle.ge_model_rows.specs.Values.{amount_in, value_of}
use Rattle.ge_model_rows.specs.Pieces.{lists_number, with_one_number}
use Rattle.ge_model_grammar.specs.declared.NodeLines.{NodeLines}
use Rattle.ge_model_config.specs.Shares.{id_within, id_of, put_node, node_from_lines, nodes_of, children_at, reached_nodes, has_one_parent, user_name}
use Rattle.ge_config.specs.ShareTree.{has_short_ids, with_child, met_children}
use Rattle.ge_config.proofs.Lists.{or_false, or_true, or_joined}

-- ---- walks

-- what is reached from a place, by what stands there
abbrev pub spread : ℕ → List (ℕ × ShareNode) → List ℕ → ℕ → Option ℕ → List ℕ
spread places table met place None = met
spread places table met place (Some id) = reached_nodes places table (fold with_one_number met (children_at table id)) (place + 1)

pub reached_step : (places place : ℕ) (table : List (ℕ × ShareNode)) (met : List ℕ) → place < places
    → reached_nodes (places - place) table met place ≡ spread (places - (place + 1)) table met place (slice_get met place)
reached_step places place table met within =
    let e : places - place ≡ suc (places - (place + 1)) = omega (arith, within) in
    ap (λ (n : ℕ). reached_nodes n table met place) e ∙ by (slice_get met place) refl
  where
    by : (at : Option ℕ) → slice_get met place ≡ at → reached_nodes (suc (places - (place + 1))) table met place ≡ spread (places - (place + 1)) table met place at
    by None is = rw (is, reached_nodes) refl
    by (Some id) is = rw (is, reached_nodes) refl

pub reached_last : (places place : ℕ) (table : List (ℕ × ShareNode)) (met : List ℕ) → slice_get met place ≡ None → reached_nodes places table met place ≡ met
reached_last zero place table met is = refl
reached_last (suc places) place table met is = rw (is, reached_nodes) refl

pub reached_all : (places place : ℕ) (table : List (ℕ × ShareNode)) (met : List ℕ) → places ≤ place → reached_nodes (places - place) table met place ≡ met
reached_all places place table met over = let e : places - place ≡ 0 = omega (arith, over) in ap (λ (n : ℕ). reached_nodes n table met place) e

cons_listed : {T : Type 0} (item : Option T) (items : List T) → cons_option item items ≡ option_to_list item ++ items
cons_listed None items = refl
cons_listed (Some item) items = refl

pub names_listed : (table : List (ℕ × ShareNode)) (ids : List ℕ) → flat_map (λ id. option_to_list (user_name table id)) ids ≡ filter_map (user_name table) ids
names_listed table [] = refl
names_listed table (id ∷ ids) =
    ap (λ (names : List (List ℕ)). option_to_list (user_name table id) ++ names) (names_listed table ids) ∙ sym (cons_listed (user_name table id) (filter_map (user_name table) ids))

pub without_end : {A : Type 0} (xs : List A) → xs ++ [] ≡ xs
without_end [] = refl
without_end (x ∷ xs) = ap (λ ys. x ∷ ys) (without_end xs)

flat_more : {A : Type 0} (f : ℕ → List A) (xs : List ℕ) (i d : ℕ) → i < length xs → flat_map f (take (i + 1) xs) ≡ flat_map f (take i xs) ++ f (get_or xs i d)
flat_more {A} f xs i d within =
    ap (flat_map f) (take_more xs i d within) ∙ flat_map-append f (take i xs) (get_or xs i d ∷ [])
    ∙ ap (λ (ys : List A). flat_map f (take i xs) ++ ys) (without_end (f (get_or xs i d)))

-- the children of one more node
pub level_more : (table : List (ℕ × ShareNode)) (ids : List ℕ) (i d : ℕ) (before added after : List ℕ) → i < length ids
    → before ≡ flat_map (children_at table) (take i ids) → added ≡ children_at table (get_or ids i d) → after ≡ before ++ added
    → after ≡ flat_map (children_at table) (take (i + 1) ids)
level_more table ids i d before added after within so_far one more =
    more ∙ ap (λ (xs : List ℕ). xs ++ added) so_far ∙ ap (λ (xs : List ℕ). flat_map (children_at table) (take i ids) ++ xs) one
    ∙ sym (flat_more (children_at table) ids i d within)

pub once_more : (table : List (ℕ × ShareNode)) (ids : List ℕ) (i d : ℕ) (before added after : List ℕ) → i < length ids
    → before ≡ fold with_one_number [] (flat_map (children_at table) (take i ids)) → added ≡ children_at table (get_or ids i d)
    → after ≡ fold with_one_number before added → after ≡ fold with_one_number [] (flat_map (children_at table) (take (i + 1) ids))
once_more table ids i d before added after within so_far one more =
    more ∙ ap (λ (xs : List ℕ). fold with_one_number xs added) so_far
    ∙ sym (fold-append with_one_number [] (flat_map (children_at table) (take i ids)) added)
    ∙ ap (λ (xs : List ℕ). fold with_one_number [] (flat_map (children_at table) (take i ids) ++ xs)) one
    ∙ ap (λ (xs : List ℕ). fold with_one_number [] xs) (sym (flat_more (children_at table) ids i d within))

-- the name of one more node
pub names_more : (table : List (ℕ × ShareNode)) (ids : List ℕ) (i d : ℕ) (before after : List (List ℕ)) → i < length ids
    → before ≡ flat_map (λ id. option_to_list (user_name table id)) (take i ids) → after ≡ before ++ option_to_list (user_name table (get_or ids i d))
    → after ≡ flat_map (λ id. option_to_list (user_name table id)) (take (i + 1) ids)
names_more table ids i d before after within so_far more =
    more ∙ ap (λ (xs : List (List ℕ)). xs ++ option_to_list (user_name table (get_or ids i d))) so_far
    ∙ sym (flat_more (λ id. option_to_list (user_name table id)) ids i d within)

-- ---- children that are one once

passed_number : (p : ℕ → Bool) (numbers : List ℕ) (n : ℕ) → lists_number numbers n ≡ true → (list_any p numbers || p n) ≡ list_any p numbers
passed_number p [] n there = absurd (true≢false (sym there))
passed_number p (first ∷ numbers) n there = by (first == n) refl there (passed_number p numbers n)
  where
    twice : (a b : Bool) → (a || b || a) ≡ (a || b)
    twice true b = refl
    twice false true = refl
    twice false false = refl

    by : (same : Bool) → (first == n) ≡ same → (same || lists_number numbers n) ≡ true → (lists_number numbers n ≡ true → (list_any p numbers || p n) ≡ list_any p numbers)
        → (p first || list_any p numbers || p n) ≡ (p first || list_any p numbers)
    by true is later rest = ap (λ (m : ℕ). p first || list_any p numbers || p m) (sym (eqb-true first n is)) ∙ twice (p first) (list_any p numbers)
    by false is later rest = or_joined (p first) (list_any p numbers) (p n) ∙ ap (λ (b : Bool). p first || b) (rest later)

pub listed_with : (numbers : List ℕ) (n id : ℕ) → lists_number (with_one_number numbers n) id ≡ (lists_number numbers id || n == id)
listed_with numbers n id = by (lists_number numbers n) refl
  where
    by : (there : Bool) → lists_number numbers n ≡ there → lists_number (cond there numbers (numbers ++ n ∷ [])) id ≡ (lists_number numbers id || n == id)
    by true is = sym (passed_number (λ m. m == id) numbers n is)
    by false is = list_any-append (λ m. m == id) numbers (n ∷ []) ∙ ap (λ (b : Bool). lists_number numbers id || b) (or_false (n == id))

at_least_one : ℕ → Bool
at_least_one zero = false
at_least_one (suc n) = true

at_least_two : ℕ → Bool
at_least_two zero = false
at_least_two (suc n) = at_least_one n

one_more : (n : ℕ) → n + 1 ≡ suc n
one_more n = omega arith

none_more : (n : ℕ) → n + 0 ≡ n
none_more n = omega arith

-- what is met of an id that was a child so many times
record Met (met : List ℕ × List ℕ) (id n : ℕ) : Type 0 where
  has_one : lists_number met.0 id ≡ at_least_one n
  has_two : lists_number met.1 id ≡ at_least_two n

met_more : (met : List ℕ × List ℕ) (child id n : ℕ) → Met met id n → Met (with_child met child) id (n + cond (child == id) 1 0)
unfolding at_least_one at_least_two
met_more met child id n m = by (child == id) refl
  where
    other : (there : Bool) → (child == id) ≡ false → lists_number (cond there (with_one_number met.1 child) met.1) id ≡ lists_number met.1 id
    other true is = listed_with met.1 child id ∙ ap (λ (b : Bool). lists_number met.1 id || b) is ∙ or_false (lists_number met.1 id)
    other false is = refl

    again : (k : ℕ) → lists_number met.0 id ≡ at_least_one k → lists_number met.1 id ≡ at_least_two k → (child == id) ≡ true
        → lists_number (cond (lists_number met.0 id) (with_one_number met.1 id) met.1) id ≡ at_least_two (suc k)
    again zero one two is = ap (λ (b : Bool). lists_number (cond b (with_one_number met.1 id) met.1) id) one ∙ two
    again (suc k) one two is =
        ap (λ (b : Bool). lists_number (cond b (with_one_number met.1 id) met.1) id) one ∙ listed_with met.1 id id
        ∙ ap (λ (b : Bool). lists_number met.1 id || b) (ap (λ (c : ℕ). c == id) (sym (eqb-true child id is)) ∙ is) ∙ or_true (lists_number met.1 id)

    by : (same : Bool) → (child == id) ≡ same → Met (with_child met child) id (n + cond same 1 0)
    by true is = record {
      has_one = listed_with met.0 child id ∙ ap (λ (b : Bool). lists_number met.0 id || b) is ∙ or_true (lists_number met.0 id) ∙ sym (ap at_least_one (one_more n));
      has_two = ap (λ (c : ℕ). lists_number (cond (lists_number met.0 c) (with_one_number met.1 c) met.1) id) (eqb-true child id is) ∙ again n m.has_one m.has_two is ∙ sym (ap at_least_two (one_more n));
    }
    by false is = record {
      has_one = listed_with met.0 child id ∙ ap (λ (b : Bool). lists_number met.0 id || b) is ∙ or_false (lists_number met.0 id) ∙ m.has_one ∙ sym (ap at_least_one (none_more n));
      has_two = other (lists_number met.0 child) is ∙ m.has_two ∙ sym (ap at_least_two (none_more n));
    }

met_all : (children : List ℕ) (met : List ℕ × List ℕ) (id n : ℕ) → Met met id n → Met (fold with_child met children) id (fold (λ a child. a + cond (child == id) 1 0) n children)
met_all [] met id n m = m
met_all (child ∷ children) met id n m = met_all children (with_child met child) id (n + cond (child == id) 1 0) (met_more met child id n m)

just_one : (n : ℕ) → (at_least_one n && not (at_least_two n)) ≡ (n == 1)
unfolding at_least_one at_least_two
just_one zero = refl
just_one (suc zero) = refl
just_one (suc (suc n)) = sym (ne_eqb (suc (suc n)) 1 (λ e. omega (arith, e)))

once_is : (children : List ℕ) (id : ℕ)
    → (id == 0 || lists_number (met_children children).0 id && not (lists_number (met_children children).1 id)) ≡ has_one_parent children id
unfolding at_least_one at_least_two
once_is children id =
    let m : Met (met_children children) id (count_by (λ child. child == id) children) = met_all children ([], []) id 0 (record { has_one = refl; has_two = refl }) in
    ap (λ (b : Bool). id == 0 || b)
    (ap (λ (b : Bool). b && not (lists_number (met_children children).1 id)) m.has_one
    ∙ ap (λ (b : Bool). at_least_one (count_by (λ child. child == id) children) && not b) m.has_two
    ∙ just_one (count_by (λ child. child == id) children))

pub all_same : (p q : ℕ → Bool) → ((n : ℕ) → p n ≡ q n) → (ids : List ℕ) → list_all p ids ≡ list_all q ids
all_same p q each [] = refl
all_same p q each (id ∷ ids) = ap (λ (b : Bool). b && list_all p ids) (each id) ∙ ap (λ (b : Bool). q id && b) (all_same p q each ids)

-- each node but the root is met, and not met twice, where it is the child of just one
pub one_parent : (children ids : List ℕ) (met : List ℕ × List ℕ) → met ≡ met_children children
    → list_all (λ id. id == 0 || lists_number met.0 id && not (lists_number met.1 id)) ids ≡ list_all (has_one_parent children) ids
one_parent children ids met is =
    ap (λ (m : List ℕ × List ℕ). list_all (λ id. id == 0 || lists_number m.0 id && not (lists_number m.1 id)) ids) is
    ∙ all_same (λ id. id == 0 || lists_number (met_children children).0 id && not (lists_number (met_children children).1 id)) (has_one_parent children) (once_is children) ids

-- ---- ids are below 2^32

short_put : (table : List (ℕ × ShareNode)) (id : ℕ) (node : ShareNode) → has_short_ids table ≡ true → nat_lt id (2 ^ 32) ≡ true → has_short_ids (put_number table id node) ≡ true
short_put [] id node all short = ap (λ (b : Bool). b && true) short
short_put (first ∷ table) id node all short = by (nat_cmp id first.0) (short_put table id node parts.1 short)
  where
    parts : (nat_lt first.0 (2 ^ 32) ≡ true) × (has_short_ids table ≡ true)
    parts = and_parts (nat_lt first.0 (2 ^ 32)) (has_short_ids table) all

    by : (o : Ordering) → has_short_ids (put_number table id node) ≡ true → has_short_ids (match_ordering o ((id, node) ∷ first ∷ table) ((first.0, node) ∷ table) (first ∷ put_number table id node)) ≡ true
    by Less rest = ap (λ (b : Bool). b && has_short_ids (first ∷ table)) short ∙ all
    by Equal rest = all
    by Greater rest = ap (λ (b : Bool). b && has_short_ids (put_number table id node)) parts.0 ∙ rest

short_id : (value : Option Value) (id : ℕ) → id_within value ≡ Some id → nat_lt id (2 ^ 32) ≡ true
short_id None id is = absurd (true≢false (ap (λ (o : Option ℕ). elim o [ None ↦ true | Some n ↦ false ]) is))
short_id (Some value) id is = by (nat_lt (amount_in value) (2 ^ 32)) refl is
  where
    by : (short : Bool) → nat_lt (amount_in value) (2 ^ 32) ≡ short → cond short (Some (amount_in value)) None ≡ Some id → nat_lt id (2 ^ 32) ≡ true
    by true small same = ap (λ (o : Option ℕ). elim o [ None ↦ true | Some n ↦ nat_lt n (2 ^ 32) ]) (sym same) ∙ small
    by false small same = absurd (true≢false (ap (λ (o : Option ℕ). elim o [ None ↦ true | Some n ↦ false ]) same))

short_node : (table : List (ℕ × ShareNode)) (lines : NodeLines) → has_short_ids table ≡ true → has_short_ids (put_node table lines) ≡ true
short_node table lines all = by (id_of lines) refl
  where
    by : (id : Option ℕ) → id_of lines ≡ id → has_short_ids (elim id [ None ↦ table | Some id ↦ put_number table id (node_from_lines lines) ]) ≡ true
    by None is = all
    by (Some id) is = short_put table id (node_from_lines lines) all (short_id (value_of Kind.Int lines.id) id is)

short_nodes : (nodes : List NodeLines) (table : List (ℕ × ShareNode)) → has_short_ids table ≡ true → has_short_ids (fold put_node table nodes) ≡ true
short_nodes [] table all = all
short_nodes (lines ∷ nodes) table all = short_nodes nodes (put_node table lines) (short_node table lines all)

-- the ids of nodes that are read fit their type
pub short_ids : (nodes : List NodeLines) → has_short_ids (nodes_of nodes) ≡ true
short_ids nodes = short_nodes nodes [] refl

-- a wider number is no id
pub wide_is_missing : (table : List (ℕ × ShareNode)) (n : ℕ) → has_short_ids table ≡ true → 2 ^ 32 ≤ n → at_number table n ≡ None
wide_is_missing [] n all wide = refl
wide_is_missing (first ∷ table) n all wide =
    ap (λ (b : Bool). cond b (Some first.1) (at_number table n)) other ∙ wide_is_missing table n parts.1 wide
  where
    parts : (nat_lt first.0 (2 ^ 32) ≡ true) × (has_short_ids table ≡ true)
    parts = and_parts (nat_lt first.0 (2 ^ 32)) (has_short_ids table) all

    other : is_at (nat_cmp n) first.0 ≡ false
    other = let below : first.0 < 2 ^ 32 = ltb-true first.0 (2 ^ 32) parts.0 in sym (unsigned_ties n first.0) ∙ ne_eqb n first.0 (λ same. omega (arith, below, wide, same))

pub wide_missing : (table : List (ℕ × ShareNode)) (n : ℕ) → nat_le (2 ^ 32) n ≡ true → has_short_ids table ≡ true → is_none (at_number table n) ≡ true
wide_missing table n wide all = ap is_none (wide_is_missing table n all (leb-true (2 ^ 32) n wide))
