-- Names in the scope of a project: what is below it, the root not passed, and where it has the root, what is below that.
use Rattle.std.proofs.Common.{◌≡◌, ◌⊎◌, ℕ, zero, suc, ◌+◌, ◌<◌, ◌≤◌, Bool, true, false, cond, not, ◌&&◌, ◌||◌, List, [], ◌∷◌, ◌++◌, length, refl, sym, ap, ◌∙◌, subst, arith, inl, inr, true≢false}
use Rattle.std.specs.Prelude.{◌==◌, Option, Some, None, fold, filter_map, slice_get}
use Rattle.std.specs.List.{list_any, list_all, cons_option}
use Rattle.std.specs.Cmp.{nat_eq_equiv}
use Rattle.std.specs.Cmp.Lexicographic.{nat_list_eq_equiv, same_text}
use Rattle.std.proofs.lemmas.Bool.{eqb-true, or_cases, or_left, or_right, and_parts, and_from, not-true, not_from_false, false_from_ne_true}
use Rattle.std.specs.Map.{lookup}
use Rattle.std.specs.BTreeMap.{is_at}
use Rattle.std.specs.Ordering.{nat_cmp}
use Rattle.std.proofs.lemmas.List.Folds.{list_any-append}
use Rattle.ge_collections.specs.Keyed.{text_eq}
use Rattle.ge_model_rows.specs.PeopleRows.{ShareNode}
use Rattle.ge_model_rows.specs.Pieces.{is_one_of, with_text, lists_number, with_one_number, each_number_once}
use Rattle.ge_model_config.specs.Complexes.{are_distinct}
use Rattle.ge_model_config.specs.Shares.{all_children, children_at, reached_nodes, nodes_below, user_name, names_differ}
use Rattle.ge_config.specs.ShareTree.{walked, below_past, part_below, root_scope, fits_beside, part_differs}
use Rattle.ge_config.proofs.Lists.{or_false, or_joined, passed_with}
use Rattle.ge_config.proofs.ShareTree.{without_end, all_same}
use Rattle.ge_config.proofs.Reached.{Once, once_with, once_more, kept_with, put_with, in_with, put_more, in_more, walk_once, walk_keeps, walk_all, walk_closed}

bool_same : (a b : Bool) → (a ≡ true → b ≡ true) → (b ≡ true → a ≡ true) → a ≡ b
bool_same true b there back = sym (there refl)
bool_same false true there back = back refl
bool_same false false there back = refl

all_from : (p : ℕ → Bool) (xs : List ℕ) → ((x : ℕ) → lists_number xs x ≡ true → p x ≡ true) → list_all p xs ≡ true
all_from p [] each = refl
all_from p (x ∷ xs) each =
    and_from (p x) (list_all p xs) (each x (or_left (x == x) (lists_number xs x) (nat_eq_equiv.refl x)))
    (all_from p xs (λ n there. each n (or_right (x == n) (lists_number xs n) there)))

all_at : (p : ℕ → Bool) (xs : List ℕ) (x : ℕ) → list_all p xs ≡ true → lists_number xs x ≡ true → p x ≡ true
all_at p [] x all there = absurd (true≢false (sym there))
all_at p (first ∷ xs) x all there = by (or_cases (first == x) (lists_number xs x) there) (all_at p xs x)
  where
    parts : (p first ≡ true) × (list_all p xs ≡ true)
    parts = and_parts (p first) (list_all p xs) all

    by : ((first == x) ≡ true) ⊎ (lists_number xs x ≡ true) → (list_all p xs ≡ true → lists_number xs x ≡ true → p x ≡ true) → p x ≡ true
    by (inl same) rest = subst (λ (n : ℕ). p n ≡ true) (eqb-true first x same) parts.0
    by (inr later) rest = rest parts.1 later

-- a text is among others each of which is taken once
names_once : (text : List ℕ) (seen texts : List (List ℕ)) → is_one_of text (fold with_text seen texts) ≡ (is_one_of text seen || is_one_of text texts)
names_once text seen [] = sym (or_false (is_one_of text seen))
names_once text seen (first ∷ texts) =
    names_once text (with_text seen first) texts ∙ ap (λ (b : Bool). b || is_one_of text texts) (passed_with (text_eq text) seen first)
    ∙ or_joined (is_one_of text seen) (text_eq text first) (is_one_of text texts)

-- ---- different nodes have different names

module _ (name : ℕ → Option (List ℕ)) where
  -- no two of these nodes have the same name
  abbrev Apart : List ℕ → Type 0
  Apart ids = (u v : ℕ) (text : List ℕ) → lists_number ids u ≡ true → lists_number ids v ≡ true → name u ≡ Some text → name v ≡ Some text → u ≡ v

  some_none : (text : List ℕ) → None ≡ Some text → true ≡ false
  some_none text is = ap (λ (o : Option (List ℕ)). elim o [ None ↦ true | Some t ↦ false ]) is

  some_same : (s t : List ℕ) → Some s ≡ Some t → s ≡ t
  some_same s t is = ap (λ (o : Option (List ℕ)). elim o [ None ↦ s | Some text ↦ text ]) is

  named_among : (ids : List ℕ) (v : ℕ) (text : List ℕ) → lists_number ids v ≡ true → name v ≡ Some text → is_one_of text (filter_map name ids) ≡ true
  named_among [] v text there is = absurd (true≢false (sym there))
  named_among (id ∷ ids) v text there is = by (or_cases (id == v) (lists_number ids v) there) (named_among ids v text)
    where
      later_by : (o : Option (List ℕ)) → is_one_of text (filter_map name ids) ≡ true → is_one_of text (cons_option o (filter_map name ids)) ≡ true
      later_by None h = h
      later_by (Some t) h = or_right (text_eq text t) (is_one_of text (filter_map name ids)) h

      by : ((id == v) ≡ true) ⊎ (lists_number ids v ≡ true) → (lists_number ids v ≡ true → name v ≡ Some text → is_one_of text (filter_map name ids) ≡ true)
          → is_one_of text (cons_option (name id) (filter_map name ids)) ≡ true
      by (inl same) rest =
          ap (λ (o : Option (List ℕ)). is_one_of text (cons_option o (filter_map name ids))) (ap name (eqb-true id v same) ∙ is)
          ∙ or_left (text_eq text text) (is_one_of text (filter_map name ids)) (nat_list_eq_equiv.refl text)
      by (inr later) rest = later_by (name id) (rest later is)

  among_named : (ids : List ℕ) (text : List ℕ) → is_one_of text (filter_map name ids) ≡ true → (v : ℕ) × (lists_number ids v ≡ true) × (name v ≡ Some text)
  among_named [] text there = absurd (true≢false (sym there))
  among_named (id ∷ ids) text there = by (name id) refl there (among_named ids text)
    where
      later : (v : ℕ) × (lists_number ids v ≡ true) × (name v ≡ Some text) → (v : ℕ) × (lists_number (id ∷ ids) v ≡ true) × (name v ≡ Some text)
      later found = (found.0, or_right (id == found.0) (lists_number ids found.0) found.1, found.2)

      by : (o : Option (List ℕ)) → name id ≡ o → is_one_of text (cons_option o (filter_map name ids)) ≡ true
          → (is_one_of text (filter_map name ids) ≡ true → (v : ℕ) × (lists_number ids v ≡ true) × (name v ≡ Some text))
          → (v : ℕ) × (lists_number (id ∷ ids) v ≡ true) × (name v ≡ Some text)
      by None is h rest = later (rest h)
      by (Some t) is h rest = either (or_cases (text_eq text t) (is_one_of text (filter_map name ids)) h)
        where
          either : (text_eq text t ≡ true) ⊎ (is_one_of text (filter_map name ids) ≡ true) → (v : ℕ) × (lists_number (id ∷ ids) v ≡ true) × (name v ≡ Some text)
          either (inl same) = (id, or_left (id == id) (lists_number ids id) (nat_eq_equiv.refl id), is ∙ ap Some (sym (same_text text t (sym same))))
          either (inr h) = later (rest h)

  apart_of : (ids : List ℕ) → are_distinct (filter_map name ids) ≡ true → Apart ids
  apart_of [] distinct u v text hu hv nu nv = absurd (true≢false (sym hu))
  apart_of (id ∷ ids) distinct u v text hu hv nu nv =
      by (name id) refl distinct (or_cases (id == u) (lists_number ids u) hu) (or_cases (id == v) (lists_number ids v) hv) (apart_of ids)
    where
      at_head : (w : ℕ) (o : Option (List ℕ)) → name id ≡ o → (id == w) ≡ true → name w ≡ Some text → o ≡ Some text
      at_head w o is same nw = sym is ∙ ap name (eqb-true id w same) ∙ nw

      clash : (w : ℕ) (t : List ℕ) → Some t ≡ Some text → not (is_one_of t (filter_map name ids)) ≡ true → lists_number ids w ≡ true → name w ≡ Some text → true ≡ false
      clash w t is new hw nw =
          sym (named_among ids w text hw nw) ∙ ap (λ (s : List ℕ). is_one_of s (filter_map name ids)) (sym (some_same t text is))
          ∙ not-true (is_one_of t (filter_map name ids)) new

      by : (o : Option (List ℕ)) → name id ≡ o → are_distinct (cons_option o (filter_map name ids)) ≡ true
          → ((id == u) ≡ true) ⊎ (lists_number ids u ≡ true) → ((id == v) ≡ true) ⊎ (lists_number ids v ≡ true) → (are_distinct (filter_map name ids) ≡ true → Apart ids) → u ≡ v
      by None is d (inl same) cv rest = absurd (true≢false (some_none text (at_head u None is same nu)))
      by None is d (inr lu) (inl same) rest = absurd (true≢false (some_none text (at_head v None is same nv)))
      by None is d (inr lu) (inr lv) rest = rest d u v text lu lv nu nv
      by (Some t) is d (inl su) (inl sv) rest = sym (eqb-true id u su) ∙ eqb-true id v sv
      by (Some t) is d (inl su) (inr lv) rest = absurd (true≢false (clash v t (at_head u (Some t) is su nu) (and_parts (not (is_one_of t (filter_map name ids))) (are_distinct (filter_map name ids)) d).0 lv nv))
      by (Some t) is d (inr lu) (inl sv) rest = absurd (true≢false (clash u t (at_head v (Some t) is sv nv) (and_parts (not (is_one_of t (filter_map name ids))) (are_distinct (filter_map name ids)) d).0 lu nu))
      by (Some t) is d (inr lu) (inr lv) rest = rest (and_parts (not (is_one_of t (filter_map name ids))) (are_distinct (filter_map name ids)) d).1 u v text lu lv nu nv

  distinct_of : (ids : List ℕ) → Once ids → Apart ids → are_distinct (filter_map name ids) ≡ true
  distinct_of [] once apart = refl
  distinct_of (id ∷ ids) once apart =
      by (name id) refl (distinct_of ids once.1 (λ u v text hu hv. apart u v text (or_right (id == u) (lists_number ids u) hu) (or_right (id == v) (lists_number ids v) hv)))
    where
      twice : (text : List ℕ) → name id ≡ Some text → is_one_of text (filter_map name ids) ≡ true → true ≡ false
      twice text is there =
          let found : (v : ℕ) × (lists_number ids v ≡ true) × (name v ≡ Some text) = among_named ids text there in
          let same : id ≡ found.0 = apart id found.0 text (or_left (id == id) (lists_number ids id) (nat_eq_equiv.refl id)) (or_right (id == found.0) (lists_number ids found.0) found.1) is found.2 in
          sym found.1 ∙ ap (lists_number ids) (sym same) ∙ once.0

      by : (o : Option (List ℕ)) → name id ≡ o → are_distinct (filter_map name ids) ≡ true → are_distinct (cons_option o (filter_map name ids)) ≡ true
      by None is rest = rest
      by (Some text) is rest =
          and_from (not (is_one_of text (filter_map name ids))) (are_distinct (filter_map name ids))
          (not_from_false (is_one_of text (filter_map name ids)) (false_from_ne_true (is_one_of text (filter_map name ids)) (λ there. true≢false (twice text is there)))) rest

  -- ---- a scope by its parts

  module _ (below : ℕ → List ℕ) (us : List ℕ) (within : (x y : ℕ) → lists_number (below x) y ≡ true → lists_number us y ≡ true) where
    abbrev whole : ℕ → List ℕ
    whole id = walked below (length us) (each_number_once (below id)) 0

    abbrev part : ℕ → List ℕ
    part id = walked (below_past below) (length us) (each_number_once (below id)) 0

    abbrev rooted : List ℕ
    rooted = with_one_number (whole 0) 0

    start_once : (id : ℕ) → Once (each_number_once (below id))
    start_once id = once_more [] (below id) tt

    in_start : (id y : ℕ) → lists_number (below id) y ≡ true → lists_number (each_number_once (below id)) y ≡ true
    in_start id y child = put_more [] (below id) y child

    from_start : (id y : ℕ) → lists_number (each_number_once (below id)) y ≡ true → lists_number (below id) y ≡ true
    from_start id y there = by (in_more [] (below id) y there)
      where
        by : (false ≡ true) ⊎ (lists_number (below id) y ≡ true) → lists_number (below id) y ≡ true
        by (inl never) = absurd (true≢false (sym never))
        by (inr child) = child

    past_child : (x y : ℕ) → lists_number (below_past below x) y ≡ true → lists_number (below x) y ≡ true
    past_child x y = by (x == 0)
      where
        by : (root : Bool) → lists_number (cond root [] (below x)) y ≡ true → lists_number (below x) y ≡ true
        by true never = absurd (true≢false (sym never))
        by false child = child

    child_past : (x y : ℕ) → (x == 0) ≡ false → lists_number (below x) y ≡ true → lists_number (below_past below x) y ≡ true
    child_past x y other child = ap (λ (root : Bool). lists_number (cond root [] (below x)) y) other ∙ child

    places_enough : length us ≤ length us + 0
    places_enough = omega arith

    start_within : (id y : ℕ) → lists_number (each_number_once (below id)) y ≡ true → lists_number us y ≡ true
    start_within id y there = within id y (from_start id y there)

    whole_closed : (id x y : ℕ) → lists_number (whole id) x ≡ true → lists_number (below x) y ≡ true → lists_number (whole id) y ≡ true
    whole_closed id =
        walk_closed below us within (length us) (each_number_once (below id)) 0 (start_once id) (start_within id) places_enough
        (λ i x y before. absurd (omega (arith, before)))

    part_closed : (id x y : ℕ) → lists_number (part id) x ≡ true → lists_number (below_past below x) y ≡ true → lists_number (part id) y ≡ true
    part_closed id =
        walk_closed (below_past below) us (λ x y child. within x y (past_child x y child)) (length us) (each_number_once (below id)) 0 (start_once id) (start_within id) places_enough
        (λ i x y before. absurd (omega (arith, before)))

    part_in : (id y : ℕ) → lists_number (part id) y ≡ true → lists_number (whole id) y ≡ true
    part_in id =
        walk_all (below_past below) (λ y. lists_number (whole id) y ≡ true) (λ x y there child. whole_closed id x y there (past_child x y child)) (length us) (each_number_once (below id)) 0
        (λ y there. walk_keeps below (length us) (each_number_once (below id)) 0 y there)

    root_in : (id : ℕ) → lists_number (part id) 0 ≡ true → (y : ℕ) → lists_number (whole 0) y ≡ true → lists_number (whole id) y ≡ true
    root_in id root =
        walk_all below (λ y. lists_number (whole id) y ≡ true) (whole_closed id) (length us) (each_number_once (below 0)) 0
        (λ y there. whole_closed id 0 y (part_in id 0 root) (from_start 0 y there))

    rooted_in : (id : ℕ) → lists_number (part id) 0 ≡ true → (y : ℕ) → lists_number rooted y ≡ true → lists_number (whole id) y ≡ true
    rooted_in id root y there = by (in_with (whole 0) 0 y there)
      where
        by : (lists_number (whole 0) y ≡ true) ⊎ (0 ≡ y) → lists_number (whole id) y ≡ true
        by (inl is) = root_in id root y is
        by (inr same) = subst (λ (n : ℕ). lists_number (whole id) n ≡ true) same (part_in id 0 root)

    -- what is met is met without passing the root, or by way of it
    abbrev Met : ℕ → ℕ → Type 0
    Met id y = (lists_number (part id) y ≡ true) ⊎ ((lists_number (part id) 0 ≡ true) × (lists_number (whole 0) y ≡ true))

    met_below : (id x y : ℕ) → Met id x → lists_number (below x) y ≡ true → Met id y
    met_below id x y (inr met) child = inr (met.0, whole_closed 0 x y met.1 child)
    met_below id x y (inl there) child = by (x == 0) refl
      where
        by : (root : Bool) → (x == 0) ≡ root → Met id y
        by true is =
            let e : x ≡ 0 = eqb-true x 0 is in
            inr (
              subst (λ (n : ℕ). lists_number (part id) n ≡ true) e there,
              walk_keeps below (length us) (each_number_once (below 0)) 0 y (in_start 0 y (subst (λ (n : ℕ). lists_number (below n) y ≡ true) e child)),
            )
        by false is = inl (part_closed id x y there (child_past x y is child))

    is_met : (id y : ℕ) → lists_number (whole id) y ≡ true → Met id y
    is_met id =
        walk_all below (Met id) (met_below id) (length us) (each_number_once (below id)) 0
        (λ y there. inl (walk_keeps (below_past below) (length us) (each_number_once (below id)) 0 y there))

    whole_once : (id : ℕ) → Once (whole id)
    whole_once id = walk_once below (length us) (each_number_once (below id)) 0 (start_once id)

    part_once : (id : ℕ) → Once (part id)
    part_once id = walk_once (below_past below) (length us) (each_number_once (below id)) 0 (start_once id)

    abbrev root_names : List (List ℕ)
    root_names = fold with_text [] (filter_map name rooted)

    abbrev fits : ℕ → Bool
    fits = fits_beside name rooted root_names

    abbrev by_parts : ℕ → Bool
    by_parts id = are_distinct (filter_map name (part id)) && (not (lists_number (part id) 0) || (are_distinct (filter_map name rooted) && list_all fits (part id)))

    -- where names differ in a scope, they differ in its parts
    parts_of : (id : ℕ) → Apart (whole id) → by_parts id ≡ true
    parts_of id apart =
        and_from (are_distinct (filter_map name (part id))) (not (lists_number (part id) 0) || (are_distinct (filter_map name rooted) && list_all fits (part id)))
        (distinct_of (part id) (part_once id) (λ u v text hu hv. apart u v text (part_in id u hu) (part_in id v hv)))
        (by (lists_number (part id) 0) refl)
      where
        fits_by : (root : lists_number (part id) 0 ≡ true) (u : ℕ) → lists_number (part id) u ≡ true → (has : Bool) → lists_number rooted u ≡ has → (o : Option (List ℕ)) → name u ≡ o
            → (has || elim o [ None ↦ true | Some text ↦ not (is_one_of text root_names) ]) ≡ true
        fits_by root u there true has o is = refl
        fits_by root u there false has None is = refl
        fits_by root u there false has (Some text) is = not_from_false (is_one_of text root_names) (false_from_ne_true (is_one_of text root_names) (λ h. true≢false (clash h)))
          where
            clash : is_one_of text root_names ≡ true → true ≡ false
            clash h =
                let found : (v : ℕ) × (lists_number rooted v ≡ true) × (name v ≡ Some text) = among_named rooted text (sym (names_once text [] (filter_map name rooted)) ∙ h) in
                let same : u ≡ found.0 = apart u found.0 text (part_in id u there) (rooted_in id root found.0 found.1) is found.2 in
                sym found.1 ∙ ap (lists_number rooted) (sym same) ∙ has

        by : (has : Bool) → lists_number (part id) 0 ≡ has → (not has || (are_distinct (filter_map name rooted) && list_all fits (part id))) ≡ true
        by false is = refl
        by true is =
            and_from (are_distinct (filter_map name rooted)) (list_all fits (part id))
            (distinct_of rooted (once_with (whole 0) 0 (whole_once 0)) (λ u v text hu hv. apart u v text (rooted_in id is u hu) (rooted_in id is v hv)))
            (all_from fits (part id) (λ u there. fits_by is u there (lists_number rooted u) refl (name u) refl))

    -- and where they differ in its parts, they differ
    whole_of : (id : ℕ) → by_parts id ≡ true → Apart (whole id)
    whole_of id parts u v text hu hv nu nv = by (lists_number (part id) 0) refl split.1 (is_met id u hu) (is_met id v hv)
      where
        split : (are_distinct (filter_map name (part id)) ≡ true) × ((not (lists_number (part id) 0) || (are_distinct (filter_map name rooted) && list_all fits (part id))) ≡ true)
        split = and_parts (are_distinct (filter_map name (part id))) (not (lists_number (part id) 0) || (are_distinct (filter_map name rooted) && list_all fits (part id))) parts

        own : Apart (part id)
        own = apart_of (part id) split.0

        at_root : (w : ℕ) → lists_number (whole 0) w ≡ true → lists_number rooted w ≡ true
        at_root w there = kept_with (whole 0) 0 w there

        mixed : Apart rooted → list_all fits (part id) ≡ true → (a r : ℕ) → lists_number (part id) a ≡ true → lists_number (whole 0) r ≡ true → name a ≡ Some text → name r ≡ Some text → a ≡ r
        mixed apart all a r ha hr na nr = by_root (lists_number rooted a) refl (all_at fits (part id) a all ha)
          where
            clash : elim (name a) [ None ↦ true | Some text ↦ not (is_one_of text root_names) ] ≡ true → true ≡ false
            clash fit =
                sym (named_among rooted r text (at_root r hr) nr) ∙ sym (names_once text [] (filter_map name rooted))
                ∙ not-true (is_one_of text root_names) (sym (ap (λ (o : Option (List ℕ)). elim o [ None ↦ true | Some text ↦ not (is_one_of text root_names) ]) na) ∙ fit)

            by_root : (has : Bool) → lists_number rooted a ≡ has → (has || elim (name a) [ None ↦ true | Some text ↦ not (is_one_of text root_names) ]) ≡ true → a ≡ r
            by_root true has fit = apart a r text has (at_root r hr) na nr
            by_root false has fit = absurd (true≢false (clash fit))

        by : (has : Bool) → lists_number (part id) 0 ≡ has → (not has || (are_distinct (filter_map name rooted) && list_all fits (part id))) ≡ true → Met id u → Met id v → u ≡ v
        by has is rest (inl pu) (inl pv) = own u v text pu pv nu nv
        by false is rest (inr mu) mv = absurd (true≢false (sym mu.0 ∙ is))
        by false is rest (inl pu) (inr mv) = absurd (true≢false (sym mv.0 ∙ is))
        by true is rest (inr mu) (inr mv) = apart_of rooted (and_parts (are_distinct (filter_map name rooted)) (list_all fits (part id)) rest).0 u v text (at_root u mu.1) (at_root v mv.1) nu nv
        by true is rest (inl pu) (inr mv) =
            let both = and_parts (are_distinct (filter_map name rooted)) (list_all fits (part id)) rest in mixed (apart_of rooted both.0) both.1 u v pu mv.1 nu nv
        by true is rest (inr mu) (inl pv) =
            let both = and_parts (are_distinct (filter_map name rooted)) (list_all fits (part id)) rest in sym (mixed (apart_of rooted both.0) both.1 v u pv mu.1 nv nu)

    pub scope_by_parts : (id : ℕ) → are_distinct (filter_map name (whole id)) ≡ by_parts id
    scope_by_parts id =
        bool_same (are_distinct (filter_map name (whole id))) (by_parts id) (λ distinct. parts_of id (apart_of (whole id) distinct)) (λ parts. distinct_of (whole id) (whole_once id) (whole_of id parts))

-- ---- the scopes of a tree

same_walk : (places : ℕ) (table : List (ℕ × ShareNode)) (met : List ℕ) (place : ℕ) → reached_nodes places table met place ≡ walked (children_at table) places met place
same_walk zero table met place = refl
same_walk (suc places) table met place = by (slice_get met place) (same_walk places table)
  where
    by : (at : Option ℕ) → ((met : List ℕ) (place : ℕ) → reached_nodes places table met place ≡ walked (children_at table) places met place)
        → ◌≡◌ {A = List ℕ} (elim at [ None ↦ met | Some id ↦ reached_nodes places table (fold with_one_number met (children_at table id)) (place + 1) ])
        (elim at [ None ↦ met | Some id ↦ walked (children_at table) places (fold with_one_number met (children_at table id)) (place + 1) ])
    by None rest = refl
    by (Some id) rest = rest (fold with_one_number met (children_at table id)) (place + 1)

child_within : (table : List (ℕ × ShareNode)) (x y : ℕ) → lists_number (children_at table x) y ≡ true → lists_number (all_children table) y ≡ true
child_within [] x y there = absurd (true≢false (sym there))
child_within (row ∷ table) x y there = by (is_at (nat_cmp x) row.0) there (child_within table x y)
  where
    by : (here : Bool) → lists_number (elim (cond here (Some row.1) (lookup (is_at (nat_cmp x)) table)) [ None ↦ [] | Some node ↦ node.children ]) y ≡ true
        → (lists_number (children_at table x) y ≡ true → lists_number (all_children table) y ≡ true) → lists_number (row.1.children ++ all_children table) y ≡ true
    by true child rest = list_any-append (λ m. m == y) row.1.children (all_children table) ∙ or_left (lists_number row.1.children y) (lists_number (all_children table) y) child
    by false child rest = list_any-append (λ m. m == y) row.1.children (all_children table) ∙ or_right (lists_number row.1.children y) (lists_number (all_children table) y) (rest child)

below_is : (table : List (ℕ × ShareNode)) (id : ℕ) → nodes_below table id ≡ walked (children_at table) (length (all_children table)) (each_number_once (children_at table id)) 0
below_is table id =
    same_walk (length (all_children table)) table (each_number_once (children_at table id ++ [])) 0
    ∙ ap (λ (ids : List ℕ). walked (children_at table) (length (all_children table)) (each_number_once ids) 0) (without_end (children_at table id))

abbrev names_at : List (ℕ × ShareNode) → List ℕ → List (List ℕ)
names_at table ids = fold with_text [] (filter_map (user_name table) ids)

scope_is : (table : List (ℕ × ShareNode)) (id : ℕ)
    → names_differ table (nodes_below table id) ≡ part_differs table (root_scope table) (names_at table (root_scope table)) (names_differ table (root_scope table)) (part_below table id)
scope_is table id =
    ap (names_differ table) (below_is table id) ∙ scope_by_parts (user_name table) (children_at table) (all_children table) (child_within table) id
    ∙ ap (λ (root : List ℕ). part_differs table (with_one_number root 0) (names_at table (with_one_number root 0)) (names_differ table (with_one_number root 0)) (part_below table id)) (sym (below_is table 0))

-- names differ in the scopes of projects where they do in their parts
pub scopes_are : (table : List (ℕ × ShareNode)) (projects ids : List ℕ) (names : List (List ℕ)) (differ answer : Bool) → ids ≡ root_scope table
    → names ≡ fold with_text [] (filter_map (user_name table) ids) → differ ≡ names_differ table ids
    → answer ≡ list_all (λ id. part_differs table ids names differ (part_below table id)) projects
    → answer ≡ list_all (λ id. names_differ table (nodes_below table id)) projects
scopes_are table projects ids names differ answer ids_are names_are differ_is answer_is =
    answer_is ∙ ap (λ (d : Bool). list_all (λ id. part_differs table ids names d (part_below table id)) projects) differ_is
    ∙ ap (λ (ns : List (List ℕ)). list_all (λ id. part_differs table ids ns (names_differ table ids) (part_below table id)) projects) names_are
    ∙ ap (λ (xs : List ℕ). list_all (λ id. part_differs table xs (names_at table xs) (names_differ table xs) (part_below table id)) projects) ids_are
    ∙ all_same (λ id. part_differs table (root_scope table) (names_at table (root_scope table)) (names_differ table (root_scope table)) (part_below table id)) (λ id. names_differ table (nodes_below table id))
    (λ id. sym (scope_is table id)) projects
