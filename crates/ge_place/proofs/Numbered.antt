-- Hosts that are found by their names, with one more instance.
use Rattle.std.proofs.Common.{◌≡◌, ℕ, ◌<◌, ◌≤◌, inl, inr, true, false, cond, List, [], ◌∷◌, ◌++◌, map, length, get_or, set, Option, Some, None, refl, sym, subst, ap, ◌∙◌, arith}
use Rattle.std.specs.Borrow.{Bor}
use Rattle.std.specs.BTreeMap.{is_at}
use Rattle.std.specs.Cmp.Lexicographic.{texts_ties}
use Rattle.std.specs.List.{list_any}
use Rattle.std.specs.Prelude.{unwrap_or}
use Rattle.std.proofs.lemmas.Bool.{cond-true, cond-false, cases_Bool, cases_eq, cases_lt, false_from_ne_true}
use Rattle.std.proofs.lemmas.List.{append-nil, map-append, map-set, length-map, length-set, length_push, get_or-map, get_or_append_left, get_or_push, get_or-set_same, get_or-set_other, set-get_or}
use Rattle.std.proofs.lemmas.List.Folds.{list_any-from_Any, list_any_none}
use Rattle.std.proofs.lemmas.List.Sums.{fold-append}
use Rattle.ge_collections.specs.Keyed.{text_cmp, text_eq}
use Rattle.ge_model_rows.specs.Pieces.{with_text, each_once}
use Rattle.ge_model_place.specs.Placement.{Cell, is_on}
use Rattle.ge_model_place.proofs.Same.{texts_equal, text_same}
use Rattle.ge_place.specs.declared.spots.HostSpots.{HostSpots}
use Rattle.ge_place.specs.Hosts.{number_in, AreNumbered, AreFound}
use Rattle.ge_place.specs.Spots.{host_of, hosts_among, places_of, IsOn}
use Rattle.ge_place.proofs.Places.{places_last}

abbrev Numbers : Type 0
Numbers = List (Bor (List ℕ) × ℕ)

pub none_found : AreFound [] [] []
none_found = record {
  named = refl;
  on = λ k d less. absurd (omega (arith, less));
  numbered = record { each = λ k d less. absurd (omega (arith, less)); found = λ host k number. cc };
  others = λ host none. refl;
}

one_of_both : (o : Option ℕ) (k : ℕ) → o ≡ Some k → o ≡ None → ⊥
one_of_both o k some none = cc

same_number : (o : Option ℕ) (j k : ℕ) → o ≡ Some j → o ≡ Some k → j ≡ k
same_number o j k first second = cc

-- numbers that tell each host the same
told_alike : (spots : List Cell) (hosts : List HostSpots) (old new : Numbers) → ((name : List ℕ) → number_in new name ≡ number_in old name) → AreFound spots hosts old → AreFound spots hosts new
told_alike spots hosts old new alike are = record {
  named = are.named;
  on = are.on;
  numbered = record {
    each = λ k d less. alike (get_or (hosts_among spots) k d) ∙ are.numbered.each k d less;
    found = λ host k number. are.numbered.found host k (sym (alike host) ∙ number);
  };
  others = λ host none. are.others host (sym (alike host) ∙ none);
}

hosts_last : (spots : List Cell) (last : Cell) → hosts_among (spots ++ last ∷ []) ≡ with_text (hosts_among spots) last.at.host
hosts_last spots last = ap each_once (map-append host_of spots (last ∷ [])) ∙ fold-append with_text [] (map host_of spots) (last.at.host ∷ [])

-- names whose numbers differ
differs : (numbers : Numbers) (host name : List ℕ) → (number_in numbers host ≡ number_in numbers name → ⊥) → text_eq host name ≡ false
differs numbers host name apart = false_from_ne_true (text_eq host name) (λ same. apart (ap (λ n. number_in numbers n) (texts_equal host name same)))

module _ (spots : List Cell) (last : Cell) (hosts : List HostSpots) (numbers : Numbers) (are : AreFound spots hosts numbers) where
  abbrev host : List ℕ
  host = last.at.host

  abbrev names : List (List ℕ)
  names = hosts_among spots

  abbrev all : List Cell
  all = spots ++ last ∷ []

  many : length names ≡ length hosts
  many = ap length (sym are.named) ∙ length-map hosts (λ (h : HostSpots). h.host.now)

  name_at : (k : ℕ) (d : HostSpots) (e : List ℕ) → k < length hosts → get_or names k e ≡ (get_or hosts k d).host.now
  name_at k d e inside = ap (λ ns. get_or ns k e) (sym are.named) ∙ get_or-map (λ (h : HostSpots). h.host.now) hosts k d e inside

  number_at : (k : ℕ) (d : HostSpots) → k < length hosts → number_in numbers (get_or hosts k d).host.now ≡ Some k
  number_at k d inside = ap (λ n. number_in numbers n) (sym (name_at k d [] inside)) ∙ are.numbered.each k [] (omega (arith, inside, many))

  -- no place is added on another host
  others_kept : (name : List ℕ) → text_eq host name ≡ false → places_of (is_on name) all ≡ places_of (is_on name) spots
  others_kept name apart = places_last (is_on name) spots last false apart ∙ append-nil (places_of (is_on name) spots)

  own_added : (name : List ℕ) → name ≡ host → places_of (is_on name) all ≡ places_of (is_on name) spots ++ length spots ∷ []
  own_added name same = places_last (is_on name) spots last true (ap (λ n. text_eq host n) same ∙ text_same host)

  -- an instance on a host that was found
  module _ (k : ℕ) (number : number_in numbers host ≡ Some k) where
    pub number_within : k < length hosts
    number_within = let there = are.numbered.found host k number in omega (arith, there.0, many)

    names_stay : names ≡ hosts_among all
    names_stay =
        let there = are.numbered.found host k number in
        sym (hosts_last spots last ∙ cond-true (list_any (text_eq host) names) names (names ++ host ∷ []) (list_any-from_Any (text_eq host) names (k, host, there.0, there.1 host, text_same host)))

    pub place_added : (one more : HostSpots) → one ≡ get_or hosts k one → more.host.now ≡ one.host.now → more.places.items ≡ one.places.items ++ length spots ∷ [] → AreFound all (set hosts k more) numbers
    place_added one more is same places =
        let there = are.numbered.found host k number in
        let named : one.host.now ≡ get_or names k [] = ap (λ (h : HostSpots). h.host.now) is ∙ sym (name_at k one [] number_within) in
        let name : more.host.now ≡ host = same ∙ named ∙ there.1 [] in
        let own : one.places.items ≡ places_of (is_on one.host.now) spots = subst (λ (h : HostSpots). IsOn spots h) (sym is) (are.on k one number_within) in
        let fresh : IsOn all more = places ∙ ap (λ ps. ps ++ length spots ∷ []) (own ∙ ap (λ n. places_of (is_on n) spots) (sym same)) ∙ sym (own_added more.host.now name) in
        record {
          named =
              map-set (λ (h : HostSpots). h.host.now) hosts k more
              ∙ ap (λ ns. set ns k more.host.now) are.named
              ∙ ap (λ n. set names k n) (same ∙ named)
              ∙ set-get_or names k []
              ∙ names_stay;
          on = λ j d less. elim (cases_eq j k) [
            | inl at ↦ subst (λ (h : HostSpots). IsOn all h) (sym (ap (λ n. get_or (set hosts k more) n d) at ∙ get_or-set_same hosts k more d number_within)) fresh
            | inr off ↦
                let inside : j < length hosts = omega (arith, less, length-set hosts k more) in
                let apart : text_eq host (get_or hosts j d).host.now ≡ false = differs numbers host (get_or hosts j d).host.now (λ e. off (same_number (number_in numbers host) j k (e ∙ number_at j d inside) number)) in
                subst (λ (h : HostSpots). IsOn all h) (sym (get_or-set_other hosts k j more d off)) (are.on j d inside ∙ sym (others_kept (get_or hosts j d).host.now apart))
          ];
          numbered = subst (λ ns. AreNumbered ns numbers) names_stay are.numbered;
          others = λ name none. others_kept name (differs numbers host name (λ e. one_of_both (number_in numbers host) k number (e ∙ none))) ∙ are.others name none;
        }

  -- whether a host was found, by the number that it has or else gets
  was_found : (number : ℕ) → number ≡ unwrap_or (number_in numbers host) (length hosts) → number < length hosts → number_in numbers host ≡ Some number
  was_found number is less = by (number_in numbers host) refl
    where
      by : (o : Option ℕ) → number_in numbers host ≡ o → number_in numbers host ≡ Some number
      by None none =
          let at : number ≡ length hosts = is ∙ ap (λ o. unwrap_or o (length hosts)) none in
          absurd (omega (arith, less, at))
      by (Some k) some = some ∙ sym (ap (λ n. Some n) (is ∙ ap (λ o. unwrap_or o (length hosts)) some))

  pub was_none : (number : ℕ) → number ≡ unwrap_or (number_in numbers host) (length hosts) → length hosts ≤ number → number_in numbers host ≡ None
  was_none number is over = by (number_in numbers host) refl
    where
      by : (o : Option ℕ) → number_in numbers host ≡ o → number_in numbers host ≡ None
      by None none = none
      by (Some k) some =
          let at : number ≡ k = is ∙ ap (λ o. unwrap_or o (length hosts)) some in
          let inside = number_within k some in
          absurd (omega (arith, over, at, inside))

  -- one more instance on a host that was found, with the number that it has written once more
  pub found_again : (number : ℕ) (new : Numbers) → number ≡ unwrap_or (number_in numbers host) (length hosts) → number < length hosts
      → ((name : List ℕ) → number_in new name ≡ cond (is_at (text_cmp host) name) (Some number) (number_in numbers name))
      → (one more : HostSpots) → one ≡ get_or hosts number one → more.host.now ≡ one.host.now → more.places.items ≡ one.places.items ++ length spots ∷ [] → AreFound all (set hosts number more) new
  found_again number new is less put one more there same places =
      let has = was_found number is less in
      told_alike all (set hosts number more) numbers new
      (λ name. put name ∙ elim (cases_Bool (text_eq host name)) [
        | inl alike ↦
            let own : number_in numbers name ≡ Some number = sym (ap (λ n. number_in numbers n) (texts_equal host name alike)) ∙ has in
            cond-true _ _ _ (sym (texts_ties host name) ∙ alike) ∙ sym own
        | inr apart ↦ cond-false _ _ _ (sym (texts_ties host name) ∙ apart)
      ])
      (place_added number has one more there same places)

  -- the first instance of a host
  module _ (new : Numbers) (none : number_in numbers host ≡ None) (put : (name : List ℕ) → number_in new name ≡ cond (is_at (text_cmp host) name) (Some (length hosts)) (number_in numbers name)) where
    put_here : (name : List ℕ) → text_eq host name ≡ true → number_in new name ≡ Some (length hosts)
    put_here name same = put name ∙ cond-true _ _ _ (sym (texts_ties host name) ∙ same)

    put_apart : (name : List ℕ) → text_eq host name ≡ false → number_in new name ≡ number_in numbers name
    put_apart name apart = put name ∙ cond-false _ _ _ (sym (texts_ties host name) ∙ apart)

    new_among : (k : ℕ) (d : List ℕ) → k < length names → text_eq host (get_or names k d) ≡ false
    new_among k d inside = differs numbers host (get_or names k d) (λ e. one_of_both (number_in numbers host) k (e ∙ are.numbered.each k d inside) none)

    names_grow : names ++ host ∷ [] ≡ hosts_among all
    names_grow = sym (hosts_last spots last ∙ cond-false (list_any (text_eq host) names) names (names ++ host ∷ []) (list_any_none (text_eq host) names new_among))

    numbers_grow : AreNumbered (names ++ host ∷ []) new
    numbers_grow = record {
      each = λ k d less. elim (cases_lt k (length names)) [
        | inl inside ↦
            ap (λ n. number_in new n) (get_or_append_left names (host ∷ []) d k inside)
            ∙ put_apart (get_or names k d) (new_among k d inside)
            ∙ are.numbered.each k d inside
        | inr over ↦
            let at : length names ≡ k = omega (arith, less, over, length_push names host) in
            let number : length hosts ≡ k = sym many ∙ at in
            ap (λ n. number_in new n) (get_or_push names host d k at) ∙ put_here host (text_same host) ∙ ap (λ n. Some n) number
      ];
      found = λ name k number. elim (cases_Bool (text_eq host name)) [
        | inl same ↦
            let last_one : length hosts ≡ k = same_number (number_in new name) (length hosts) k (put_here name same) number in
            let at : length names ≡ k = many ∙ last_one in
            (omega (arith, at, length_push names host), λ d. get_or_push names host d k at ∙ texts_equal host name same)
        | inr apart ↦
            let there = are.numbered.found name k (sym (put_apart name apart) ∙ number) in
            (omega (arith, there.0, length_push names host), λ d. get_or_append_left names (host ∷ []) d k there.0 ∙ there.1 d)
      ];
    }

    pub host_added : (more : HostSpots) → more.host.now ≡ host → more.places.items ≡ length spots ∷ [] → AreFound all (hosts ++ more ∷ []) new
    host_added more same places =
        let first : places_of (is_on more.host.now) spots ≡ [] = are.others more.host.now (ap (λ n. number_in numbers n) same ∙ none) in
        let fresh : IsOn all more = places ∙ ap (λ ps. ps ++ length spots ∷ []) (sym first) ∙ sym (own_added more.host.now same) in
        record {
          named =
              map-append (λ (h : HostSpots). h.host.now) hosts (more ∷ [])
              ∙ ap (λ ns. ns ++ more.host.now ∷ []) are.named
              ∙ ap (λ n. names ++ n ∷ []) same
              ∙ names_grow;
          on = λ j d less. elim (cases_lt j (length hosts)) [
            | inl inside ↦
                let apart : text_eq host (get_or hosts j d).host.now ≡ false = differs numbers host (get_or hosts j d).host.now (λ e. one_of_both (number_in numbers host) j (e ∙ number_at j d inside) none) in
                subst (λ (h : HostSpots). IsOn all h) (sym (get_or_append_left hosts (more ∷ []) d j inside)) (are.on j d inside ∙ sym (others_kept (get_or hosts j d).host.now apart))
            | inr over ↦
                let at : length hosts ≡ j = omega (arith, less, over, length_push hosts more) in
                subst (λ (h : HostSpots). IsOn all h) (sym (get_or_push hosts more d j at)) fresh
          ];
          numbered = subst (λ ns. AreNumbered ns new) names_grow numbers_grow;
          others = λ name gone.
              let apart : text_eq host name ≡ false = false_from_ne_true (text_eq host name) (λ same. one_of_both (number_in new name) (length hosts) (put_here name same) gone) in
              others_kept name apart ∙ are.others name (sym (put_apart name apart) ∙ gone);
        }
