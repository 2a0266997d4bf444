-- An instance that lacks a consumable for which each job of the table asks itself is closed to each.
use Rattle.std.proofs.Common.{◌≡◌, ℕ, inl, inr, Bool, true, false, not, ◌&&◌, cond, List, [], ◌∷◌, ◌++◌, filter, Option, Some, None, is_some, refl, sym, subst, ◌∙◌}
use Rattle.std.specs.BTreeMap.{is_at}
use Rattle.std.specs.List.{list_any, list_all}
use Rattle.std.specs.Ordering.{nat_cmp}
use Rattle.std.proofs.lemmas.Bool.{true≢false, not-true, not_from_true, and_parts, and_from, and_left, and_right, or_cases, or_from, cond_both}
use Rattle.std.proofs.lemmas.List.Folds.{list_all-append}
use Rattle.std.proofs.lemmas.Map.Text.{is_eq-slice_cmp}
use Rattle.ge_collections.specs.Keyed.{text_cmp, at_text, at_number}
use Rattle.ge_model_rows.specs.ClusterRows.{Cluster}
use Rattle.ge_model_rows.specs.HostRows.{Groups, InstanceId}
use Rattle.ge_model_rows.specs.JobRows.{Job}
use Rattle.ge_model_rows.specs.QueueRows.{QueueRow}
use Rattle.ge_model_rows.specs.ValueRows.{Value}
use Rattle.ge_model_rows.specs.Complexes.{is_consumable}
use Rattle.ge_model_place.specs.Opening.{has_host, is_asked_for, admits_owner, admits_project, admits_no_project, admits_pe, admits_value, has_value, is_configured, consumes_what_is, meets_forced, reaches_threshold, is_open_in, is_open}
use Rattle.ge_model_place.proofs.Same.{texts_equal}
use Rattle.ge_attempts.specs.Amounts.{IsInTable, asks_itself}
use Rattle.ge_attempts.specs.Closing.{asked_by_all, lacks_in, lacks_one, IsClosed}

-- one more is looked at
pub all_with : {X : Type 0} (test : X → Bool) (old new : List X) (x : X) → list_all test old ≡ true → new ≡ old ++ filter test (x ∷ []) → list_all test new ≡ true
all_with test old new x all is =
    subst (λ xs. list_all test xs ≡ true) (sym is)
    (list_all-append test old (filter test (x ∷ []))
    ∙ and_from (list_all test old) (list_all test (filter test (x ∷ []))) all
    (cond_both (test x) (x ∷ []) [] (λ xs. list_all test xs ≡ true) (λ does. and_from (test x) true does refl) (λ _. refl)))

module _ (name : List ℕ) where
  pub each_asks : (jobs : List (ℕ × Job)) (number : ℕ) (job : Job) → list_all (asks_itself name) jobs ≡ true → at_number jobs number ≡ Some job → has_value job.request.asked name ≡ true
  each_asks [] number job all there = absurd cc
  each_asks (row ∷ rows) number job all there =
      let parts = and_parts (asks_itself name row) (list_all (asks_itself name) rows) all in
      here (is_at (nat_cmp number) row.0) there parts.0 (each_asks rows number job parts.1)
    where
      here : (same : Bool) → cond same (Some row.1) (at_number rows number) ≡ Some job → asks_itself name row ≡ true
          → (at_number rows number ≡ Some job → has_value job.request.asked name ≡ true) → has_value job.request.asked name ≡ true
      here true is asks others = let own : row.1 ≡ job = cc in subst (λ (j : Job). has_value j.request.asked name ≡ true) own asks
      here false is asks others = others is

module _ (c : Cluster) (groups : Groups) (at : InstanceId) (q : QueueRow) where
  -- what asks for a consumable that isn't there
  module _ (name : List ℕ) (consumed : is_consumable c name ≡ true) (lacks : is_configured c groups at q name ≡ false) where
    none_consumes : (asked : List (List ℕ × Value)) → has_value asked name ≡ true → list_all (consumes_what_is c groups at q) asked ≡ false
    none_consumes [] asks = absurd (true≢false (sym asks))
    none_consumes (row ∷ rows) asks = here (is_at (text_cmp name) row.0) refl asks (none_consumes rows)
      where
        here : (same : Bool) → is_at (text_cmp name) row.0 ≡ same → is_some (cond same (Some row.1) (at_text rows name)) ≡ true
            → (has_value rows name ≡ true → list_all (consumes_what_is c groups at q) rows ≡ false) → list_all (consumes_what_is c groups at q) (row ∷ rows) ≡ false
        here true is asks others =
            let same : name ≡ row.0 = texts_equal name row.0 (sym (is_eq-slice_cmp name row.0) ∙ is) in
            and_left (consumes_what_is c groups at q row) (list_all (consumes_what_is c groups at q) rows)
            (or_from (not (is_consumable c row.0)) (is_configured c groups at q row.0)
            (not_from_true (is_consumable c row.0) (subst (λ n. is_consumable c n ≡ true) same consumed)) (subst (λ n. is_configured c groups at q n ≡ false) same lacks))
        here false is asks others = and_right (consumes_what_is c groups at q row) (list_all (consumes_what_is c groups at q) rows) (others asks)

  module _ (job : Job) (there : IsInTable c job) where
    shut_without : (name : List ℕ) → asked_by_all c name ≡ true → is_configured c groups at q name ≡ false → is_open_in c groups job at (Some q) ≡ false
    shut_without name asked lacks =
        let parts = and_parts (is_consumable c name) (list_all (asks_itself name) c.jobs) asked in
        let front : Bool = has_host c at && is_asked_for groups job at && admits_owner c groups job at q && admits_project groups at q job.project && admits_no_project groups at q job.project
        && admits_pe c groups job at q job.request.pe && list_all (admits_value c groups at) job.request.asked in
        let consumes : Bool = list_all (consumes_what_is c groups at q) job.request.asked in
        let forced : Bool = list_all (meets_forced c groups job at q) c.complexes in
        and_left (front && consumes && forced) (not (reaches_threshold c groups at)) (and_left (front && consumes) forced
        (and_right front consumes (none_consumes name parts.0 lacks job.request.asked (each_asks name c.jobs there.number job parts.1 there.there))))

    shut_where : (names : List (List ℕ)) → list_all (asked_by_all c) names ≡ true → list_any (λ name. not (is_configured c groups at q name)) names ≡ true → is_open_in c groups job at (Some q) ≡ false
    shut_where [] all lacks = absurd (true≢false (sym lacks))
    shut_where (name ∷ names) all lacks =
        let parts = and_parts (asked_by_all c name) (list_all (asked_by_all c) names) all in
        elim (or_cases (not (is_configured c groups at q name)) (list_any (λ n. not (is_configured c groups at q n)) names) lacks) [
          | inl here ↦ shut_without name parts.0 (not-true (is_configured c groups at q name) here)
          | inr behind ↦ shut_where names parts.1 behind
        ]

shut_in : (c : Cluster) (groups : Groups) (at : InstanceId) (queue : Option QueueRow) (names : List (List ℕ)) → list_all (asked_by_all c) names ≡ true → lacks_in c groups names at queue ≡ true
    → (job : Job) → IsInTable c job → is_open_in c groups job at queue ≡ false
shut_in c groups at None names all lacks job there = refl
shut_in c groups at (Some q) names all lacks job there = shut_where c groups at q job there names all lacks

pub closed_to_all : (c : Cluster) (groups : Groups) (names : List (List ℕ)) (at : InstanceId) → list_all (asked_by_all c) names ≡ true → lacks_one c groups names at ≡ true → IsClosed c groups at
unfolding is_open
closed_to_all c groups names at all lacks job there = shut_in c groups at (at_text c.queues at.queue) names all lacks job there
