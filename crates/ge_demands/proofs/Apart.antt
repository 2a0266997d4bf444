-- What slots at one instance ask: a demand on each limit, since no limit is counted twice.
use Rattle.std.proofs.Common.{◌≡◌, ℕ, inl, inr, List, [], ◌∷◌, ◌++◌, refl, sym, ap, subst, ◌∙◌}
use Rattle.std.specs.Prelude.{fold, map}
use Rattle.std.proofs.lemmas.Bool.{cases_Bool, cond-true, cond-false}
use Rattle.std.proofs.lemmas.List.{map-append}
use Rattle.std.proofs.lemmas.List.Sums.{fold-append}
use Rattle.ge_model_rows.specs.ClusterRows.{Cluster}
use Rattle.ge_model_rows.specs.HostRows.{Groups, InstanceId}
use Rattle.ge_model_rows.specs.JobRows.{Job}
use Rattle.ge_model_rows.specs.ScheduleRows.{LimitId}
use Rattle.ge_model_place.specs.Limits.{Counted as Limited, counted, counted_at, limits_at, with_demand, demand_for}
use Rattle.ge_capacities.specs.Found.{is_found, found_with, with_limit_unless_found}
use Rattle.ge_demands.proofs.Demanded.{asked_anew}
use Rattle.ge_capacities.proofs.Gathered.{gathered_behind}

module _ (slots : ℕ) where
  -- no demand is added to another
  abbrev AreApart : List Limited → Type 0
  AreApart found = fold (with_demand slots) [] found ≡ map (demand_for slots) found

  one_apart : (found more : List Limited) → AreApart found → AreApart (found_with found more)
  one_apart found [] apart = apart
  one_apart found (one ∷ rest) apart =
      elim (cases_Bool (is_found found one.limit)) [
        | inl there ↦ subst (λ (l : List Limited). AreApart l) (sym (cond-true (is_found found one.limit) found (found ++ one ∷ []) there)) apart
        | inr new ↦
            subst (λ (l : List Limited). AreApart l) (sym (cond-false (is_found found one.limit) found (found ++ one ∷ []) new))
            (fold-append (with_demand slots) [] found (one ∷ []) ∙ ap (λ demands. with_demand slots demands one) apart ∙ asked_anew slots one found new
            ∙ sym (map-append (demand_for slots) found (one ∷ [])))
      ]

  module _ (c : Cluster) (groups : Groups) (job : Job) where
    all_apart : (limits : List LimitId) (found : List Limited) → AreApart found → AreApart (fold (with_limit_unless_found c groups job) found limits)
    all_apart [] found apart = apart
    all_apart (x ∷ limits) found apart = all_apart limits (with_limit_unless_found c groups job found x) (one_apart found (counted c groups job x) apart)

    pub counted_apart : (at : InstanceId) → fold (with_demand slots) [] (counted_at c groups job at) ≡ map (demand_for slots) (counted_at c groups job at)
    unfolding counted_at
    counted_apart at =
        let limits = limits_at c groups job at in
        subst (λ (l : List Limited). AreApart l) (sym (gathered_behind c groups job limits [])) (all_apart limits [] refl)
