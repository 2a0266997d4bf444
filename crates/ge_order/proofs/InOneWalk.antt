-- One more candidate is gathered from a walk over short rows.
use Rattle.std.proofs.Common.{◌≡◌, ℕ, true, cond, List, [], ◌∷◌, ◌++◌, map, filter, None, Some, sym, ap, ◌∙◌, append_assoc}
use Rattle.std.specs.Map.{keys_of}
use Rattle.ge_collections.specs.Keyed.{at_number}
use Rattle.ge_job_index.specs.declared.short_row.ShortRow.{ShortRow}
use Rattle.ge_model_rows.specs.ClusterRows.{Cluster}
use Rattle.ge_model_order.specs.Amounts.{cut_at_64}
use Rattle.ge_rows.specs.declared.labels.JobFacts.{JobFacts}
use Rattle.ge_tickets.specs.Own.{told_tickets}
use Rattle.ge_order.specs.Told.{has_task, chosen}

-- what is gathered, with that of the job that the walk comes to
pub chosen_more : {X : Type 0} (f : ℕ → X) (c : Cluster) (now : ℕ) (done more whole : List X) (one : X) (before rest : List (ℕ × ShortRow JobFacts)) (number : ℕ) (row : ShortRow JobFacts)
    → before ≡ (number, row) ∷ rest → has_task c now (number, row) ≡ true → done ++ map f (chosen c now before) ≡ whole → one ≡ f number → more ≡ done ++ one ∷ []
    → more ++ map f (chosen c now rest) ≡ whole
chosen_more {X} f c now done more whole one before rest number row steps is so_far of_it pushed =
    ap (λ (xs : List X). xs ++ map f (chosen c now rest)) pushed
    ∙ append_assoc done (one ∷ []) (map f (chosen c now rest))
    ∙ ap (λ (x : X). done ++ x ∷ map f (chosen c now rest)) of_it
    ∙ ap (λ b. done ++ map f (keys_of (cond b ((number, row) ∷ filter (has_task c now) rest) (filter (has_task c now) rest)))) (sym is)
    ∙ ap (λ (es : List (ℕ × ShortRow JobFacts)). done ++ map f (chosen c now es)) (sym steps)
    ∙ so_far

-- the tickets in a short row that is found
pub ticket_of_row : (rows : List (ℕ × ShortRow JobFacts)) (number : ℕ) (row : ShortRow JobFacts) → at_number rows number ≡ Some row → cut_at_64 row.facts.oticket ≡ told_tickets rows number
ticket_of_row rows number row there = sym (ap (λ o. elim o as (λ o. ℕ) [ None ↦ 0 | Some r ↦ cut_at_64 r.facts.oticket ]) there)
