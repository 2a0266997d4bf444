-- Without a share tree all tickets of a job are the functional and override ones.
use Rattle.std.proofs.Common.{◌≡◌, ℕ, ◌+◌, List, [], ◌∷◌, None, Some, Option, map, refl, ap, ◌∙◌, arith}
use Rattle.ge_collections.specs.Keyed.{at_number}
use Rattle.ge_model_rows.specs.ClusterRows.{Cluster}
use Rattle.ge_model_rows.specs.JobRows.{Job}
use Rattle.ge_model_order.specs.Amounts.{cut_at_64}
use Rattle.ge_model_order.specs.Priority.{added_tickets, all_tickets_of}
use Rattle.ge_model_order.specs.Tickets.{AllShares, all_shares, job_tickets, jobs_of, tickets_at, tickets_of}
use Rattle.ge_tickets.specs.Listed.{no_tickets}
use Rattle.ge_tickets.proofs.Treeless.{treeless}

-- an amount that is cut isn't cut again
cut_again : (n : ℕ) → cut_at_64 n ≡ cut_at_64 (cut_at_64 n + 0)
cut_again n = omega arith

one_alone : (c : Cluster) (shares : AllShares) (jobs : List Job) (number : ℕ) → tickets_at c shares jobs number ≡ cut_at_64 (tickets_at c shares jobs number + no_tickets number)
one_alone c shares jobs number = here (at_number c.jobs number)
  where
    here : (job : Option Job) → elim job [ None ↦ 0 | Some job ↦ job_tickets c shares jobs job ] ≡ cut_at_64 (elim job [ None ↦ 0 | Some job ↦ job_tickets c shares jobs job ] + 0)
    here None = refl
    here (Some job) = cut_again _

each_alone : (c : Cluster) (shares : AllShares) (jobs : List Job) (numbers : List ℕ) → map (tickets_at c shares jobs) numbers ≡ added_tickets (map (tickets_at c shares jobs) numbers) (map no_tickets numbers)
each_alone c shares jobs [] = refl
each_alone c shares jobs (number ∷ numbers) = λ i. one_alone c shares jobs number i ∷ each_alone c shares jobs numbers i

pub functional_alone : (c : Cluster) (numbers : List ℕ) (now : ℕ) → c.shares ≡ [] → tickets_of c numbers ≡ all_tickets_of c numbers now
unfolding tickets_of
functional_alone c numbers now none =
    each_alone c (all_shares c (jobs_of c numbers)) (jobs_of c numbers) numbers ∙ ap (λ (shared : List ℕ). added_tickets (tickets_of c numbers) shared) (treeless c numbers now none)
