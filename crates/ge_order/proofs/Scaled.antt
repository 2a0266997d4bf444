-- Bounds of urgencies, and priorities, from what is known of the jobs.
use Rattle.std.proofs.Common.{◌≡◌, refl, ap, ◌∙◌}
use Rattle.std.specs.Prelude.{ℕ, min, max, List, [], ◌∷◌, map, fold, zip, Option, Some, None, unwrap_or}
use Rattle.std.specs.List.{cons_option}
use Rattle.std.specs.Option.{option_map}
use Rattle.ge_collections.specs.Keyed.{at_number}
use Rattle.ge_model_rows.specs.ClusterRows.{Cluster}
use Rattle.ge_model_rows.specs.JobRows.{Job}
use Rattle.ge_model_order.specs.Amounts.{least, greatest}
use Rattle.ge_model_order.specs.Priority.{prio_at, prios_of, job_prio}
use Rattle.ge_model_order.specs.Tickets.{jobs_of}
use Rattle.ge_model_order.specs.Urgency.{urgency_of}
use Rattle.ge_order.specs.Standings.{standing_of, urgent_of, urgencies_of, with_lesser, with_greater, prio_of, prio_of_urgent}
use Rattle.ge_order.specs.declared.priority.Scale.{Scale}
use Rattle.ge_order.specs.declared.standing.Standing.{Standing}
use Rattle.ge_order.specs.declared.standing.Urgent.{Urgent}

-- the least of more, where there is one already
lesser_than : (low : ℕ) (standings : List Standing) → fold with_lesser (Some low) standings ≡ Some (fold (λ few m. min few m) low (urgencies_of standings))
lesser_than low [] = refl
lesser_than low (standing ∷ standings) = by standing.urgent (λ least. lesser_than least standings)
  where
    by : (urgent : Option Urgent) → ((least : ℕ) → fold with_lesser (Some least) standings ≡ Some (fold (λ few m. min few m) least (urgencies_of standings)))
        → fold with_lesser (with_lesser (Some low) (record { job = standing.job; urgent = urgent })) standings
        ≡ Some (fold (λ few m. min few m) low (urgencies_of (record { job = standing.job; urgent = urgent } ∷ standings)))
    by None later = later low
    by (Some urgent) later = later (min low urgent.urgency)

pub lowest_is : (standings : List Standing) → unwrap_or (fold with_lesser None standings) 0 ≡ least (urgencies_of standings)
lowest_is [] = refl
lowest_is (standing ∷ standings) = by standing.urgent (lowest_is standings)
  where
    by : (urgent : Option Urgent) → unwrap_or (fold with_lesser None standings) 0 ≡ least (urgencies_of standings) → unwrap_or (fold with_lesser (with_lesser None (record { job = standing.job; urgent = urgent })) standings) 0
        ≡ least (urgencies_of (record { job = standing.job; urgent = urgent } ∷ standings))
    by None later = later
    by (Some urgent) later = ap (λ low. unwrap_or low 0) (lesser_than urgent.urgency standings)

greater_than : (high : ℕ) (standings : List Standing) → fold with_greater high standings ≡ fold (λ most n. max most n) high (urgencies_of standings)
greater_than high [] = refl
greater_than high (standing ∷ standings) = by standing.urgent (λ most. greater_than most standings)
  where
    by : (urgent : Option Urgent) → ((high : ℕ) → fold with_greater high standings ≡ fold (λ most n. max most n) high (urgencies_of standings)) → fold with_greater (with_greater high (record { job = standing.job; urgent = urgent })) standings
        ≡ fold (λ most n. max most n) high (urgencies_of (record { job = standing.job; urgent = urgent } ∷ standings))
    by None later = later high
    by (Some urgent) later = later (max high urgent.urgency)

pub highest_is : (standings : List Standing) → fold with_greater 0 standings ≡ greatest (urgencies_of standings)
highest_is standings = greater_than 0 standings

urgencies_are : (c : Cluster) (now : ℕ) (jobs : List ℕ) → urgencies_of (map (standing_of c now) jobs) ≡ map (λ job. urgency_of c job now) (jobs_of c jobs)
urgencies_are c now [] = refl
urgencies_are c now (number ∷ jobs) = by (at_number c.jobs number) (urgencies_are c now jobs)
  where
    by : (job : Option Job) → urgencies_of (map (standing_of c now) jobs) ≡ map (λ job. urgency_of c job now) (jobs_of c jobs)
        → urgencies_of (record { job = number; urgent = option_map (urgent_of c now) job } ∷ map (standing_of c now) jobs)
        ≡ map (λ row. urgency_of c row now) (cons_option job (jobs_of c jobs))
    by None later = later
    by (Some job) later = ap (λ (urgencies : List ℕ). urgency_of c job now ∷ urgencies) later

one_prio : (c : Cluster) (now : ℕ) (scale : Scale) (number tickets : ℕ) → prio_of c.sched scale (standing_of c now number, tickets)
    ≡ prio_at c now (record { low = scale.low; high = scale.high; most = scale.most }) (number, tickets)
one_prio c now scale number tickets = by (at_number c.jobs number)
  where
    by : (job : Option Job) → prio_of_urgent c.sched scale number tickets (option_map (urgent_of c now) job)
        ≡ elim job [ None ↦ record { job = number; np = 0; nu = 0; nt = 0; total = 0 } | Some row ↦ job_prio c now (record { low = scale.low; high = scale.high; most = scale.most }) number row tickets ]
    by None = refl
    by (Some job) = refl

all_prios : (c : Cluster) (now : ℕ) (scale : Scale) (jobs tickets : List ℕ) → map (prio_of c.sched scale) (zip (map (standing_of c now) jobs) tickets)
    ≡ map (prio_at c now (record { low = scale.low; high = scale.high; most = scale.most })) (zip jobs tickets)
all_prios c now scale [] tickets = refl
all_prios c now scale (number ∷ jobs) [] = refl
all_prios c now scale (number ∷ jobs) (one ∷ tickets) = λ i. one_prio c now scale number one i ∷ all_prios c now scale jobs tickets i

pub prios_are : (c : Cluster) (now : ℕ) (jobs tickets : List ℕ) (standings : List Standing) (scale : Scale) → standings ≡ map (standing_of c now) jobs
    → scale.low ≡ least (urgencies_of standings) → scale.high ≡ greatest (urgencies_of standings) → scale.most ≡ greatest tickets
    → map (prio_of c.sched scale) (zip standings tickets) ≡ prios_of c jobs tickets now
unfolding prios_of
prios_are c now jobs tickets standings scale are low high most =
    let urgencies = ap urgencies_of are ∙ urgencies_are c now jobs in
    ap (λ (rows : List Standing). map (prio_of c.sched scale) (zip rows tickets)) are ∙ all_prios c now scale jobs tickets
    ∙ (λ i. map (prio_at c now (record { low = (low ∙ ap least urgencies) i; high = (high ∙ ap greatest urgencies) i; most = most i })) (zip jobs tickets))
