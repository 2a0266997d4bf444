-- No window ends before the shortest time that is asked for is over, unless an advance reservation cuts it.
use Rattle.std.proofs.Common.{◌≡◌, ℕ, ◌+◌, ◌-◌, ◌^◌, ◌≤◌, ◌==◌, min, max, List, Option, Some, None, refl, ap, arith}
use Rattle.std.proofs.lemmas.Bool.{cond_both, eqb-true}
use Rattle.ge_collections.specs.Keyed.{at_number}
use Rattle.ge_job_index.specs.declared.short_row.ShortRow.{ShortRow}
use Rattle.ge_model_place.specs.Bookings.{window_end, forever}
use Rattle.ge_model_place.specs.Windows.{duration_of, advance_of, no_later_than}
use Rattle.ge_model_rows.specs.ClusterRows.{Cluster}
use Rattle.ge_model_rows.specs.JobRows.{Advance}
use Rattle.ge_model_rows.specs.ValueRows.{infinity}
use Rattle.ge_rows.specs.Asked.{shortest_time}
use Rattle.ge_rows.specs.declared.labels.JobFacts.{JobFacts}
use Rattle.ge_attempts.specs.Amounts.{TellFacts}
use Rattle.ge_attempts.specs.Rests.{shortest_in, cut_at_advances, EndsNoSooner}
use Rattle.ge_attempts.proofs.Facts.{no_more, no_more_than_each, shortest_lasts}

-- a window that lasts no longer ends no later, where it ends at all
longer : (from short long : ℕ) → short ≤ 2 ^ 32 → short ≤ long → window_end from short ≤ window_end from long
longer from short long small within =
    cond_both (short == infinity) forever (min (from + short) forever) (λ n. n ≤ window_end from long)
    (λ e. absurd (let same : short ≡ infinity = eqb-true short infinity e in omega (arith, same, small)))
    (λ _. cond_both (long == infinity) forever (min (from + long) forever) (λ n. min (from + short) forever ≤ n) (λ _. omega arith) (λ _. omega (arith, within)))

cut_at : (advances : List (ℕ × Advance)) (number end long : ℕ) (found : Option Advance) → at_number advances number ≡ found → end ≤ long → cut_at_advances advances end ≤ no_later_than found long
cut_at advances number end long None there within = let less = no_more (λ (a : Advance). a.until) advances end in omega (arith, less, within)
cut_at advances number end long (Some advance) there within =
    let less = no_more (λ (a : Advance). a.until) advances end in
    let each = no_more_than_each (λ (a : Advance). a.until) advances end number advance there in omega (arith, less, each, within)

pub ends_no_sooner : (c : Cluster) (now : ℕ) (rows : List (ℕ × ShortRow JobFacts)) (shortest : ℕ) → TellFacts c.jobs rows → shortest ≡ min (shortest_in rows) c.sched.default_duration
    → EndsNoSooner c now (cut_at_advances c.advances (window_end now (max shortest 1)))
ends_no_sooner c now rows shortest told is job there =
    let own = told there.number job there.there in
    let small = no_more (λ (r : ShortRow JobFacts). r.facts.lasts) rows (2 ^ 32 - 1) in
    let each = no_more_than_each (λ (r : ShortRow JobFacts). r.facts.lasts) rows (2 ^ 32 - 1) there.number own.0 own.1 in
    let same : own.0.facts.lasts ≡ shortest_time job.request.asked = ap (λ (f : JobFacts). f.lasts) own.2 in
    let asked = shortest_lasts job.request.asked c.sched.default_duration in
    cut_at c.advances job.advance (window_end now (max shortest 1)) (window_end now (duration_of c job)) (advance_of c job) refl
    (longer now (max shortest 1) (duration_of c job) (omega (arith, is, small)) (omega (arith, is, each, same, asked)))
