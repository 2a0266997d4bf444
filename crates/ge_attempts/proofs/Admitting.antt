-- Where one slot of an instance is admissible, each limit that it counts for has room for it.
use Rattle.std.proofs.Common.{◌≡◌, ℕ, ◌+◌, ◌≤◌, ◌<◌, ◌==◌, inl, inr, Bool, true, false, cond, min, List, [], ◌∷◌, ◌++◌, map, Option, Some, None, refl, sym, ap, ◌∙◌, arith}
use Rattle.std.specs.List.{list_any}
use Rattle.std.specs.Prelude.{filter}
use Rattle.std.proofs.lemmas.Bool.{cond-true, cases_Bool, and_parts, or_left, or_right, true≢false, false_from_ne_true}
use Rattle.std.proofs.lemmas.List.Folds.{list_any-append}
use Rattle.std.proofs.lemmas.List.Sums.{sum_by-cons}
use Rattle.ge_collections.specs.Keyed.{text_eq, at_text}
use Rattle.ge_model_rows.specs.ClusterRows.{Cluster}
use Rattle.ge_model_rows.specs.HostRows.{Groups, InstanceId}
use Rattle.ge_model_rows.specs.JobRows.{Job, Grant}
use Rattle.ge_model_rows.specs.QueueRows.{QueueRow}
use Rattle.ge_model_rows.specs.ScheduleRows.{LimitId, Instance, Host, Global, Quota, Booking}
use Rattle.ge_model_place.specs.Bookings.{same_limit, demand_on, plain_sum, peak}
use Rattle.ge_model_place.proofs.Peaks.{within_peak}
use Rattle.ge_model_place.specs.Demands.{counts_for, slots_for, amount_for}
use Rattle.ge_model_place.specs.Limits.{greatest_demand, capacity_of, consumables, is_other, instance_limits, host_limits, pe_limits, who_at, configured_limits, limits_at, asked_or_default, per_slot, is_per_job, resource_of, demands_of}
use Rattle.ge_model_place.specs.Opening.{slots_name, global_name, is_open_in, is_open}
use Rattle.ge_model_place.specs.Placement.{are_open}
use Rattle.ge_model_place.specs.Quotas.{quota_keys}
use Rattle.ge_model_place.specs.Runs.{one_slot}
use Rattle.ge_model_place.specs.Windows.{window_end_from}
use Rattle.ge_model_place.proofs.First.{takes_one}
use Rattle.ge_model_place.proofs.Moments.{admissible_is}
use Rattle.ge_model_place.proofs.Same.{text_same, limit_same}
use Rattle.ge_model_place.proofs.Sums.{room_or_none}
use Rattle.ge_model_place.proofs.Whole.{demands_each}
use Rattle.ge_model_rows.specs.Queues.{attr_at}
use Rattle.ge_model_rows.specs.Complexes.{is_consumable}
use Rattle.ge_attempts.specs.Vacant.{slots_of}

pub any_first : {X : Type 0} (test : X → Bool) (xs ys : List X) → list_any test xs ≡ true → list_any test (xs ++ ys) ≡ true
any_first test xs ys e = list_any-append test xs ys ∙ or_left (list_any test xs) (list_any test ys) e

pub any_second : {X : Type 0} (test : X → Bool) (xs ys : List X) → list_any test ys ≡ true → list_any test (xs ++ ys) ≡ true
any_second test xs ys e = list_any-append test xs ys ∙ or_right (list_any test xs) (list_any test ys) e

-- one slot of an instance
abbrev pub grant_at : InstanceId → Grant
grant_at at = record { at = at; slots = 1 }

module _ (c : Cluster) (groups : Groups) (job : Job) (at : InstanceId) where
  -- whether one slot counts for a limit
  abbrev pub counts_here : LimitId → Bool
  counts_here limit = counts_for c groups job limit (grant_at at)

  -- what one slot asks of a limit that it counts for
  amount_one : (limit : LimitId) → amount_for c groups job limit 1 ≡ per_slot c job (resource_of limit)
  amount_one limit =
      elim (cases_Bool (is_per_job c (resource_of limit))) [ inl once ↦ rw once refl | inr each ↦ rw each (omega arith) ]

  asks_one : (limit : LimitId) → counts_here limit ≡ true → demand_on (demands_of c groups job (one_slot at)) limit ≡ min (per_slot c job (resource_of limit)) greatest_demand
  asks_one limit counts =
      let slots : Grant → ℕ = λ (g : Grant). cond (counts_for c groups job limit g) g.slots 0 in
      let whole = sum_by-cons slots (grant_at at) [] in
      let here : slots (grant_at at) ≡ 1 = cond-true _ _ _ counts in
      let one : slots_for c groups job limit (one_slot at) ≡ 1 = omega (arith, whole, here) in
      demands_each c groups job (one_slot at) limit ∙ ap (λ n. min n greatest_demand) (ap (λ n. amount_for c groups job limit n) one ∙ amount_one limit)

  -- a limit that one slot counts for and that it asks something of has room for that
  pub has_room_for : (bookings : List Booking) (from : ℕ) (limit : LimitId) → from < window_end_from c job from → counts_here limit ≡ true → (per_slot c job (resource_of limit) ≡ 0 → ⊥)
      → takes_one c groups job bookings from at ≡ true → peak bookings limit from (window_end_from c job from) + min (per_slot c job (resource_of limit)) greatest_demand ≤ capacity_of c groups limit
  has_room_for bookings from limit ever counts some takes =
      let asks = asks_one limit counts in
      elim (room_or_none c groups limit 0 job bookings from (one_slot at) ever takes) [
        | inl nothing ↦ absurd (some (omega (arith, nothing, asks)))
        | inr room ↦ omega (arith, room, asks)
      ]

  slots_there : (queue : Option QueueRow) → is_open_in c groups job at queue ≡ true → list_any (λ other. same_limit other (slots_of at)) (instance_limits c groups at queue) ≡ true
  slots_there None e = absurd (true≢false (sym e))
  slots_there (Some q) e =
      let test : LimitId → Bool = λ other. same_limit other (slots_of at) in
      any_second test (map (Instance at) (filter is_other (consumables c (attr_at q.values groups at.host)))) (slots_of at ∷ []) (or_left (test (slots_of at)) false (limit_same (slots_of at)))

  -- a job that is sent into no reservation counts for the slots of each instance that is open to it
  pub slots_count : is_open c groups job at ≡ true → (job.advance == 0) ≡ true → counts_here (slots_of at) ≡ true
  unfolding is_open
  slots_count opened free =
      let test : LimitId → Bool = λ other. same_limit other (slots_of at) in
      let first : List LimitId = instance_limits c groups at (at_text c.queues at.queue) in
      let second : List LimitId = host_limits c (Host at.host) (at_text c.hosts at.host) in
      let third : List LimitId = host_limits c Global (at_text c.hosts global_name) in
      let fourth : List LimitId = pe_limits job.request.pe in
      let fifth : List LimitId = map Quota (quota_keys c groups (who_at job at)) in
      let which : limits_at c groups job at ≡ configured_limits c groups job at = cond-true _ _ _ free in
      ap (λ ls. list_any test ls) which
      ∙ any_first test (first ++ second ++ third ++ fourth) fifth
      (any_first test (first ++ second ++ third) fourth (any_first test (first ++ second) third (any_first test first second (slots_there (at_text c.queues at.queue) opened))))

  one_asked : per_slot c job (resource_of (slots_of at)) ≡ 1
  one_asked =
      cond-true (text_eq slots_name slots_name) 1 (cond (is_consumable c slots_name) (asked_or_default c slots_name (at_text job.request.asked slots_name)) 0) (text_same slots_name)

  -- an instance all of whose slots are booked takes none of such a job
  pub takes_none : (bookings : List Booking) (from : ℕ) → from < window_end_from c job from → (job.advance == 0) ≡ true → capacity_of c groups (slots_of at) ≤ plain_sum bookings (slots_of at) from
      → takes_one c groups job bookings from at ≡ false
  takes_none bookings from ever free used =
      false_from_ne_true (takes_one c groups job bookings from at) (λ takes.
      let are = admissible_is c groups job bookings from (one_slot at) takes in
      let opened = (and_parts (is_open c groups job at) (are_open c groups job []) are.opened).0 in
      let one = one_asked in
      let room = has_room_for bookings from (slots_of at) ever (slots_count opened free) (λ none. absurd (omega (arith, none, one))) takes in
      let within = within_peak bookings (slots_of at) from (window_end_from c job from) from (omega arith) ever in
      absurd (omega (arith, room, one, used, within)))
