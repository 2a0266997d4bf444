-- Instances all of whose slots are booked: they take nothing of a job that asks for one slot.
use Rattle.std.proofs.Common.{◌≡◌, ℕ, ◌+◌, ◌≤◌, ◌<◌, ◌==◌, inl, inr, Bool, true, false, min, max, List, [], ◌∷◌, filter, fold, Option, Some, None, refl, sym, subst, ap, ◌∙◌, arith}
use Rattle.std.specs.List.{list_any}
use Rattle.std.specs.Prelude.{nat_lt}
use Rattle.std.proofs.lemmas.Bool.{cond_both, cond-true, cond-false, cases_Bool, and_parts, or_from, leb-true, ltb-true, eqb-true, not-false}
use Rattle.ge_collections.specs.Keyed.{at_number}
use Rattle.ge_model_rows.specs.ClusterRows.{Cluster}
use Rattle.ge_model_rows.specs.HostRows.{Groups, InstanceId}
use Rattle.ge_model_rows.specs.JobRows.{Job, Advance}
use Rattle.ge_model_rows.specs.ScheduleRows.{LimitId, Booking}
use Rattle.ge_model_rows.specs.ValueRows.{infinity}
use Rattle.ge_model_place.specs.Bookings.{forever, window_end, plain_sum, begins_inside, raised, peak}
use Rattle.ge_model_place.specs.Limits.{capacity_of}
use Rattle.ge_model_place.specs.Placement.{placement_of}
use Rattle.ge_model_place.specs.Windows.{duration_of, advance_of, no_later_than, window_end_from, lasts_at, next_moment}
use Rattle.ge_model_place.proofs.Admitted.{out_of_time}
use Rattle.ge_model_place.proofs.First.{takes_one}
use Rattle.ge_timeline.specs.Looks.{window_peak}
use Rattle.ge_attempts.specs.Vacant.{goes_on, slots_of, is_used_up, is_occupied, is_vacant}
use Rattle.ge_attempts.proofs.Admitting.{takes_none}
use Rattle.ge_attempts.proofs.Nowhere.{none_placed}

-- lists

any_kept : {X : Type 0} (keeps test : X → Bool) → ((x : X) → keeps x ≡ false → test x ≡ false) → (xs : List X) → [] ≡ filter keeps xs → list_any test xs ≡ false
any_kept keeps test out [] none = refl
any_kept keeps test out (x ∷ xs) none =
    elim (cases_Bool (keeps x)) [
      | inl kept ↦
          let both : [] ≡ x ∷ filter keeps xs = none ∙ cond-true (keeps x) (x ∷ filter keeps xs) (filter keeps xs) kept in
          absurd cc
      | inr gone ↦
          or_from (test x) (list_any test xs) (out x gone) (any_kept keeps test out xs (none ∙ cond-false (keeps x) (x ∷ filter keeps xs) (filter keeps xs) gone))
    ]

-- the greatest sum at one moment is the sum there

none_inside : (bookings : List Booking) (limit : LimitId) (now until most : ℕ) → until ≤ now + 1 → (bs : List Booking) → fold (raised bookings limit now until) most bs ≡ most
none_inside bookings limit now until most one [] = refl
none_inside bookings limit now until most one (b ∷ bs) =
    let same : raised bookings limit now until most b ≡ most =
    cond_both (begins_inside now until b) (max most (plain_sum bookings limit b.from)) most (λ n. n ≡ most)
    (λ e.
    let parts = and_parts (nat_lt now b.from) (nat_lt b.from until) e in
    let since = ltb-true now b.from parts.0 in
    let before = ltb-true b.from until parts.1 in
    absurd (omega (arith, since, before, one)))
    (λ _. refl) in
    ap (λ n. fold (raised bookings limit now until) n bs) same ∙ none_inside bookings limit now until most one bs

-- a moment of a window

lasts_within : (c : Cluster) (job : Job) (now : ℕ) → now < forever → now < window_end now (duration_of c job)
lasts_within c job now h =
    elim (cases_Bool (duration_of c job == infinity)) [ inl endless ↦ rw endless h | inr some ↦ rw some (omega (arith, h)) ]

pub lasts_on : (c : Cluster) (job : Job) (now : ℕ) → goes_on c now ≡ true → (job.advance == 0) ≡ true → now < window_end_from c job now
lasts_on c job now on free =
    subst (λ n. now < no_later_than (at_number c.advances n) (window_end now (duration_of c job))) (sym (eqb-true job.advance 0 free)) (here (at_number c.advances 0) on)
  where
    here : (a : Option Advance) → nat_lt now (no_later_than a forever) ≡ true → now < no_later_than a (window_end now (duration_of c job))
    here None e = lasts_within c job now (ltb-true now forever e)
    here (Some a) e =
        let less = ltb-true now (min forever a.until) e in
        let within = lasts_within c job now (omega (arith, less)) in
        omega (arith, less, within)

-- the greatest sum at the moment is no more than the sum there
pub peak_there : (booked : List Booking) (limit : LimitId) (now : ℕ) → window_peak booked limit now (next_moment now) ≤ plain_sum booked limit now
peak_there booked limit now =
    cond_both (nat_lt now (next_moment now)) (peak booked limit now (next_moment now)) 0 (λ n. n ≤ plain_sum booked limit now)
    (λ _. let same : peak booked limit now (next_moment now) ≡ plain_sum booked limit now = none_inside booked limit now (next_moment now) (plain_sum booked limit now) (omega arith) booked in omega (arith, same))
    (λ _. omega arith)

module _ (c : Cluster) (groups : Groups) (now : ℕ) (booked : List Booking) where
  -- an instance all of whose slots are booked takes no slot of a job that asks for one slot
  refuses : (job : Job) (at : InstanceId) → (job.advance == 0) ≡ true → is_occupied c groups now booked at ≡ true → takes_one c groups job booked now at ≡ false
  refuses job at free e =
      let parts = and_parts (goes_on c now) (is_used_up c groups now booked (slots_of at)) e in
      let used = leb-true (capacity_of c groups (slots_of at)) (window_peak booked (slots_of at) now (next_moment now)) parts.1 in
      let most = peak_there booked (slots_of at) now in
      takes_none c groups job at booked now (lasts_on c job now parts.0 free) free (omega (arith, used, most))

  module _ (order : List InstanceId) where
    -- a job of which no instance takes a slot, where there is no reservation that a job may be sent into
    pub nothing_placed : (job : Job) → ((job.advance == 0) ≡ true → list_any (takes_one c groups job booked now) order ≡ false) → c.advances ≡ [] → placement_of c groups order booked job now ≡ None
    nothing_placed job refused none =
        elim (cases_Bool (job.advance == 0)) [
          | inl free ↦ none_placed c groups job booked now order (refused free)
          | inr sent ↦ out_of_time c groups job booked now order
              (or_from (job.advance == 0) (lasts_at now (advance_of c job)) sent (ap (λ (rows : List (ℕ × Advance)). lasts_at now (at_number rows job.advance)) none))
        ]

    -- as where none has a slot left
    pub none_vacant : [] ≡ filter (is_vacant c groups now booked) order → (job : Job) → (job.advance == 0) ≡ true → list_any (takes_one c groups job booked now) order ≡ false
    none_vacant none job free =
        any_kept (is_vacant c groups now booked) (takes_one c groups job booked now)
        (λ at gone. refuses job at free (not-false (is_occupied c groups now booked at) gone)) order none
