-- The least end that passes a test is found by going from end to end.
use Rattle.std.proofs.Common.{◌≡◌, ℕ, ◌<◌, Bool, true, false, List, Option, Some, None, refl, sym, ap, ◌∙◌, arith}
use Rattle.std.proofs.lemmas.Bool.{true≢false}
use Rattle.ge_model_rows.specs.ScheduleRows.{Booking}
use Rattle.ge_model_place.specs.Running.{earliest_end, next_end_after}
use Rattle.ge_model_place.specs.Runs.{ends_at}
use Rattle.ge_model_place.proofs.Earliest.{Does, earliest_does, none_sooner, none_passes}

module _ (test : ℕ → Bool) (now : ℕ) (bookings : List Booking) where
  abbrev any : ℕ → Bool
  any end = true

  -- without an end none passes
  no_end : next_end_after bookings now ≡ None → (found : Option ℕ) → earliest_end test now bookings ≡ found → found ≡ None
  no_end none None e = refl
  no_end none (Some m) e =
      let does = earliest_does test now bookings m e in absurd (true≢false (none_passes any now bookings m none does.1.later does.1.ever does.0))

  -- the next end passes
  here_is : (end : ℕ) → next_end_after bookings now ≡ Some end → test end ≡ true → (found : Option ℕ) → earliest_end test now bookings ≡ found → found ≡ Some end
  here_is end next passes None e =
      let is = earliest_does any now bookings end next in absurd (true≢false (sym passes ∙ none_passes test now bookings end e is.1.later is.1.ever is.0))
  here_is end next passes (Some m) e =
      let is = earliest_does any now bookings end next in
      let does = earliest_does test now bookings m e in
      let not_before : m < end → ⊥ = λ less. true≢false (none_sooner any now bookings end m next less does.1.later does.1.ever does.0) in
      let not_behind : end < m → ⊥ = λ less. true≢false (sym passes ∙ none_sooner test now bookings m end e less is.1.later is.1.ever is.0) in
      ap (λ n. Some n) (omega (arith, not_before, not_behind))

  -- the next end fails: the least one is the least after it
  later_is : (end : ℕ) → next_end_after bookings now ≡ Some end → test end ≡ false → (found later : Option ℕ) → earliest_end test now bookings ≡ found → earliest_end test end bookings ≡ later → found ≡ later
  later_is end next fails None None e l = refl
  later_is end next fails None (Some m) e l =
      let is = earliest_does any now bookings end next in
      let does = earliest_does test end bookings m l in
      let after = does.1.later in
      let first = is.1.later in
      absurd (true≢false (sym does.1.passes ∙ none_passes test now bookings m e (omega (arith, after, first)) does.1.ever does.0))
  later_is end next fails (Some m) later e l =
      let does = earliest_does test now bookings m e in
      let not_before : m < end → ⊥ = λ less. true≢false (none_sooner any now bookings end m next less does.1.later does.1.ever does.0) in
      let not_here : m ≡ end → ⊥ = λ same. true≢false (sym does.1.passes ∙ ap test same ∙ fails) in
      let after : end < m = omega (arith, not_before, not_here) in
      behind later l after does
    where
      behind : (later : Option ℕ) → earliest_end test end bookings ≡ later → end < m → (ends_at bookings m ≡ true) × Does test now m → Some m ≡ later
      behind None l after does = absurd (true≢false (sym does.1.passes ∙ none_passes test end bookings m l after does.1.ever does.0))
      behind (Some n) l after does =
          let is = earliest_does any now bookings end next in
          let other = earliest_does test end bookings n l in
          let begun = is.1.later in
          let past = other.1.later in
          let not_sooner : n < m → ⊥ = λ less. true≢false (sym other.1.passes ∙ none_sooner test now bookings m n e less (omega (arith, begun, past)) other.1.ever other.0) in
          let not_later : m < n → ⊥ = λ less. true≢false (sym does.1.passes ∙ none_sooner test end bookings n m l less after does.1.ever does.0) in
          ap (λ k. Some k) (omega (arith, not_sooner, not_later))

  -- none where there is no end, the next end where that passes, else the least one after it
  pub no_end_found : next_end_after bookings now ≡ None → earliest_end test now bookings ≡ None
  no_end_found none = no_end none (earliest_end test now bookings) refl

  pub next_end_found : (end : ℕ) → next_end_after bookings now ≡ Some end → test end ≡ true → earliest_end test now bookings ≡ Some end
  next_end_found end next passes = here_is end next passes (earliest_end test now bookings) refl

  pub later_end_found : (end : ℕ) → next_end_after bookings now ≡ Some end → test end ≡ false → earliest_end test now bookings ≡ earliest_end test end bookings
  later_end_found end next fails = later_is end next fails (earliest_end test now bookings) (earliest_end test end bookings) refl refl
