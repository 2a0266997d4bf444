-- Moments at which too little is left at an instance, and ends of windows: they stay as bookings grow and what is left is taken anew.
use Rattle.std.proofs.Common.{◌≡◌, ℕ, ◌≤◌, inl, inr, Bool, true, false, ◌&&◌, ◌||◌, List, [], ◌∷◌, ◌++◌, map, Option, Some, None, is_some, refl, sym, subst, ap, ◌∙◌, arith}
use Rattle.std.specs.Prelude.{nat_lt, nat_le, IfSome}
use Rattle.std.proofs.lemmas.Bool.{cases_Bool, cond-true, cond-false, cond_both, and_parts, and_from, or_cases, or_left, or_right, true≢false, ltb-true, leb-true, lt-ltb}
use Rattle.ge_model_place.specs.Bookings.{peak}
use Rattle.ge_model_place.proofs.Peaks.{within_peak}
use Rattle.ge_model_place.specs.Windows.{window_end_from, next_moment}
use Rattle.ge_model_rows.specs.ClusterRows.{Cluster}
use Rattle.ge_model_rows.specs.HostRows.{Groups}
use Rattle.ge_model_rows.specs.JobRows.{Job}
use Rattle.ge_model_rows.specs.ScheduleRows.{LimitId, Booking}
use Rattle.ge_timeline.specs.Looks.{window_peak}
use Rattle.ge_attempts.specs.declared.rests.Rest.{Rest}
use Rattle.ge_attempts.specs.declared.rests.Left.{Left}
use Rattle.ge_attempts.specs.Amounts.{IsInTable}
use Rattle.ge_attempts.specs.Rests.{renewed_rest, are_short, left_then, is_short_then, are_short_then, comes_before, comes_sooner, blocked_since, is_full, IsBlocked, LastsUntil}
use Rattle.ge_attempts.specs.Vacant.{goes_on}
use Rattle.ge_attempts.proofs.Grown.{sum_grows}
use Rattle.ge_attempts.proofs.LeftOut.{peak_there}

some_on : {X : Type 0} (P Q : X → Type 0) (known : Option X) → ((x : X) → P x → Q x) → IfSome known P → IfSome known Q
some_on P Q None on is = is
some_on P Q (Some x) on is = on x is

pub not_known : {X : Type 0} (known : Option X) → is_some known ≡ false → known ≡ None
not_known None e = refl
not_known (Some x) e = absurd (true≢false e)

-- as bookings grow no more is left at a moment

peak_grows : (booked more : List Booking) (limit : LimitId) (moment : ℕ) → window_peak booked limit moment (next_moment moment) ≤ window_peak (booked ++ more) limit moment (next_moment moment)
peak_grows booked more limit moment =
    elim (cases_Bool (nat_lt moment (next_moment moment))) [
      | inl on ↦
          let low = peak_there booked limit moment in
          let grows = sum_grows limit moment booked more in
          let high = within_peak (booked ++ more) limit moment (next_moment moment) moment (omega arith) (ltb-true moment (next_moment moment) on) in
          let whole : window_peak (booked ++ more) limit moment (next_moment moment) ≡ peak (booked ++ more) limit moment (next_moment moment) = cond-true (nat_lt moment (next_moment moment)) (peak (booked ++ more) limit moment (next_moment moment)) 0 on in
          omega (arith, low, grows, high, whole)
      | inr off ↦
          let none : window_peak booked limit moment (next_moment moment) ≡ 0 = cond-false (nat_lt moment (next_moment moment)) (peak booked limit moment (next_moment moment)) 0 off in
          omega (arith, none)
    ]

short_later : (booked more : List Booking) (moment : ℕ) (rest : Rest) → is_short_then booked moment [] rest ≡ true → is_short_then (booked ++ more) moment [] rest ≡ true
short_later booked more moment rest e =
    elim (or_cases (nat_lt (left_then booked moment rest) rest.least) false e) [
      | inl less ↦
          let grows = peak_grows booked more rest.limit moment in
          let under = ltb-true (left_then booked moment rest) rest.least less in
          or_left (nat_lt (left_then (booked ++ more) moment rest) rest.least) false (lt-ltb (left_then (booked ++ more) moment rest) rest.least (omega (arith, grows, under)))
      | inr none ↦ absurd (true≢false (sym none))
    ]

all_short_later : (booked more : List Booking) (moment : ℕ) (rests : List Rest) → are_short_then booked moment [] rests ≡ true → are_short_then (booked ++ more) moment [] rests ≡ true
all_short_later booked more moment [] e = absurd (true≢false (sym e))
all_short_later booked more moment (rest ∷ rests) e =
    elim (or_cases (is_short_then booked moment [] rest) (are_short_then booked moment [] rests) e) [
      | inl here ↦ or_left (is_short_then (booked ++ more) moment [] rest) (are_short_then (booked ++ more) moment [] rests) (short_later booked more moment rest here)
      | inr later ↦ or_right (is_short_then (booked ++ more) moment [] rest) (are_short_then (booked ++ more) moment [] rests) (all_short_later booked more moment rests later)
    ]

short_renewed : (now : ℕ) (booked : List Booking) (moment : ℕ) (rests : List Rest) → are_short_then booked moment [] (map (renewed_rest now booked) rests) ≡ are_short_then booked moment [] rests
short_renewed now booked moment [] = refl
short_renewed now booked moment (rest ∷ rests) = ap (λ others. is_short_then booked moment [] rest || others) (short_renewed now booked moment rests)

-- of what is known of a place

pub known_later : (booked more : List Booking) (rests : List Rest) (known : Option ℕ) → IfSome known (λ moment. are_short_then booked moment [] rests ≡ true) → IfSome known (λ moment. are_short_then (booked ++ more) moment [] rests ≡ true)
known_later booked more rests known is =
    some_on (λ moment. are_short_then booked moment [] rests ≡ true) (λ moment. are_short_then (booked ++ more) moment [] rests ≡ true) known (λ moment was. all_short_later booked more moment rests was) is

pub known_anew : (now : ℕ) (booked : List Booking) (rests : List Rest) (known : Option ℕ) → IfSome known (λ moment. are_short_then booked moment [] rests ≡ true)
    → IfSome known (λ moment. are_short_then booked moment [] (map (renewed_rest now booked) rests) ≡ true)
known_anew now booked rests known is =
    some_on (λ moment. are_short_then booked moment [] rests ≡ true) (λ moment. are_short_then booked moment [] (map (renewed_rest now booked) rests) ≡ true) known
    (λ moment was. short_renewed now booked moment rests ∙ was) is

module _ (c : Cluster) (groups : Groups) (now : ℕ) (booked : List Booking) where
  pub blocked_later : (more : List Booking) (rests : List Rest) (known : Option ℕ) → IfSome known (IsBlocked c groups now booked rests) → IfSome known (IsBlocked c groups now (booked ++ more) rests)
  blocked_later more rests known is =
      some_on (IsBlocked c groups now booked rests) (IsBlocked c groups now (booked ++ more) rests) known (λ moment was. (was.0, all_short_later booked more moment rests was.1)) is

  found_blocked : (rests : List Rest) (kept known : Option ℕ) → IfSome known (IsBlocked c groups now booked rests) → IfSome (blocked_since now booked rests kept known) (IsBlocked c groups now booked rests)
  found_blocked rests None known is = is
  found_blocked rests (Some moment) known is =
      cond_both (nat_le now moment && comes_sooner moment known && are_short_then booked moment [] rests) (Some moment) known (λ found. IfSome found (IsBlocked c groups now booked rests))
      (λ e.
      let parts = and_parts (nat_le now moment && comes_sooner moment known) (are_short_then booked moment [] rests) e in
      (leb-true now moment (and_parts (nat_le now moment) (comes_sooner moment known) parts.0).0, parts.1))
      (λ _. is)

  -- over what is left taken anew
  pub blocked_anew : (rests : List Rest) (kept known : Option ℕ) → IfSome known (IsBlocked c groups now booked rests)
      → IfSome (blocked_since now booked (map (renewed_rest now booked) rests) kept known) (IsBlocked c groups now booked (map (renewed_rest now booked) rests))
  blocked_anew rests kept known is =
      found_blocked (map (renewed_rest now booked) rests) kept known
      (some_on (IsBlocked c groups now booked rests) (IsBlocked c groups now booked (map (renewed_rest now booked) rests)) known (λ moment was. (was.0, short_renewed now booked moment rests ∙ was.1)) is)

  -- what comes before a moment that no window ends before comes before the end of each
  pub before_each_end : (job : Job) → IsInTable c job → (moment until : Option ℕ) → IfSome until (LastsUntil c groups now booked) → comes_before moment until ≡ true → comes_before moment (Some (window_end_from c job now)) ≡ true
  before_each_end job there None until lasts e = absurd (true≢false (sym e))
  before_each_end job there (Some moment) None lasts e = absurd (true≢false (sym e))
  before_each_end job there (Some moment) (Some until) lasts e =
      let less = ltb-true moment until e in
      let last = lasts job there in
      lt-ltb moment (window_end_from c job now) (omega (arith, less, last))

-- full where no end was known: full

never_before : (moment : Option ℕ) → comes_before moment None ≡ false
never_before None = refl
never_before (Some moment) = refl

or_more : (first second third : Bool) → (first || false || third) ≡ true → (first || second || third) ≡ true
or_more true second third e = refl
or_more false true third e = refl
or_more false false third e = e

pub full_before : (c : Cluster) (now until : ℕ) (left : Left) → is_full c now None left ≡ true → is_full c now (Some until) left ≡ true
full_before c now until left e =
    let parts = and_parts (goes_on c now) (left.closed || comes_before left.blocked None || are_short [] left.rests) e in
    and_from (goes_on c now) (left.closed || comes_before left.blocked (Some until) || are_short [] left.rests) parts.0
    (or_more left.closed (comes_before left.blocked (Some until)) (are_short [] left.rests)
    (subst (λ before. (left.closed || before || are_short [] left.rests) ≡ true) (never_before left.blocked) parts.1))
