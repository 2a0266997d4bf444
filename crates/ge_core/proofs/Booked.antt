-- The moments of a reservation cut at the end of a type, and the plan of qrsub by what was noted.
use Rattle.std.proofs.Common.{◌≡◌, ℕ, ◌-◌, ◌^◌, ◌≤◌, Bool, true, false, Option, None, List, ◌++◌, refl, ap, sym, ◌∙◌, arith}
use mathlib.Core.Logic.{◌⊎◌, inl, inr}
use Rattle.std.specs.Prelude.{◌||◌, ◌<◌, nat_lt, nat_le, min}
use Rattle.std.proofs.Math.Dec.{leb}
use Rattle.std.proofs.lemmas.Bool.{le-leb, or_right}
use Rattle.std.proofs.lemmas.Bool.Decides.{leb_tells}
use Rattle.ge_base.specs.declared.refusal.Refusal.{Refusal}
use Rattle.ge_base.specs.declared.refusal.Refusal.TheVariants.{BadValue, Limit}
use Rattle.ge_limits.specs.Limits as limit
use Rattle.ge_model_rows.specs.ClusterRows.{Cluster}
use Rattle.ge_model_rows.specs.EventRows.{Event}
use Rattle.ge_model_rows.specs.JobRows.{Request}
use Rattle.ge_model_grammar.specs.Options.{Given}
use Rattle.ge_model_config.specs.Requests.{no_request, request_of}
use Rattle.ge_model_rows.specs.Faults.{when, after_faults}
use Rattle.ge_model_rows.proofs.FaultLaws.{after_faults-append}
use Rattle.ge_model_core.specs.Booking.{is_booked_out, book_plan}
use Rattle.ge_core.specs.Booked.{asked_with, no_time_is, plan_with}

-- a moment that is cut at the end of its type is too late either way
same_times : (now from ended : ℕ) → (nat_lt from now || nat_le (min ended (2 ^ 128 - 1)) from || nat_le limit.moments (min ended (2 ^ 128 - 1))) ≡ (nat_lt from now || nat_le ended from || nat_le limit.moments ended)
same_times now from ended = by (leb_tells ended (2 ^ 128 - 1))
  where
    by : ((leb ended (2 ^ 128 - 1) ≡ true) × (ended ≤ 2 ^ 128 - 1)) ⊎ ((leb ended (2 ^ 128 - 1) ≡ false) × (2 ^ 128 - 1 < ended))
        → (nat_lt from now || nat_le (min ended (2 ^ 128 - 1)) from || nat_le limit.moments (min ended (2 ^ 128 - 1))) ≡ (nat_lt from now || nat_le ended from || nat_le limit.moments ended)
    by (inl short) = let same : min ended (2 ^ 128 - 1) ≡ ended = omega (arith, short.1) in ap (λ (u : ℕ). nat_lt from now || nat_le u from || nat_le limit.moments u) same
    by (inr long) =
        or_right _ _ (le-leb limit.moments (min ended (2 ^ 128 - 1)) (omega (arith, long.1)))
        ∙ sym (or_right _ _ (le-leb limit.moments ended (omega (arith, long.1))))

pub times_are : (now from until begun ended : ℕ) (bad : Bool) → bad ≡ (nat_lt from now || nat_le until from || nat_le limit.moments until) → from ≡ begun → until ≡ min ended (2 ^ 128 - 1)
    → bad ≡ (nat_lt begun now || nat_le ended begun || nat_le limit.moments ended)
times_are now from until begun ended bad is begins ends =
    is ∙ ap (λ (f : ℕ). nat_lt f now || nat_le until f || nat_le limit.moments until) begins
    ∙ ap (λ (u : ℕ). nat_lt begun now || nat_le u begun || nat_le limit.moments u) ends ∙ same_times now begun ended

pub noted : (first : List Refusal) (second third : List Refusal) → after_faults (after_faults (after_faults None first) second) third ≡ after_faults None (first ++ second ++ third)
noted first second third =
    sym (after_faults-append None (first ++ second) third ∙ ap (λ (o : Option Refusal). after_faults o third) (after_faults-append None first second))

pub booked_noted : (c : Cluster) (e : Event) (options : Given) (request : Request) (one two three : Option Refusal) (no_time full : Bool) → request ≡ (request_of c options no_request).0
    → one ≡ after_faults None (request_of c options no_request).1 → no_time ≡ no_time_is e options → two ≡ after_faults one (when no_time BadValue) → full ≡ is_booked_out c
    → three ≡ after_faults two (when full Limit) → plan_with c e (asked_with e options request) three ≡ book_plan c e options
unfolding book_plan
booked_noted c e options request one two three no_time full asks first times second fills third =
    ap (λ (r : Request). plan_with c e (asked_with e options r) three) asks
    ∙ ap (plan_with c e (asked_with e options (request_of c options no_request).0))
    (third ∙ ap (λ (b : Bool). after_faults two (when b Limit)) fills
    ∙ ap (λ (o : Option Refusal). after_faults o (when (is_booked_out c) Limit))
    (second ∙ ap (λ (b : Bool). after_faults one (when b BadValue)) times ∙ ap (λ (o : Option Refusal). after_faults o (when (no_time_is e options) BadValue)) first)
    ∙ noted (request_of c options no_request).1 (when (no_time_is e options) BadValue) (when (is_booked_out c) Limit))
