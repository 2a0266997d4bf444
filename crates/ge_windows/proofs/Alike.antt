-- What the last booking takes, where the next task is alike.
use Rattle.std.proofs.Common.{◌≡◌, ◌-◌, ◌==◌, true, List, [], ◌∷◌, ◌++◌, Some, length, refl, sym, ap, ◌∙◌, arith}
use Rattle.std.specs.Prelude.{slice_get}
use Rattle.std.proofs.lemmas.Bool.{and_parts, eqb-true, true≢false}
use Rattle.std.proofs.lemmas.List.{length-append}
use Rattle.ge_model_place.specs.Bookings.{same_instance}
use Rattle.ge_model_rows.specs.ClusterRows.{Cluster}
use Rattle.ge_model_rows.specs.HostRows.{Groups}
use Rattle.ge_model_rows.specs.JobRows.{Job, Grant}
use Rattle.ge_model_rows.specs.ScheduleRows.{Booking}
use Rattle.ge_model_place.proofs.Same.{instances_equal}
use Rattle.ge_model_place.specs.Limits.{demands_of}
use Rattle.ge_windows.specs.Alike.{same_grant, alike, IsOfLast}

grants_equal : (a b : Grant) → same_grant a b ≡ true → a ≡ b
grants_equal a b e =
    let parts = and_parts (a.slots == b.slots) (same_instance a.at b.at) e in
    let at = instances_equal a.at b.at parts.1 in
    let slots = eqb-true a.slots b.slots parts.0 in
    λ i. record { at = at i; slots = slots i }

alike_equal : (a b : List Grant) → alike a b ≡ true → a ≡ b
alike_equal (a ∷ []) (b ∷ []) e = ap (λ grant. grant ∷ []) (grants_equal a b e)
alike_equal _ _ e = absurd (true≢false (sym e))

last_pushed : (bookings : List Booking) (b : Booking) → slice_get (bookings ++ b ∷ []) (length bookings) ≡ Some b
last_pushed [] b = refl
last_pushed (x ∷ bookings) b = last_pushed bookings b

module _ (c : Cluster) (groups : Groups) (job : Job) where
  -- before the first task none is alike
  pub none_alike : (bookings : List Booking) → IsOfLast c groups job bookings []
  none_alike bookings b found grants e = absurd (true≢false (sym e))

  pub pushed_last : (bookings : List Booking) (b : Booking) (last : List Grant) → b.demands ≡ demands_of c groups job last → IsOfLast c groups job (bookings ++ b ∷ []) last
  pushed_last bookings b last is other found grants e =
      let long = length-append bookings (b ∷ []) in
      let place : length (bookings ++ b ∷ []) - 1 ≡ length bookings = omega (arith, long) in
      let here : Some b ≡ Some other = sym (ap (slice_get (bookings ++ b ∷ [])) place ∙ last_pushed bookings b) ∙ found in
      let one : b ≡ other = cc in
      ap (λ (x : Booking). x.demands) (sym one) ∙ is ∙ ap (demands_of c groups job) (alike_equal last grants e)
