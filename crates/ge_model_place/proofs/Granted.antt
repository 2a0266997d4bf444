-- What a reservation is granted keeps all limits from its first moment until its end, beside all that is booked.
use Rattle.std.proofs.Common.{◌≡◌, ℕ, ◌-◌, ◌≤◌, ◌==◌, false, cond, max, List, [], ◌∷◌, ◌++◌, Some, None, codes, refl, sym, subst, ap, ◌∙◌, arith}
use Rattle.std.specs.Ordering.{is_eq}
use Rattle.std.specs.declared.cmp.Ordering.{Ordering}
use Rattle.std.specs.declared.cmp.Ordering.TheVariants.{Less, Equal, Greater}
use Rattle.std.proofs.lemmas.Bool.{cond-false, ne_eqb}
use Rattle.std.proofs.lemmas.Map.Lookups.{exact_bytes}
use Rattle.ge_collections.specs.Keyed.{text_cmp, at_text, put_text, drop_text}
use Rattle.ge_model_rows.specs.Groups.{expanded}
use Rattle.ge_model_rows.specs.ClusterRows.{Cluster}
use Rattle.ge_model_rows.specs.JobRows.{Advance}
use Rattle.ge_model_rows.specs.TaskRows.{TaskId}
use Rattle.ge_model_rows.specs.ValueRows.{Value, Amount, infinity}
use Rattle.ge_model_place.specs.Bookings.{window_end, plain_sum}
use Rattle.ge_model_place.specs.Advances.{stand_in, advance_grants, IsBookable, KeepsWhatIsBooked}
use Rattle.ge_model_place.specs.InstanceOrder.{instance_order}
use Rattle.ge_model_place.specs.Limits.{capacity_of}
use Rattle.ge_model_place.specs.StandIns.{asked_for}
use Rattle.ge_model_place.specs.Windows.{least_asked, duration_of, no_later_than, window_end_from, booking_of, advance_booking, base_bookings}
use Rattle.ge_model_place.proofs.Admitted.{job_placed_admissible}
use Rattle.ge_model_place.proofs.Sums.{one_booked}

-- what was put is there
put_there : (name : List ℕ) (value : Value) (rows : List (List ℕ × Value)) → text_cmp name name ≡ Equal → at_text (put_text rows name value) name ≡ Some value
put_there name value [] same = rw same refl
put_there name value (row ∷ rows) same = by (text_cmp name row.0) refl (put_there name value rows same)
  where
    by : (r : Ordering) → text_cmp name row.0 ≡ r → at_text (put_text rows name value) name ≡ Some value → at_text (put_text (row ∷ rows) name value) name ≡ Some value
    by Less is rest = rw is (rw same refl)
    by Equal is rest = rw is (rw is refl)
    by Greater is rest = rw is (rw is rest)

-- what was put under one name hides nothing under another
put_elsewhere : (name other : List ℕ) (value : Value) (rows : List (List ℕ × Value)) → is_eq (text_cmp other name) ≡ false → at_text (put_text rows name value) other ≡ at_text rows other
put_elsewhere name other value [] apart = cond-false _ _ _ apart
put_elsewhere name other value (row ∷ rows) apart = by (text_cmp name row.0) refl (put_elsewhere name other value rows apart)
  where
    by : (r : Ordering) → text_cmp name row.0 ≡ r → at_text (put_text rows name value) other ≡ at_text rows other → at_text (put_text (row ∷ rows) name value) other ≡ at_text (row ∷ rows) other
    by Less is rest = rw is (cond-false _ _ _ apart)
    by Equal is rest =
        let same : name ≡ row.0 = exact_bytes name row.0 is in
        let hidden : is_eq (text_cmp other row.0) ≡ false = ap (λ n. is_eq (text_cmp other n)) (sym same) ∙ apart in
        rw is (cond-false _ _ _ hidden ∙ sym (cond-false _ _ _ hidden))
    by Greater is rest = rw is (ap (λ found. cond (is_eq (text_cmp other row.0)) (Some row.1) found) rest)

module _ (c : Cluster) (a : Advance) (is : IsBookable c a) where
  -- the job that stands for a reservation asks for the time that it lasts, and for no other
  asks_its_time : at_text (asked_for a) (codes "h_rt") ≡ Some (Amount (a.until - a.from))
  asks_its_time = put_there (codes "h_rt") (Amount (a.until - a.from)) (drop_text a.request.asked (codes "s_rt")) refl

  asks_no_soft_time : at_text (asked_for a) (codes "s_rt") ≡ None
  asks_no_soft_time = put_elsewhere (codes "h_rt") (codes "s_rt") (Amount (a.until - a.from)) (drop_text a.request.asked (codes "s_rt")) refl ∙ is.once

  its_duration : duration_of c (stand_in a) ≡ a.until - a.from
  its_duration =
      let lasts = is.lasts in
      let asked : least_asked (at_text (asked_for a) (codes "h_rt")) (at_text (asked_for a) (codes "s_rt")) c.sched.default_duration ≡ a.until - a.from =
      ap (λ o. least_asked o (at_text (asked_for a) (codes "s_rt")) c.sched.default_duration) asks_its_time ∙ ap (λ o. least_asked (Some (Amount (a.until - a.from))) o c.sched.default_duration) asks_no_soft_time in
      ap (λ n. max 1 n) asked ∙ omega (arith, lasts)

  -- its window is the reservation's
  pub ends_with_it : window_end_from c (stand_in a) a.from ≡ a.until
  ends_with_it =
      let lasts = is.lasts in
      let ends = is.ends in
      let bounded : ((a.until - a.from) == infinity) ≡ false = ne_eqb (a.until - a.from) infinity (λ same. absurd (omega (arith, same, ends))) in
      let window : window_end a.from (a.until - a.from) ≡ a.until = cond-false _ _ _ bounded ∙ omega (arith, lasts, ends) in
      ap (λ found. no_later_than found (window_end a.from (duration_of c (stand_in a)))) is.numbered ∙ ap (λ n. window_end a.from n) its_duration ∙ window

-- a reservation that is granted keeps what is booked
pub grants_keep : (c : Cluster) (now number : ℕ) (a : Advance) → KeepsWhatIsBooked c now number a
unfolding advance_grants
grants_keep c now number a is apart granted limit moment =
    let g = expanded c in
    let booked = base_bookings c g now in
    let admissible = job_placed_admissible c g (stand_in a) booked a.from (instance_order c g) a.grants granted in
    let task : TaskId = record { job = 0; task = number } in
    let keeps = one_booked c g limit moment (stand_in a) task booked a.from a.grants admissible in
    let until : window_end_from c (stand_in a) a.from ≡ (advance_booking c g now (number, a)).until = ends_with_it c a is ∙ sym (cond-false _ _ _ apart) in
    let same : booking_of c g (stand_in a) task a.grants a.from ≡ advance_booking c g now (number, a) = ap (λ n. record (advance_booking c g now (number, a)) { until = n }) until in
    subst (λ b. plain_sum (booked ++ b ∷ []) limit moment ≤ max (capacity_of c g limit) (plain_sum booked limit moment)) same keeps
