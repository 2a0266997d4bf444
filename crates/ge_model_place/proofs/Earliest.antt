-- The least end of a booking that passes a test: it passes, and no sooner one does.
use Rattle.std.proofs.Common.{◌≡◌, ℕ, ◌≤◌, ◌<◌, ◌⊎◌, Bool, true, false, ◌&&◌, ◌==◌, List, [], ◌∷◌, fold, Option, Some, None, refl, sym, subst, ◌∙◌, inl, inr, arith}
use Rattle.std.specs.Prelude.{nat_lt}
use Rattle.std.proofs.lemmas.Bool.{cond_both, and_parts, and_cases, and_from, or_cases, eqb-true, eq-eqb, or_left, or_right, ltb-true, ltb-false, lt-ltb, true≢false, false_from_ne_true}
use Rattle.ge_model_rows.specs.ScheduleRows.{Booking}
use Rattle.ge_model_place.specs.Bookings.{forever}
use Rattle.ge_model_place.specs.Running.{ends_after, is_earlier, earlier_end, earliest_end}
use Rattle.ge_model_place.specs.Runs.{ends_at}

module _ (test : ℕ → Bool) (now : ℕ) where
  -- a moment that would do
  pub record Does (moment : ℕ) : Type 0 where
    pub later : now < moment
    pub ever : moment < forever
    pub passes : test moment ≡ true

  -- what was found is there, and no later than this
  abbrev By : Option ℕ → ℕ → Type 0
  By found moment = (m : ℕ) × (found ≡ Some m) × (m ≤ moment)

  -- one that was found is never given up for a later one
  kept_by : (found : Option ℕ) (moment : ℕ) (b : Booking) → By found moment → By (earlier_end test now found b) moment
  kept_by found moment b by =
      cond_both (ends_after now b && is_earlier b.until found && test b.until) (Some b.until) found (λ f. By f moment)
      (λ e. let parts = and_parts (ends_after now b && is_earlier b.until found) (test b.until) e in
      let earlier = and_parts (ends_after now b) (is_earlier b.until found) parts.0 in
      let less : b.until < by.0 = ltb-true b.until by.0 (subst (λ f. is_earlier b.until f ≡ true) by.1 earlier.1) in
      (b.until, refl, omega (arith, less, by.2)))
      (λ _. by)

  kept_by_all : (found : Option ℕ) (moment : ℕ) (bs : List Booking) → By found moment → By (fold (earlier_end test now) found bs) moment
  kept_by_all found moment [] by = by
  kept_by_all found moment (b ∷ bs) by = kept_by_all (earlier_end test now found b) moment bs (kept_by found moment b by)

  not_earlier : (found : Option ℕ) (moment : ℕ) → is_earlier moment found ≡ false → By found moment
  not_earlier None moment e = absurd (true≢false e)
  not_earlier (Some m) moment e = (m, refl, ltb-false moment m e)

  -- one that does is found, or an earlier one
  found_by : (found : Option ℕ) (b : Booking) → Does b.until → By (earlier_end test now found b) b.until
  found_by found b does =
      cond_both (ends_after now b && is_earlier b.until found && test b.until) (Some b.until) found (λ f. By f b.until)
      (λ _. (b.until, refl, omega arith))
      (λ e. elim (and_cases (ends_after now b && is_earlier b.until found) (test b.until) e) [
        | inl late ↦ elim (and_cases (ends_after now b) (is_earlier b.until found) late) [
          | inl never ↦ absurd (true≢false (sym (and_from (nat_lt now b.until) (nat_lt b.until forever) (lt-ltb now b.until does.later) (lt-ltb b.until forever does.ever)) ∙ never))
          | inr after ↦ not_earlier found b.until after
        ]
        | inr fails ↦ absurd (true≢false (sym does.passes ∙ fails))
      ])

  found_by_all : (found : Option ℕ) (moment : ℕ) (bs : List Booking) → ends_at bs moment ≡ true → Does moment → By (fold (earlier_end test now) found bs) moment
  found_by_all found moment [] ends does = absurd (true≢false (sym ends))
  found_by_all found moment (b ∷ bs) ends does =
      elim (or_cases (b.until == moment) (ends_at bs moment) ends) [
        | inl here ↦
            let same : b.until ≡ moment = eqb-true b.until moment here in
            kept_by_all (earlier_end test now found b) moment bs (subst (λ m. By (earlier_end test now found b) m) same (found_by found b (subst (λ m. Does m) (sym same) does)))
        | inr there ↦ found_by_all (earlier_end test now found b) moment bs there does
      ]

  found_from_one : (found : Option ℕ) (b : Booking) (m : ℕ) → earlier_end test now found b ≡ Some m → (found ≡ Some m) ⊎ (((b.until == m) ≡ true) × Does m)
  found_from_one found b m =
      cond_both (ends_after now b && is_earlier b.until found && test b.until) (Some b.until) found (λ f. f ≡ Some m → (found ≡ Some m) ⊎ (((b.until == m) ≡ true) × Does m))
      (λ e h.
      let parts = and_parts (ends_after now b && is_earlier b.until found) (test b.until) e in
      let ends = and_parts (nat_lt now b.until) (nat_lt b.until forever) (and_parts (ends_after now b) (is_earlier b.until found) parts.0).0 in
      let same : b.until ≡ m = cc in
      inr (eq-eqb b.until m same, subst (λ x. Does x) same (record { later = ltb-true now b.until ends.0; ever = ltb-true b.until forever ends.1; passes = parts.1 })))
      (λ e h. inl h)

  -- what is found was there before, or does and is the end of a booking
  found_from : (found : Option ℕ) (bs : List Booking) (m : ℕ) → fold (earlier_end test now) found bs ≡ Some m → (found ≡ Some m) ⊎ ((ends_at bs m ≡ true) × Does m)
  found_from found [] m e = inl e
  found_from found (b ∷ bs) m e =
      elim (found_from (earlier_end test now found b) bs m e) [
        | inl first ↦ elim (found_from_one found b m first) [
          | inl before ↦ inl before
          | inr here ↦ inr (or_left (b.until == m) (ends_at bs m) here.0, here.1)
        ]
        | inr there ↦ inr (or_right (b.until == m) (ends_at bs m) there.0, there.1)
      ]

  -- the least end that passes is one
  pub earliest_does : (bs : List Booking) (m : ℕ) → earliest_end test now bs ≡ Some m → (ends_at bs m ≡ true) × Does m
  earliest_does bs m e = elim (found_from None bs m e) [ inl none ↦ absurd cc | inr is ↦ is ]

  -- no sooner one passes
  pub none_sooner : (bs : List Booking) (m moment : ℕ) → earliest_end test now bs ≡ Some m → moment < m → now < moment → moment < forever → ends_at bs moment ≡ true → test moment ≡ false
  none_sooner bs m moment e less later ever ends =
      false_from_ne_true (test moment) (λ passes.
      let by = found_by_all None moment bs ends (record { later = later; ever = ever; passes = passes }) in
      let same : by.0 ≡ m = some_is_one by.0 m (sym by.1 ∙ e) in
      omega (arith, by.2, same, less))
    where
      some_is_one : (a b : ℕ) → Some a ≡ Some b → a ≡ b
      some_is_one a b h = cc

  -- where there is none, no end passes
  pub none_passes : (bs : List Booking) (moment : ℕ) → earliest_end test now bs ≡ None → now < moment → moment < forever → ends_at bs moment ≡ true → test moment ≡ false
  none_passes bs moment e later ever ends =
      false_from_ne_true (test moment) (λ passes.
      let by = found_by_all None moment bs ends (record { later = later; ever = ever; passes = passes }) in
      let none : Some by.0 ≡ None = sym by.1 ∙ e in
      absurd cc)
