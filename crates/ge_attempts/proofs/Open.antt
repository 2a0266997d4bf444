-- Places at which something may be left: they rise, and at all others nothing is left.
use Rattle.std.proofs.Common.{◌≡◌, ℕ, zero, suc, ◌+◌, ◌≤◌, ◌<◌, inl, inr, Bool, true, cond, List, [], ◌∷◌, ◌++◌, length, slice_index_or, sym, subst, ap, ◌∙◌, arith, below_more}
use Rattle.std.specs.List.{list_all, remove}
use Rattle.std.proofs.lemmas.Bool.{cond_both, cases_lt, and_parts}
use Rattle.std.proofs.lemmas.List.{append-nil, get_or_read}
use Rattle.ge_attempts.specs.declared.rests.Left.{Left}
use Rattle.ge_attempts.specs.Rests.{AreOpen}

-- where as much is full
pub open_on : (before after : Left → Bool) (old new : List Left) (end from : ℕ) (places : List ℕ) → ((k : ℕ) (none : Left) → before (slice_index_or old k none) ≡ true → after (slice_index_or new k none) ≡ true)
    → AreOpen before old end from places → AreOpen after new end from places
open_on before after old new end from [] as_full are = λ k none least less. as_full k none (are k none least less)
open_on before after old new end from (place ∷ places) as_full are =
    (are.0, are.1, λ k none least less. as_full k none (are.2 k none least less), open_on before after old new end (place + 1) places as_full are.3)

module _ (full : Left → Bool) where
  module _ (lefts : List Left) where
    -- they lie before the end
    pub open_within : (end from : ℕ) (places : List ℕ) (index : ℕ) → index < length places → AreOpen full lefts end from places → slice_index_or places index 0 < end
    open_within end from [] index inside are = absurd (omega (arith, inside))
    open_within end from (place ∷ places) zero inside are = are.1
    open_within end from (place ∷ places) (suc index) inside are = open_within end (place + 1) places index (omega (arith, inside)) are.3

    abbrev IsFullAt : ℕ → Type 0
    IsFullAt k = (none : Left) → full (slice_index_or lefts k none) ≡ true

    -- what holds of full ones and of these places holds of each
    pub open_each : (P : ℕ → Type 0) (test : ℕ → Bool) (end from : ℕ) (places : List ℕ) → ((k : ℕ) → k < end → IsFullAt k → P k) → ((k : ℕ) → k < end → test k ≡ true → P k) → list_all test places ≡ true
        → AreOpen full lefts end from places → (k : ℕ) → from ≤ k → k < end → P k
    open_each P test end from [] of_full of_open all are k since less = of_full k less (λ none. are k none since less)
    open_each P test end from (place ∷ places) of_full of_open all are k since less =
        let parts = and_parts (test place) (list_all test places) all in
        elim (cases_lt k place) [
          | inl below ↦ of_full k less (λ none. are.2 k none since below)
          | inr behind ↦
              elim (cases_lt k (place + 1)) [
                | inl here ↦ let same : place ≡ k = omega (arith, behind, here) in subst P same (of_open place are.1 parts.0)
                | inr later ↦ open_each P test end (place + 1) places of_full of_open parts.1 are.3 k later less
              ]
        ]

    -- from an earlier place, where all between are full
    wider : (end from place : ℕ) (places : List ℕ) → from ≤ place → ((k : ℕ) (none : Left) → from ≤ k → k < place → full (slice_index_or lefts k none) ≡ true) → IsFullAt place
        → AreOpen full lefts end (place + 1) places → AreOpen full lefts end from places
    wider end from place [] least before here are = λ k none since less.
        elim (cases_lt k (place + 1)) [
          | inl below ↦ below_more (λ (n : ℕ). from ≤ n → full (slice_index_or lefts n none) ≡ true) place (λ n under above. before n none above under) (λ _. here none) k below since
          | inr behind ↦ are k none behind less
        ]
    wider end from place (next ∷ places) least before here are =
        let first = are.0 in (
          omega (arith, least, first),
          are.1,
          λ k none since less.
              elim (cases_lt k (place + 1)) [
                | inl below ↦ below_more (λ (n : ℕ). from ≤ n → full (slice_index_or lefts n none) ≡ true) place (λ n under above. before n none above under) (λ _. here none) k below since
                | inr behind ↦ are.2 k none behind less
              ],
          are.3,
        )

    -- one of them is left out
    pub open_less : (end from : ℕ) (places : List ℕ) (index : ℕ) → index < length places → IsFullAt (slice_index_or places index 0) → AreOpen full lefts end from places
        → AreOpen full lefts end from (remove places index)
    open_less end from [] index inside here are = absurd (omega (arith, inside))
    open_less end from (place ∷ places) zero inside here are = wider end from place places are.0 are.2 here are.3
    open_less end from (place ∷ places) (suc index) inside here are = (are.0, are.1, are.2, open_less end (place + 1) places index (omega (arith, inside)) here are.3)

    -- one more place is full
    past_full : (end from : ℕ) (places : List ℕ) → IsFullAt end → AreOpen full lefts end from places → AreOpen full lefts (end + 1) from places
    past_full end from [] here are = λ k none since less.
        below_more (λ (n : ℕ). from ≤ n → full (slice_index_or lefts n none) ≡ true) end (λ n under above. are n none above under) (λ _. here none) k less since
    past_full end from (place ∷ places) here are =
        let inside = are.1 in
        (are.0, omega (arith, inside), are.2, past_full end (place + 1) places here are.3)

    -- or may not be
    past_open : (end from : ℕ) (places : List ℕ) → from ≤ end → AreOpen full lefts end from places → AreOpen full lefts (end + 1) from (places ++ end ∷ [])
    past_open end from [] least are = (least, omega arith, are, λ k none since less. absurd (omega (arith, since, less)))
    past_open end from (place ∷ places) least are =
        let inside = are.1 in
        (are.0, omega (arith, inside), are.2, past_open end (place + 1) places (omega (arith, inside)) are.3)

    pub open_none : AreOpen full lefts 0 0 []
    open_none = λ k none since less. absurd (omega (arith, less))

    pub open_more : (end : ℕ) (left : Left) (old new : List ℕ) → end < length lefts → left ≡ slice_index_or lefts end left → new ≡ old ++ cond (full left) [] (end ∷ []) → AreOpen full lefts end 0 old → AreOpen full lefts (end + 1) 0 new
    open_more end left old new inside left_is adds were =
        subst (λ places. AreOpen full lefts (end + 1) 0 places) (sym adds)
        (cond_both (full left) [] (end ∷ []) (λ more. AreOpen full lefts (end + 1) 0 (old ++ more))
        (λ e. subst (λ places. AreOpen full lefts (end + 1) 0 places) (sym (append-nil old)) (past_full end 0 old (λ none. ap full (sym (get_or_read lefts end left inside left_is none)) ∙ e) were))
        (λ _. past_open end 0 old (omega arith) were))
