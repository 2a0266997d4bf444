-- Entries in chains: one more, and steps along them.
use Rattle.std.proofs.Common.{◌≡◌, ◌≢◌, ℕ, ◌+◌, ◌-◌, ◌≤◌, ◌<◌, inl, inr, false, cond, List, [], ◌∷◌, ◌++◌, Some, length, set, zero, suc, refl, sym, ap, subst, ◌∙◌, arith}
use Rattle.std.specs.Prelude.{slice_get, slice_index}
use Rattle.std.proofs.lemmas.Bool.{cases_Bool, cases_eq, cond-false}
use Rattle.std.proofs.lemmas.List.{take-append-le, length_push, length-set, get_or-set_same, get_or-set_other}
use Rattle.std.proofs.lemmas.List.Sums.{fold_more}
use Rattle.std.proofs.lemmas.Option.{slice_get_within, get_or_from_slice_get}
use Rattle.ge_model_rows.specs.ScheduleRows.{LimitId}
use Rattle.ge_model_place.specs.Bookings.{same_limit}
use Rattle.ge_model_place.proofs.Same.{limits_equal}
use Rattle.ge_timeline.specs.declared.index.Entry.{Entry}
use Rattle.ge_timeline.specs.Scattered.{bucket_of}
use Rattle.ge_timeline.specs.Shown.{number_in}
use Rattle.ge_timeline.specs.Chains.{with_entry, numbers_of, number_among, Leads, IsChained}

-- elements of a list with one more
front_at : (es : List Entry) (e : Entry) (at : ℕ) → at < length es → slice_get (es ++ e ∷ []) at ≡ slice_get es at
front_at [] e at h = absurd (omega (arith, h))
front_at (x ∷ es) e zero h = refl
front_at (x ∷ es) e (suc at) h = front_at es e at (omega (arith, h))

last_at : (es : List Entry) (e : Entry) → slice_get (es ++ e ∷ []) (length es) ≡ Some e
last_at [] e = refl
last_at (x ∷ es) e = last_at es e

same_entry : (x y : Entry) → Some x ≡ Some y → x ≡ y
same_entry x y e = cc

-- numbers among the first entries
among_more : (es : List Entry) (e : Entry) (count : ℕ) (limit : LimitId) → count ≤ length es → number_among (es ++ e ∷ []) count limit ≡ number_among es count limit
among_more es e count limit h = ap (λ xs. number_in (numbers_of xs) limit) (take-append-le count es (e ∷ []) h)

among_next : (es : List Entry) (at : ℕ) (e : Entry) (limit : LimitId) → slice_get es at ≡ Some e → number_among es (at + 1) limit ≡ cond (same_limit limit e.limit) (Some e.number) (number_among es at limit)
among_next es at e limit is =
    let here = get_or_from_slice_get es at e e is in
    ap (λ index. number_in index limit) (fold_more with_entry [] es at e (slice_get_within es at e is))
    ∙ ap (λ (x : Entry). cond (same_limit limit x.limit) (Some x.number) (number_among es at limit)) here

-- a limit of another bucket isn't that of the last entry
among_other : (es : List Entry) (e : Entry) (size : ℕ) (limit : LimitId) → bucket_of size limit ≢ bucket_of size e.limit → number_among es (length es) limit ≡ number_among (es ++ e ∷ []) (length es + 1) limit
among_other es e size limit apart =
    sym (among_more es e (length es) limit (omega arith))
    ∙ sym (among_next (es ++ e ∷ []) (length es) e limit (last_at es e) ∙ elim (cases_Bool (same_limit limit e.limit)) [
      | inl same ↦ absurd (apart (ap (bucket_of size) (limits_equal limit e.limit same)))
      | inr differs ↦ cond-false _ _ _ differs
    ])

leads_more : (es : List Entry) (e : Entry) (size bucket count place : ℕ) → count ≤ length es → Leads es size bucket count place → Leads (es ++ e ∷ []) size bucket count place
leads_more es e size bucket count place h s =
    let within = s.within in
    record {
      within = within;
      own = λ entry at some. s.own entry (sym (front_at es e (place - 1) (omega (arith, h, within, some))) ∙ at) some;
      same = λ limit is. among_more es e place limit (omega (arith, h, within)) ∙ s.same limit is ∙ sym (among_more es e count limit h);
    }

module _ (es : List Entry) (e : Entry) (size : ℕ) (heads : List ℕ) (s : IsChained es size heads) where
  abbrev bucket : ℕ
  bucket = bucket_of size e.limit

  -- the head of the new entry's bucket, and those of the others
  all_here : Leads (es ++ e ∷ []) size bucket (length (es ++ e ∷ [])) (length es + 1)
  all_here = record {
    within = omega (arith, length_push es e);
    own = λ entry at some.
        let before : length es ≡ length es + 1 - 1 = omega arith in
        ap (λ (x : Entry). bucket_of size x.limit) (sym (same_entry e entry (sym (last_at es e) ∙ ap (slice_get (es ++ e ∷ [])) before ∙ at)));
    same = λ limit is. ap (λ n. number_among (es ++ e ∷ []) n limit) (sym (length_push es e));
  }

  all_there : (other : ℕ) → other ≢ bucket → Leads (es ++ e ∷ []) size other (length (es ++ e ∷ [])) (slice_index heads other)
  all_there other apart =
      let more = leads_more es e size other (length es) (slice_index heads other) (omega arith) (s.all other) in
      record {
        within = omega (arith, more.within, length_push es e);
        own = more.own;
        same = λ limit is. among_more es e (slice_index heads other) limit (s.all other).within ∙ (s.all other).same limit is ∙ among_other es e size limit (λ alike. apart (sym is ∙ alike)) ∙ ap (λ n. number_among (es ++ e ∷ []) n limit) (sym (length_push es e));
      }

  all_more : bucket < length heads → (other : ℕ) → Leads (es ++ e ∷ []) size other (length (es ++ e ∷ [])) (slice_index (set heads bucket (length es + 1)) other)
  all_more inside other = elim (cases_eq other bucket) [
    | inl here ↦
        let place = get_or-set_same heads bucket (length es + 1) 0 inside in
        subst (λ b. Leads (es ++ e ∷ []) size b (length (es ++ e ∷ [])) (slice_index (set heads bucket (length es + 1)) b)) (sym here)
        (subst (λ p. Leads (es ++ e ∷ []) size bucket (length (es ++ e ∷ [])) p) (sym place) all_here)
    | inr apart ↦
        subst (λ p. Leads (es ++ e ∷ []) size other (length (es ++ e ∷ [])) p) (sym (get_or-set_other heads bucket other (length es + 1) 0 apart)) (all_there other apart)
  ]

  older_more : e.next ≡ slice_index heads bucket → (at : ℕ) (entry : Entry) → slice_get (es ++ e ∷ []) at ≡ Some entry → Leads (es ++ e ∷ []) size (bucket_of size entry.limit) at entry.next
  older_more next at entry is = elim (cases_eq at (length es)) [
    | inl last ↦
        let it : e ≡ entry = same_entry e entry (sym (last_at es e) ∙ ap (slice_get (es ++ e ∷ [])) (sym last) ∙ is) in
        let place : slice_index heads bucket ≡ e.next = sym next in
        let lead : Leads (es ++ e ∷ []) size bucket (length es) e.next = subst (λ p. Leads (es ++ e ∷ []) size bucket (length es) p) place (leads_more es e size bucket (length es) (slice_index heads bucket) (omega arith) (s.all bucket)) in
        subst (λ (x : Entry). Leads (es ++ e ∷ []) size (bucket_of size x.limit) at x.next) it (subst (λ n. Leads (es ++ e ∷ []) size bucket n e.next) (sym last) lead)
    | inr apart ↦
        let inside = slice_get_within (es ++ e ∷ []) at entry is in
        let before : at < length es = omega (arith, inside, apart, length_push es e) in
        leads_more es e size (bucket_of size entry.limit) at entry.next (omega (arith, before)) (s.older at entry (sym (front_at es e at before) ∙ is))
  ]

  -- the entry is put before the others of its bucket
  chained_more : bucket < length heads → e.next ≡ slice_index heads bucket → IsChained (es ++ e ∷ []) size (set heads bucket (length es + 1))
  chained_more inside next = record { all = all_more inside; older = older_more next }

-- the same in the words of the function that puts the entry
pub put_chained : (es new : List Entry) (e : Entry) (heads : List ℕ) (bucket count : ℕ) → new ≡ es ++ e ∷ [] → bucket ≡ bucket_of (length heads) e.limit → bucket < length heads → count ≡ length new → e.next ≡ slice_index heads bucket
    → IsChained es (length heads) heads → IsChained new (length (set heads bucket count)) (set heads bucket count)
put_chained es new e heads bucket count more own inside all next s =
    let many : length es + 1 ≡ count = sym (length_push es e) ∙ sym (ap length more) ∙ sym all in
    let there : bucket_of (length heads) e.limit < length heads = subst (λ b. b < length heads) own inside in
    let lead : e.next ≡ slice_index heads (bucket_of (length heads) e.limit) = next ∙ ap (slice_index heads) own in
    let chained = chained_more es e (length heads) heads s there lead in
    subst (λ n. IsChained new n (set heads bucket count)) (sym (length-set heads bucket count))
    (subst (λ xs. IsChained xs (length heads) (set heads bucket count)) (sym more)
    (subst (λ b. IsChained (es ++ e ∷ []) (length heads) (set heads b count)) (sym own)
    (subst (λ n. IsChained (es ++ e ∷ []) (length heads) (set heads (bucket_of (length heads) e.limit) n)) many chained)))

-- a step along a bucket passes an entry of another limit
pub among_passed : (es : List Entry) (place : ℕ) (e : Entry) (limit : LimitId) → 0 < place → slice_get es (place - 1) ≡ Some e → same_limit limit e.limit ≡ false → number_among es (place - 1) limit ≡ number_among es place limit
among_passed es place e limit some is differs =
    let whole : place - 1 + 1 ≡ place = omega (arith, some) in
    sym (sym (ap (λ n. number_among es n limit) whole) ∙ among_next es (place - 1) e limit is ∙ cond-false _ _ _ differs)
