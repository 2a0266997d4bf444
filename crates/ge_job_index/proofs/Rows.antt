-- What is kept beside the rows of an index, as the index changes.
use Rattle.std.proofs.Common.{◌≡◌, ℕ, ◌+◌, ◌-◌, Bool, true, false, cond, List, Option, Some, None, refl, sym, ap, ◌∙◌, arith}
use Rattle.std.specs.Option.{unwrap_or, option_map, IsSomeAnd}
use Rattle.std.specs.Prelude.{IfSome}
use Rattle.std.specs.BTreeMap.{is_at, insert_entry}
use Rattle.std.specs.Cmp.{IsTotalOrder}
use Rattle.std.specs.List.Sorted.{IsStrictlySortedBy}
use Rattle.std.specs.Map.{lookup, keys_of, remove_entry, set_value}
use Rattle.std.specs.declared.cmp.Ordering.{Ordering}
use Rattle.std.proofs.lemmas.Map.Entries.{sum_by-remove_entry, sum_by-insert_entry, sum_by-set_value}
use Rattle.ge_job_index.specs.Kept.{AreSums, Counts, Tells, nonzero, only_at, times_at, weight_of}
use Rattle.ge_job_index.specs.Marked.{times}
use Rattle.ge_job_index.proofs.Noted.{lookup_stays}
use Rattle.ge_job_index.specs.declared.keys.Keys.{Keys}

module _ {K V : Type 0} (weight : V → ℕ) (test : K → Bool) (rows : List (K × V)) where
  weight_found : (row : V) → lookup test rows ≡ Some row → unwrap_or (option_map weight (lookup test rows)) 0 ≡ weight row
  weight_found row found = ap (λ r. unwrap_or (option_map weight r) 0) found

  weight_set : (old row : V) → lookup test rows ≡ Some old → weight_of weight rows - weight old + weight row ≡ weight_of weight (set_value test rows row)
  weight_set old row found =
      let sums = sum_by-set_value weight test rows old row found in
      let less = sum_by-remove_entry weight test rows in
      let w = weight_found old found in
      omega (arith, sums, less, w)

  weight_removed : (row : V) → lookup test rows ≡ Some row → weight_of weight rows - weight row ≡ weight_of weight (remove_entry test rows)
  weight_removed row found =
      let less = sum_by-remove_entry weight test rows in
      let w = weight_found row found in
      omega (arith, less, w)

module _ {K V : Type 0} {R : K → K → Ordering} (order : IsTotalOrder R) (weight : V → ℕ) (rows : List (K × V)) (key : K) (row : V) where
  weight_put : IsStrictlySortedBy R (keys_of rows)
      → weight_of weight rows - unwrap_or (option_map weight (lookup (is_at (R key)) rows)) 0 + weight row ≡ weight_of weight (insert_entry R rows key row)
  weight_put rising =
      let sums = sum_by-insert_entry weight order rows key row rising in
      let less = sum_by-remove_entry weight (is_at (R key)) rows in
      omega (arith, sums, less)

  weight_back : lookup (is_at (R key)) rows ≡ None
      → weight_of weight rows - unwrap_or (option_map weight (lookup (is_at (R key)) rows)) 0 + weight row - weight row ≡ weight_of weight rows
  weight_back absent =
      let w : unwrap_or (option_map weight (lookup (is_at (R key)) rows)) 0 ≡ 0 = ap (λ r. unwrap_or (option_map weight r) 0) absent in
      omega (arith, w)

module _ (whole : Bool) (first second : ℕ) where
  sums_same : (a b c d : ℕ) → a ≡ c → b ≡ d → AreSums whole first second a b → AreSums whole first second c d
  sums_same a b c d e f known = λ on. let h = known on in (h.0 ∙ e, h.1 ∙ f)

  module _ {K V : Type 0} {R : K → K → Ordering} (order : IsTotalOrder R) (f g : V → ℕ) (rows new : List (K × V)) (key : K) where
    pub sums_set : (old row : V) (before after : ℕ × ℕ) → lookup (is_at (R key)) rows ≡ Some old → new ≡ set_value (is_at (R key)) rows row
        → before ≡ (f old, g old) → after ≡ (f row, g row)
        → AreSums whole first second (weight_of f rows - before.0 + after.0) (weight_of g rows - before.1 + after.1)
        → AreSums whole first second (weight_of f new) (weight_of g new)
    sums_set old row before after found is from to known =
        let at_first : weight_of f rows - before.0 + after.0 ≡ weight_of f rows - f old + f row =
        ap (λ (w : ℕ × ℕ). weight_of f rows - w.0 + after.0) from ∙ ap (λ (w : ℕ × ℕ). weight_of f rows - f old + w.0) to in
        let at_second : weight_of g rows - before.1 + after.1 ≡ weight_of g rows - g old + g row =
        ap (λ (w : ℕ × ℕ). weight_of g rows - w.1 + after.1) from ∙ ap (λ (w : ℕ × ℕ). weight_of g rows - g old + w.1) to in
        sums_same _ _ _ _ (at_first ∙ weight_set f (is_at (R key)) rows old row found ∙ ap (weight_of f) (sym is))
        (at_second ∙ weight_set g (is_at (R key)) rows old row found ∙ ap (weight_of g) (sym is)) known

    pub sums_removed : (row : V) → lookup (is_at (R key)) rows ≡ Some row → new ≡ remove_entry (is_at (R key)) rows
        → AreSums whole first second (weight_of f rows - f row) (weight_of g rows - g row)
        → AreSums whole first second (weight_of f new) (weight_of g new)
    sums_removed row found is known =
        sums_same _ _ _ _ (weight_removed f (is_at (R key)) rows row found ∙ ap (weight_of f) (sym is))
        (weight_removed g (is_at (R key)) rows row found ∙ ap (weight_of g) (sym is)) known

    pub sums_put : (row : V) → IsStrictlySortedBy R (keys_of rows) → new ≡ insert_entry R rows key row
        → AreSums whole first second
        (weight_of f rows - unwrap_or (option_map f (lookup (is_at (R key)) rows)) 0 + f row)
        (weight_of g rows - unwrap_or (option_map g (lookup (is_at (R key)) rows)) 0 + g row)
        → AreSums whole first second (weight_of f new) (weight_of g new)
    sums_put row rising is known =
        sums_same _ _ _ _ (weight_put order f rows key row rising ∙ ap (weight_of f) (sym is))
        (weight_put order g rows key row rising ∙ ap (weight_of g) (sym is)) known

    pub sums_back : (row : V) (given : K × V) → given ≡ (key, row) → lookup (is_at (R key)) rows ≡ None → new ≡ rows
        → AreSums whole first second
        (weight_of f rows - unwrap_or (option_map f (lookup (is_at (R key)) rows)) 0 + f row - f given.1)
        (weight_of g rows - unwrap_or (option_map g (lookup (is_at (R key)) rows)) 0 + g row - g given.1)
        → AreSums whole first second (weight_of f new) (weight_of g new)
    sums_back row given same absent is known =
        let less : (h : V → ℕ) → weight_of h rows - unwrap_or (option_map h (lookup (is_at (R key)) rows)) 0 + h row - h given.1 ≡ weight_of h new =
        λ h. ap (λ (p : K × V). weight_of h rows - unwrap_or (option_map h (lookup (is_at (R key)) rows)) 0 + h row - h p.1) same
        ∙ weight_back order h rows key row absent ∙ ap (weight_of h) (sym is) in
        sums_same _ _ _ _ (less f) (less g) known

module _ {K V M : Type 0} {R : K → K → Ordering} (order : IsTotalOrder R) (C : M → M → Ordering) (marks : V → List M) (rows new : List (K × V)) (key : K) where
  times_set : (old row : V) (lost gained : List M) → lookup (is_at (R key)) rows ≡ Some old
      → ((q : K) → lookup (is_at (R q)) new ≡ cond (is_at (R key) q) (Some row) (lookup (is_at (R q)) rows))
      → ((m : M) → times C m (marks row) + times C m lost ≡ times C m (marks old) + times C m gained)
      → (m : M) (q : K) → times_at C marks m (lookup (is_at (R q)) rows) + only_at R key (times C m gained) q - only_at R key (times C m lost) q ≡ times_at C marks m (lookup (is_at (R q)) new)
  times_set old row lost gained found updates moves m q =
      ap (λ o. times_at C marks m o + only_at R key (times C m gained) q - only_at R key (times C m lost) q) (lookup_stays order key q rows (Some old) found)
      ∙ by (is_at (R key) q) ∙ ap (times_at C marks m) (sym (updates q))
    where
      by : (b : Bool) → times_at C marks m (cond b (Some old) (lookup (is_at (R q)) rows)) + cond b (times C m gained) 0 - cond b (times C m lost) 0 ≡ times_at C marks m (cond b (Some row) (lookup (is_at (R q)) rows))
      by true = let h = moves m in omega (arith, h)
      by false = omega arith

  times_removed : (row : V) → lookup (is_at (R key)) rows ≡ Some row
      → ((q : K) → lookup (is_at (R q)) new ≡ cond (is_at (R key) q) None (lookup (is_at (R q)) rows))
      → (m : M) (q : K) → times_at C marks m (lookup (is_at (R q)) rows) - only_at R key (times C m (marks row)) q ≡ times_at C marks m (lookup (is_at (R q)) new)
  times_removed row found updates m q =
      ap (λ o. times_at C marks m o - only_at R key (times C m (marks row)) q) (lookup_stays order key q rows (Some row) found)
      ∙ by (is_at (R key) q) ∙ ap (times_at C marks m) (sym (updates q))
    where
      by : (b : Bool) → times_at C marks m (cond b (Some row) (lookup (is_at (R q)) rows)) - cond b (times C m (marks row)) 0 ≡ times_at C marks m (cond b None (lookup (is_at (R q)) rows))
      by true = omega arith
      by false = omega arith

  times_put : (row : V)
      → ((q : K) → lookup (is_at (R q)) new ≡ cond (is_at (R key) q) (Some row) (lookup (is_at (R q)) rows))
      → (m : M) (q : K) → times_at C marks m (lookup (is_at (R q)) rows) - only_at R key (times_at C marks m (lookup (is_at (R key)) rows)) q + only_at R key (times C m (marks row)) q ≡ times_at C marks m (lookup (is_at (R q)) new)
  times_put row updates m q =
      ap (λ o. times_at C marks m o - only_at R key (times_at C marks m (lookup (is_at (R key)) rows)) q + only_at R key (times C m (marks row)) q) (lookup_stays order key q rows (lookup (is_at (R key)) rows) refl)
      ∙ by (is_at (R key) q) ∙ ap (times_at C marks m) (sym (updates q))
    where
      by : (b : Bool) → times_at C marks m (cond b (lookup (is_at (R key)) rows) (lookup (is_at (R q)) rows)) - cond b (times_at C marks m (lookup (is_at (R key)) rows)) 0 + cond b (times C m (marks row)) 0 ≡ times_at C marks m (cond b (Some row) (lookup (is_at (R q)) rows))
      by true = omega arith
      by false = omega arith

  times_back : (row : V) → lookup (is_at (R key)) rows ≡ None → new ≡ rows
      → (m : M) (q : K) → times_at C marks m (lookup (is_at (R q)) rows) - only_at R key (times_at C marks m (lookup (is_at (R key)) rows)) q + only_at R key (times C m (marks row)) q - only_at R key (times C m (marks row)) q ≡ times_at C marks m (lookup (is_at (R q)) new)
  times_back row absent is m q =
      ap (λ o. times_at C marks m (lookup (is_at (R q)) rows) - only_at R key (times_at C marks m o) q + only_at R key (times C m (marks row)) q - only_at R key (times C m (marks row)) q) absent
      ∙ by (is_at (R key) q) (times_at C marks m (lookup (is_at (R q)) rows)) ∙ ap (λ (es : List (K × V)). times_at C marks m (lookup (is_at (R q)) es)) (sym is)
    where
      by : (b : Bool) (n : ℕ) → n - cond b 0 0 + cond b (times C m (marks row)) 0 - cond b (times C m (marks row)) 0 ≡ n
      by true n = omega arith
      by false n = omega arith

  module _ (whole : Bool) (ledger : List (M × Keys K)) where
    tells_same : (f h : M → K → ℕ) → ((m : M) (q : K) → f m q ≡ h m q) → Tells R C whole ledger f → Tells R C whole ledger h
    tells_same f h same known = λ on m q. known on m q ∙ ap nonzero (same m q)

    pub ledger_set : {X : Type 0} (lost gained : X → List M) (moved : Option X) (old row : V) → lookup (is_at (R key)) rows ≡ Some old
        → ((q : K) → lookup (is_at (R q)) new ≡ cond (is_at (R key) q) (Some row) (lookup (is_at (R q)) rows))
        → IfSome moved (λ x. (m : M) → times C m (marks row) + times C m (lost x) ≡ times C m (marks old) + times C m (gained x))
        → (whole ≡ true → IsSomeAnd moved (λ x. Counts R C ledger (λ m q. times_at C marks m (lookup (is_at (R q)) rows) + only_at R key (times C m (gained x)) q - only_at R key (times C m (lost x)) q)))
        → Tells R C whole ledger (λ m q. times_at C marks m (lookup (is_at (R q)) new))
    ledger_set lost gained None old row found updates moves known = λ on. absurd (known on)
    ledger_set lost gained (Some x) old row found updates moves known =
        λ on m q. known on m q ∙ ap nonzero (times_set old row (lost x) (gained x) found updates moves m q)

    pub ledger_removed : (row : V) → lookup (is_at (R key)) rows ≡ Some row
        → ((q : K) → lookup (is_at (R q)) new ≡ cond (is_at (R key) q) None (lookup (is_at (R q)) rows))
        → Tells R C whole ledger (λ m q. times_at C marks m (lookup (is_at (R q)) rows) - only_at R key (times C m (marks row)) q)
        → Tells R C whole ledger (λ m q. times_at C marks m (lookup (is_at (R q)) new))
    ledger_removed row found updates = tells_same _ _ (times_removed row found updates)

    pub ledger_put : (row : V)
        → ((q : K) → lookup (is_at (R q)) new ≡ cond (is_at (R key) q) (Some row) (lookup (is_at (R q)) rows))
        → Tells R C whole ledger (λ m q. times_at C marks m (lookup (is_at (R q)) rows) - only_at R key (times_at C marks m (lookup (is_at (R key)) rows)) q + only_at R key (times C m (marks row)) q)
        → Tells R C whole ledger (λ m q. times_at C marks m (lookup (is_at (R q)) new))
    ledger_put row updates = tells_same _ _ (times_put row updates)

    pub ledger_back : (row : V) (given : K × V) → given ≡ (key, row) → lookup (is_at (R key)) rows ≡ None → new ≡ rows
        → Tells R C whole ledger (λ m q. times_at C marks m (lookup (is_at (R q)) rows) - only_at R key (times_at C marks m (lookup (is_at (R key)) rows)) q + only_at R key (times C m (marks row)) q - only_at R given.0 (times C m (marks given.1)) q)
        → Tells R C whole ledger (λ m q. times_at C marks m (lookup (is_at (R q)) new))
    ledger_back row given same absent is =
        tells_same _ _ (λ m q.
        ap (λ (p : K × V). times_at C marks m (lookup (is_at (R q)) rows) - only_at R key (times_at C marks m (lookup (is_at (R key)) rows)) q + only_at R key (times C m (marks row)) q - only_at R p.0 (times C m (marks p.1)) q) same
        ∙ times_back row absent is m q)
