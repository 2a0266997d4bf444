-- A set of numbers below 2^32 has fewer than 2^32.
use Rattle.std.proofs.Common.{◌≡◌, ℕ, zero, suc, ◌+◌, ◌-◌, ◌^◌, ◌≤◌, ◌<◌, min, true, List, [], ◌∷◌, ◌++◌, take, get_or, length, fold, refl, sym, ap, ◌∙◌, arith, add-one}
use Rattle.std.proofs.Math.Nat.{div-le_self}
use Rattle.std.proofs.lemmas.List.{take_more}
use Rattle.ge_model_rows.specs.TaskRows.{TaskSpan, is_form}
use Rattle.ge_model_rows.specs.Sets.{add_count, count_of}
use Rattle.ge_model_rows.proofs.Form.{Rises}
use Rattle.ge_model_rows.proofs.Sets.{form_rises}
use Rattle.ge_model_rows.proofs.Turns.{size, counted}

-- rising spans have no more numbers than lead to the last
size_within : (low i : ℕ) (d : TaskSpan) (spans : List TaskSpan) → Rises low spans → i < length spans
    → low + size (take (suc i) spans) ≤ (get_or spans i d).last
size_within low i d [] rises lt = absurd (omega arith)
size_within low zero d (s ∷ rest) (higher, made, rises) lt =
    let o = made.ordered in
    let l = div-le_self (s.last - s.first) s.step in
    omega arith
size_within low (suc i) d (s ∷ rest) (higher, made, rises) lt =
    let o = made.ordered in
    let l = div-le_self (s.last - s.first) s.step in
    let h = size_within s.last i d rest rises (omega arith) in
    omega arith

fold_last : (x : TaskSpan) (xs : List TaskSpan) (n : ℕ) → fold add_count n (xs ++ x ∷ []) ≡ add_count (fold add_count n xs) x
fold_last x [] n = refl
fold_last x (y ∷ xs) n = fold_last x xs (add_count n y)

-- the numbers of one more span are counted without a cut
pub one_more : (spans : List TaskSpan) (i count next : ℕ) (d : TaskSpan) → is_form spans ≡ true → i < length spans → (get_or spans i d).last < 2 ^ 32
    → count ≡ count_of (take i spans) → next ≡ min (add_count count (get_or spans i d)) (2 ^ 32 - 1) → next ≡ count_of (take (i + 1) spans)
one_more spans i count next d form lt small so_far is =
    let more : count_of (take (i + 1) spans) ≡ add_count count (get_or spans i d) =
    ap (λ xs. fold add_count 0 xs) (take_more spans i d lt) ∙ fold_last (get_or spans i d) (take i spans) 0 ∙ ap (λ n. add_count n (get_or spans i d)) (sym so_far) in
    let within = size_within 0 i d spans (form_rises spans form) lt in
    let all = counted 0 (take (i + 1) spans) in
    let same : size (take (suc i) spans) ≡ size (take (i + 1) spans) = ap (λ n. size (take n spans)) (sym (add-one i)) in
    omega arith
