-- Any fuel that is enough cuts the same frames; so they are cut one by one.
use Rattle.std.proofs.Common.{◌≡◌, ℕ, zero, suc, ◌+◌, ◌≤◌, Bool, true, false, List, [], ◌∷◌, length, refl, sym, ap, ◌∙◌, arith}
use Rattle.std.proofs.lemmas.List.{length-drop}
use Rattle.std.proofs.lemmas.Bool.Decides.{nat_tests}
use Rattle.ge_model_wire.specs.Frames.{frame_size, is_no_frame, on_cut, cut_frames, frames_of, behind_frames, first_payload, behind_first}

pub frame-shorter : (bytes : List ℕ) → is_no_frame bytes ≡ false → length (behind_first bytes) + 4 ≤ length bytes
frame-shorter bytes whole = grind (arith, nat_tests, whole, length-drop (4 + frame_size bytes) bytes)

cut-step : (n : ℕ) (bytes : List ℕ) (t : Bool) → is_no_frame bytes ≡ t → cut_frames (suc n) bytes ≡ on_cut t bytes (cut_frames n (behind_first bytes))
cut-step n bytes t p = ap (λ t. on_cut t bytes (cut_frames n (behind_first bytes))) p

fuel-step : (n m : ℕ) (bytes : List ℕ) (t : Bool) → is_no_frame bytes ≡ t → (t ≡ false → cut_frames n (behind_first bytes) ≡ cut_frames m (behind_first bytes))
    → cut_frames (suc n) bytes ≡ cut_frames (suc m) bytes
fuel-step n m bytes true p more = cut-step n bytes true p ∙ sym (cut-step m bytes true p)
fuel-step n m bytes false p more = cut-step n bytes false p ∙ ap (on_cut false bytes) (more refl) ∙ sym (cut-step m bytes false p)

pub fuel-enough : (n m : ℕ) (bytes : List ℕ) → length bytes ≤ n → length bytes ≤ m → cut_frames n bytes ≡ cut_frames m bytes
fuel-enough zero zero bytes a b = refl
fuel-enough zero (suc m) [] a b = refl
fuel-enough (suc n) zero [] a b = refl
fuel-enough zero (suc m) (x ∷ bytes) a b = absurd (omega (arith, a))
fuel-enough (suc n) zero (x ∷ bytes) a b = absurd (omega (arith, b))
fuel-enough (suc n) (suc m) bytes a b =
    fuel-step n m bytes (is_no_frame bytes) refl (λ p. let shorter = frame-shorter bytes p in fuel-enough n m (behind_first bytes) (omega (arith, a, shorter)) (omega (arith, b, shorter)))

pub cut-first : (bytes : List ℕ) → is_no_frame bytes ≡ false
    → cut_frames (length bytes) bytes ≡ on_cut false bytes (cut_frames (length (behind_first bytes)) (behind_first bytes))
cut-first [] whole = cc whole
cut-first (b ∷ bytes) whole =
    let shorter = frame-shorter (b ∷ bytes) whole in
    cut-step (length bytes) (b ∷ bytes) false whole
    ∙ ap (on_cut false (b ∷ bytes)) (fuel-enough (length bytes) (length (behind_first (b ∷ bytes))) (behind_first (b ∷ bytes)) (omega (arith, shorter)) (omega arith))

pub cut-none : (bytes : List ℕ) → is_no_frame bytes ≡ true → cut_frames (length bytes) bytes ≡ ([], bytes)
cut-none [] none = refl
cut-none (b ∷ bytes) none = cut-step (length bytes) (b ∷ bytes) true none

-- the frames of bytes that begin with one, and of others
pub frames-first : (bytes : List ℕ) → is_no_frame bytes ≡ false → frames_of bytes ≡ first_payload bytes ∷ frames_of (behind_first bytes)
unfolding frames_of
frames-first bytes whole = ap (λ x. x.0) (cut-first bytes whole)

pub behind-first : (bytes : List ℕ) → is_no_frame bytes ≡ false → behind_frames bytes ≡ behind_frames (behind_first bytes)
unfolding behind_frames
behind-first bytes whole = ap (λ x. x.1) (cut-first bytes whole)

pub frames-none : (bytes : List ℕ) → is_no_frame bytes ≡ true → frames_of bytes ≡ []
unfolding frames_of
frames-none bytes none = ap (λ x. x.0) (cut-none bytes none)

pub behind-none : (bytes : List ℕ) → is_no_frame bytes ≡ true → behind_frames bytes ≡ bytes
unfolding behind_frames
behind-none bytes none = ap (λ x. x.1) (cut-none bytes none)
