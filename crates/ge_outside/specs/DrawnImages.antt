-- What is drawn is an image.
use Rattle.std.specs.Prelude.{◌≡◌, ◌⊎◌, ℕ, zero, suc, ◌+◌, ◌%◌, ◌^◌, ◌<◌, ◌≤◌, false, nat_le, List, [], ◌∷◌, length, slice_index, refl}
use Rattle.std.proofs.Common.{arith, ap, inl, inr}
use Rattle.std.proofs.lemmas.Bool.{lt-leb, le-ltb}
use Rattle.std.proofs.Math.Bool.{and-false}
use Rattle.std.specs.List.{list_any}
use Rattle.ge_model_journal.specs.Disk.{Content, IsOutside, IsImage, IsImageNow, settled_content}
use Rattle.ge_outside.specs.Steps.{moments, after_steps}
use Rattle.ge_outside.specs.Images.{reads_an_image}
use Rattle.ge_outside.specs.declared.memory_steps.Step.{Step}
use Rattle.ge_outside.specs.Draws.{next_state, range_has, is_pending, drawn_byte, drawn_bytes, drawn_length, drawn_image}

-- the image that a pick draws of the newest moment
abbrev pub drawn_now : List Content → ℕ → List ℕ
drawn_now [] pick = []
drawn_now (now ∷ earlier) pick = drawn_image now pick

pub length-drawn_bytes : (c : Content) (state place count : ℕ) → length (drawn_bytes c state place count) ≡ count
length-drawn_bytes c state place zero = refl
length-drawn_bytes c state place (suc count) = ap suc (length-drawn_bytes c (drawn_byte c state place).1 (place + 1) count)

-- a place outside a range is not in it
range_has-outside : (place at size : ℕ) → (place < at) ⊎ (at + size ≤ place) → range_has (at, size) place ≡ false
range_has-outside place at size (inl before) = rw (lt-leb at place before) refl
range_has-outside place at size (inr behind) = rw (le-ltb place (at + size) behind) (and-false (nat_le at place))

-- and a place outside every range is in none
list_any-outside : (place : ℕ) (ranges : List (ℕ × ℕ)) → IsOutside place ranges → list_any (λ range. range_has range place) ranges ≡ false
list_any-outside place [] outside = refl
list_any-outside place (range ∷ ranges) outside =
    rw (range_has-outside place range.0 range.1 outside.0, list_any-outside place ranges outside.1) refl

-- so nothing is pending there, if it was synced
is_pending-outside : (c : Content) (place : ℕ) → place < length c.synced → IsOutside place c.pending → is_pending c place ≡ false
is_pending-outside c place within outside = rw (lt-leb (length c.synced) place within, list_any-outside place c.pending outside) refl

-- where nothing is pending the byte is the one that was synced
drawn_byte-settled : (c : Content) (state place : ℕ) → is_pending c place ≡ false → (drawn_byte c state place).0 ≡ slice_index c.synced place
unfolding drawn_byte
drawn_byte-settled c state place settled = rw settled refl

kept-drawn_bytes : (c : Content) (state place count at : ℕ) → at < count → is_pending c (place + at) ≡ false
    → slice_index (drawn_bytes c state place count) at ≡ slice_index c.synced (place + at)
kept-drawn_bytes c state place zero at within settled = absurd (omega arith)
kept-drawn_bytes c state place (suc count) zero within settled =
    let here : place + 0 ≡ place = omega arith in
    rw here (drawn_byte-settled c state place (rw here at settled))
kept-drawn_bytes c state place (suc count) (suc at) within settled =
    let next : place + suc at ≡ place + 1 + at = omega arith in
    rw next (kept-drawn_bytes c (drawn_byte c state place).1 (place + 1) count at (omega arith) (rw next at settled))

pub IsImage-drawn_image : (c : Content) (pick : ℕ) → length c.synced ≤ c.longest → IsImage c (drawn_image c pick)
unfolding drawn_image
IsImage-drawn_image c pick fits =
    let state : ℕ = next_state (pick % 2 ^ 31) in
    let size : length (drawn_bytes c state 0 (drawn_length c state)) ≡ drawn_length c state = length-drawn_bytes c state 0 (drawn_length c state) in
    record {
      no_shorter = omega (arith, size);
      no_longer = omega (arith, size);
      kept = λ place within outside.
          let front : 0 + place ≡ place = omega arith in
          rw front at (kept-drawn_bytes c state 0 (drawn_length c state) place (omega arith)
          (rw front (is_pending-outside c place within outside)));
    }

-- what is drawn of a disk in memory is one of its images
pub drawn_now-image : (bytes : List ℕ) (steps : List Step) (pick : ℕ)
    → IsImageNow (moments (settled_content bytes) steps) (drawn_now (moments (settled_content bytes) steps) pick)
drawn_now-image bytes steps pick =
    let reads = reads_an_image bytes steps in
    IsImage-drawn_image (after_steps (settled_content bytes) steps) pick (omega (arith, reads.no_shorter, reads.no_longer))
