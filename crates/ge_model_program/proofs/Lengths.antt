-- How many bytes are taken to read the frames of a connection.
use Rattle.std.proofs.Common.{◌≡◌, ℕ, zero, suc, ◌+◌, ◌≤◌, Bool, true, false, List, length, refl, ap, ◌∙◌, arith}
use Rattle.std.proofs.lemmas.List.{length-drop}
use Rattle.std.proofs.lemmas.Bool.Decides.{nat_tests}
use Rattle.ge_model_wire.specs.Frames.{frame_size, is_no_frame, on_cut, cut_frames, behind_frames, behind_first, taken_of}
use Rattle.ge_model_wire.proofs.Cuts.{behind-first, behind-none}
use Rattle.ge_model_program.specs.Links.{bytes_to_read}

behind-cut : (t : Bool) (n : ℕ) (bytes : List ℕ) → length (cut_frames n (behind_first bytes)).1 ≤ length (behind_first bytes)
    → length (on_cut t bytes (cut_frames n (behind_first bytes))).1 ≤ length bytes
behind-cut true n bytes few = omega arith
behind-cut false n bytes few = omega (arith, few, length-drop (4 + frame_size bytes) bytes)

cut-few : (n : ℕ) (bytes : List ℕ) → length (cut_frames n bytes).1 ≤ length bytes
cut-few zero bytes = omega arith
cut-few (suc n) bytes = behind-cut (is_no_frame bytes) n bytes (cut-few n (behind_first bytes))

-- what stands behind the frames is no more than all
behind-few : (bytes : List ℕ) → length (behind_frames bytes) ≤ length bytes
unfolding behind_frames
behind-few bytes = cut-few (length bytes) bytes

frame-taken : (bytes : List ℕ) → is_no_frame bytes ≡ false → taken_of bytes + length (behind_first bytes) ≡ length bytes
frame-taken bytes frame = grind (arith, nat_tests, frame, length-drop (4 + frame_size bytes) bytes)

-- reading a frame at a place takes no more than reading all
pub reads-more : (bytes rest : List ℕ) (place : ℕ) → place + length rest ≡ length bytes → behind_frames bytes ≡ behind_frames rest → place + taken_of rest ≤ bytes_to_read bytes
reads-more bytes rest place at behind = by-frame (is_no_frame rest) refl
  where
    by-frame : (t : Bool) → is_no_frame rest ≡ t → place + taken_of rest ≤ bytes_to_read bytes
    by-frame true none =
        let same : behind_frames bytes ≡ rest = behind ∙ behind-none rest none in
        omega (arith, at, ap length same, ap taken_of same)
    by-frame false frame =
        let same : behind_frames bytes ≡ behind_frames (behind_first rest) = behind ∙ behind-first rest frame in
        omega (arith, at, ap length same, behind-few (behind_first rest), frame-taken rest frame)
