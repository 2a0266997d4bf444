-- A disk in memory reads as one of its images.
use Rattle.std.specs.Prelude.{◌≡◌, ◌⊎◌, ℕ, ◌+◌, ◌-◌, ◌<◌, ◌≤◌, max, List, [], ◌∷◌, ◌++◌, length, take, drop, slice_index, refl}
use Rattle.std.proofs.Common.{arith, ◌∙◌, ap, length-append, length-take, length-drop, ⊎_elim}
use Rattle.std.proofs.lemmas.List.{get_or-take, get_or_append_left, get_or-append_right, get_or-drop}
use Rattle.ge_model_journal.specs.Disk.{Content, IsOutside, IsImage, ReadsAnImage, overwritten, settled_content}
use Rattle.ge_outside.specs.Steps.{after_step, after_steps, moments}
use Rattle.ge_outside.specs.declared.memory_steps.Step.{Step}
use Rattle.ge_outside.specs.declared.memory_steps.Step.TheVariants.{Wrote, Synced}

-- how long overwritten bytes are at least
pub length-overwritten : (bytes : List ℕ) (at : ℕ) (piece : List ℕ) → length bytes ≤ length (overwritten bytes at piece)
length-overwritten bytes at piece =
    omega (
      arith,
      length-append (take at bytes) (piece ++ drop (at + length piece) bytes),
      length-append piece (drop (at + length piece) bytes),
      length-take at bytes,
      length-drop (at + length piece) bytes,
    )

-- and at most
pub length-overwritten-le : (bytes : List ℕ) (at : ℕ) (piece : List ℕ) → length (overwritten bytes at piece) ≤ max (length bytes) (at + length piece)
length-overwritten-le bytes at piece =
    omega (
      arith,
      length-append (take at bytes) (piece ++ drop (at + length piece) bytes),
      length-append piece (drop (at + length piece) bytes),
      length-take at bytes,
      length-drop (at + length piece) bytes,
    )

-- a byte in front of a piece that was written stays
pub overwritten-before : (bytes : List ℕ) (at : ℕ) (piece : List ℕ) (place : ℕ) → place < length bytes → place < at
    → slice_index (overwritten bytes at piece) place ≡ slice_index bytes place
overwritten-before bytes at piece place within before =
    let shown : place < length (take at bytes) = omega (arith, length-take at bytes) in
    get_or_append_left (take at bytes) (piece ++ drop (at + length piece) bytes) 0 place shown ∙ get_or-take at bytes place 0 before

-- and so does a byte behind it
pub overwritten-behind : (bytes : List ℕ) (at : ℕ) (piece : List ℕ) (place : ℕ) → place < length bytes → at + length piece ≤ place
    → slice_index (overwritten bytes at piece) place ≡ slice_index bytes place
overwritten-behind bytes at piece place within behind =
    let before : length (take at bytes) ≡ at = omega (arith, length-take at bytes) in
    let back : at + length piece + (place - at - length piece) ≡ place = omega arith in
    get_or-append_right (take at bytes) (piece ++ drop (at + length piece) bytes) at place 0 before (omega arith)
    ∙ get_or-append_right piece (drop (at + length piece) bytes) (length piece) (place - at) 0 refl (omega arith)
    ∙ get_or-drop (at + length piece) bytes (place - at - length piece) 0
    ∙ ap (λ k. slice_index bytes k) back

-- what was synced, and what the ranges hold
pub outside-append : (place : ℕ) (ranges : List (ℕ × ℕ)) (at size : ℕ) → IsOutside place (ranges ++ (at, size) ∷ [])
    → IsOutside place ranges × ((place < at) ⊎ (at + size ≤ place))
outside-append place [] at size outside = (tt, outside.0)
outside-append place (range ∷ ranges) at size outside =
    let rest = outside-append place ranges at size outside.1 in ((outside.0, rest.0), rest.1)

-- a step keeps it that a disk reads as one of its images
pub step_reads : (c : Content) (step : Step) → IsImage c c.bytes → IsImage (after_step c step) (after_step c step).bytes
step_reads c Synced reads = record { no_shorter = omega arith; no_longer = omega arith; kept = λ place within outside. refl }
step_reads c (Wrote write) reads = record {
  no_shorter = omega (arith, reads.no_shorter, length-overwritten c.bytes write.at write.piece.items);
  no_longer = omega (arith, reads.no_longer, length-overwritten-le c.bytes write.at write.piece.items);
  kept = λ place within outside.
      let apart = outside-append place c.pending write.at (length write.piece.items) outside in
      let there : place < length c.bytes = omega (arith, reads.no_shorter) in
      ⊎_elim (overwritten-before c.bytes write.at write.piece.items place there) (overwritten-behind c.bytes write.at write.piece.items place there) apart.1
      ∙ reads.kept place within apart.0;
}

pub steps_read : (c : Content) (steps : List Step) → IsImage c c.bytes → IsImage (after_steps c steps) (after_steps c steps).bytes
steps_read c [] reads = reads
steps_read c (step ∷ steps) reads = steps_read (after_step c step) steps (step_reads c step reads)

pub reads_an_image : (bytes : List ℕ) (steps : List Step) → ReadsAnImage (moments (settled_content bytes) steps)
reads_an_image bytes steps =
    steps_read (settled_content bytes) steps (record { no_shorter = omega arith; no_longer = omega arith; kept = λ place within outside. refl })
