-- What a disk holds at a moment, what each call makes of it, and what a stop may leave.
--
-- A disk that tells its content is the list of its moments, newest first; one that tells nothing is the empty list.
use Rattle.std.specs.Prelude.{◌≡◌, ◌⊎◌, ℕ, ◌+◌, ◌-◌, ◌<◌, ◌≤◌, min, max, List, [], ◌∷◌, ◌++◌, length, take, drop, slice_index}

-- what a disk holds at one moment
pub record Content : Type 0 where
  -- what the last sync left
  pub synced : List ℕ
  -- what a read gives
  pub bytes : List ℕ
  -- the ranges written since that sync, each its place and its size
  pub pending : List (ℕ × ℕ)
  -- the greatest length since that sync
  pub longest : ℕ

-- a disk that holds these bytes, with nothing pending
abbrev pub settled_content : List ℕ → Content
settled_content bytes = record { synced = bytes; bytes = bytes; pending = []; longest = length bytes }

-- bytes with a piece written over them from a place on, which may make them longer
abbrev pub overwritten : List ℕ → ℕ → List ℕ → List ℕ
overwritten bytes at piece = take at bytes ++ (piece ++ drop (at + length piece) bytes)

-- a content after a write
abbrev pub content_written : Content → ℕ → List ℕ → Content
content_written c at piece = record {
  synced = c.synced;
  bytes = overwritten c.bytes at piece;
  pending = c.pending ++ (at, length piece) ∷ [];
  longest = max c.longest (at + length piece);
}

-- a content after a sync
abbrev pub content_synced : Content → Content
content_synced c = settled_content c.bytes

-- a place lies in none of the ranges
abbrev pub IsOutside : ℕ → List (ℕ × ℕ) → Type 0
IsOutside place [] = Unit {0}
IsOutside place (range ∷ ranges) = ((place < range.0) ⊎ (range.0 + range.1 ≤ place)) × IsOutside place ranges

-- What a stop may leave of a disk with these parts: no shorter than what was synced, no longer than the disk
-- ever was since, and outside the written ranges the bytes that were synced.
pub record IsImageOf (synced : List ℕ) (pending : List (ℕ × ℕ)) (longest : ℕ) (image : List ℕ) : Type 0 where
  pub no_shorter : length synced ≤ length image
  pub no_longer : length image ≤ longest
  pub kept : (place : ℕ) → place < length synced → IsOutside place pending → slice_index image place ≡ slice_index synced place

-- what a stop may leave at a moment
abbrev pub IsImage : Content → List ℕ → Type 0
IsImage c image = IsImageOf c.synced c.pending c.longest image

-- what a stop may leave at the newest moment; nothing is known of a disk that tells nothing
abbrev pub IsImageNow : List Content → List ℕ → Type 0
IsImageNow [] image = ⊥
IsImageNow (now ∷ earlier) image = IsImage now image

-- What a stop may have left at some moment since the one at which a disk had told so many.
abbrev pub IsImageSince : ℕ → List Content → List ℕ → Type 0
IsImageSince start [] image = ⊥
IsImageSince start (now ∷ earlier) image =
    (start ≤ length (now ∷ earlier)) × (IsImage now image ⊎ IsImageSince start earlier image)

-- the bytes that a read gives, where the disk tells
abbrev pub read_bytes : List Content → List ℕ
read_bytes [] = []
read_bytes (now ∷ earlier) = now.bytes

-- a disk has this length, where it tells
abbrev pub HasLength : List Content → ℕ → Type 0
HasLength [] n = Unit {0}
HasLength (now ∷ earlier) n = n ≡ length now.bytes

-- a place is no further than the end of a disk, where it tells
abbrev pub IsWithin : List Content → ℕ → Type 0
IsWithin [] at = Unit {0}
IsWithin (now ∷ earlier) at = at ≤ length now.bytes

-- n bytes of a buffer are those of a disk from a place on, as many as fit and are there, and the others stay
pub record ReadsFrom (bytes : List ℕ) (at n : ℕ) (before after : List ℕ) : Type 0 where
  pub count : n ≡ min (length before) (length bytes - at)
  pub filled : take n after ≡ take n (drop at bytes)
  pub others : drop n after ≡ drop n before

-- what a read gives, where the disk tells
abbrev pub Reads : List Content → ℕ → ℕ → List ℕ → List ℕ → Type 0
Reads [] at n before after = Unit {0}
Reads (now ∷ earlier) at n before after = ReadsFrom now.bytes at n before after

-- what a disk tells after a write: one moment more, or still nothing
abbrev pub told_written : List Content → ℕ → List ℕ → List Content
told_written [] at piece = []
told_written (now ∷ earlier) at piece = content_written now at piece ∷ now ∷ earlier

-- what a disk tells after a sync
abbrev pub told_synced : List Content → List Content
told_synced [] = []
told_synced (now ∷ earlier) = content_synced now ∷ now ∷ earlier

-- the disk as it reads is one of its images, where it tells
abbrev pub ReadsAnImage : List Content → Type 0
ReadsAnImage [] = Unit {0}
ReadsAnImage (now ∷ earlier) = IsImage now now.bytes
