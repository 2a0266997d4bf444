-- The numbers of limits, found along chains: the entries of one bucket, each with the place of the next older one. A place is
-- the number of entries up to there, and 0 where there is none.
use Rattle.std.specs.Prelude.{◌≡◌, ℕ, ◌≤◌, ◌<◌, ◌-◌, List, [], ◌∷◌, Option, Some, fold, take, length, slice_get, slice_index}
use Rattle.ge_model_rows.specs.ScheduleRows.{LimitId}
use Rattle.ge_timeline.specs.declared.index.Entry.{Entry}
use Rattle.ge_timeline.specs.Scattered.{bucket_of}
use Rattle.ge_timeline.specs.Shown.{number_in}

abbrev pub with_entry : List (LimitId × ℕ) → Entry → List (LimitId × ℕ)
with_entry index entry = (entry.limit, entry.number) ∷ index

-- the limits with their numbers, the newest first
abbrev pub numbers_of : List Entry → List (LimitId × ℕ)
numbers_of entries = fold with_entry [] entries

-- the number of a limit among the first entries
abbrev pub number_among : List Entry → ℕ → LimitId → Option ℕ
number_among entries count limit = number_in (numbers_of (take count entries)) limit

-- from a place the limits of a bucket are found as among the first `count` entries
pub record Leads (entries : List Entry) (size bucket count place : ℕ) : Type 0 where
  pub within : place ≤ count
  pub own : (entry : Entry) → slice_get entries (place - 1) ≡ Some entry → 0 < place → bucket_of size entry.limit ≡ bucket
  pub same : (limit : LimitId) → bucket_of size limit ≡ bucket → number_among entries place limit ≡ number_among entries count limit

-- each bucket's head leads to all its entries, and each entry to the older ones
pub record IsChained (entries : List Entry) (size : ℕ) (heads : List ℕ) : Type 0 where
  pub all : (bucket : ℕ) → Leads entries size bucket (length entries) (slice_index heads bucket)
  pub older : (at : ℕ) (entry : Entry) → slice_get entries at ≡ Some entry → Leads entries size (bucket_of size entry.limit) at entry.next
