-- Limits scattered over buckets, by all bytes of their names.
use Rattle.std.specs.Prelude.{ℕ, ◌+◌, ◌*◌, ◌/◌, ◌%◌, ◌^◌, List, fold, drop, length}
use Rattle.std.specs.Int.{w32, from_le_bytes}
use Rattle.std.specs.Simd.{first_chunks}
use Rattle.ge_model_rows.specs.HostRows.{InstanceId}
use Rattle.ge_model_rows.specs.ScheduleRows.{LimitId, Instance, Host, Global, Pe, Quota, Advance, QuotaKey}

-- the step of a generator of numbers, moved on by a number
unfoldable pub with_number : ℕ → ℕ → ℕ
with_number sum number = ((sum + number) % 2 ^ 64 * 6364136223846793005) % 2 ^ 64

-- four bytes are one step
unfoldable pub with_four : ℕ → List ℕ → ℕ
with_four sum bytes = with_number sum (from_le_bytes w32 bytes)

unfoldable pub with_text : ℕ → List ℕ → ℕ
with_text sum text = fold with_number (fold with_four sum (first_chunks 4 (length text / 4) text)) (drop (length text / 4 * 4) text)

unfoldable pub with_instance : ℕ → InstanceId → ℕ
with_instance sum at = with_text (with_text sum at.queue) at.host

unfoldable pub with_filters : ℕ → QuotaKey → ℕ
with_filters sum key = with_text (with_text (with_text (with_text (with_text sum key.user) key.project) key.pe) key.queue) key.host

unfoldable pub scattered : LimitId → ℕ
scattered (Instance at name) = with_text (with_instance 0 at) name
scattered (Host host name) = with_text (with_text 0 host) name
scattered (Global name) = with_text 0 name
scattered (Pe name) = with_text 0 name
scattered (Quota key) = with_text (with_filters (with_text key.rule key.set) key) key.resource
scattered (Advance number at) = with_instance number at

-- the bucket of a limit among so many: the part of them that its number is of all numbers, by the upper bits, which each step moves
unfoldable pub bucket_of : ℕ → LimitId → ℕ
bucket_of size limit = scattered limit * size / 2 ^ 64
