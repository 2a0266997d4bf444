-- How many records stand behind what is stored, and when an area is full.
use Rattle.std.proofs.Common.{◌≡◌, ℕ, ◌-◌, ◌^◌, ◌<◌, ◌≤◌, min, Bool, true, false, refl, arith}
use Rattle.std.specs.Prelude.{not, ◌&&◌, ◌||◌, ◌==◌, nat_le, nat_lt, if◌then◌else◌}
use Rattle.std.proofs.lemmas.Bool.Decides.{nat_tests}
use Rattle.ge_limits.specs.Limits as limit
use Rattle.ge_spool.specs.Settled.{generation_of, format_of, record_count}
use Rattle.ge_spool.specs.declared.spool.Spool.{Spool}
use Rattle.ge_master.specs.Storing.{record_limit, last_generation, record_end, compacts, IsStored}

-- a journal that doesn't compact in a generation before the last has room for one record more
room-left : (format generation count end : ℕ)
    → (not (format == 2) || (not (generation == 2 ^ 64 - 1) && (nat_le 4095 count || nat_lt (2 ^ 30) end))) ≡ false
    → generation < 2 ^ 64 - 1 → (count < 4095) × (end ≤ 2 ^ 30)
room-left format generation count end roomy low = (grind (arith, nat_tests), grind (arith, nat_tests))

few-by : (compacting : Bool) (old new : Spool) (size snapshot_size : ℕ) → IsStored compacting old new size snapshot_size → (compacting ≡ false → record_count old < record_limit)
    → record_count new ≤ record_limit
few-by true old new size snapshot_size is few = omega (arith, is.count)
few-by false old new size snapshot_size is few = omega (arith, is.count, few refl)

-- what is stored leaves no more records than may stand
pub few-stored : (old new : Spool) (size snapshot_size : ℕ) → IsStored (compacts old size) old new size snapshot_size → generation_of old < last_generation
    → record_count new ≤ record_limit
few-stored old new size snapshot_size is low =
    few-by (compacts old size) old new size snapshot_size is
    (λ roomy. (room-left (format_of old) (generation_of old) (record_count old) (record_end old size) roomy low).0)

full-by : (compacting : Bool) (end size place : ℕ) → limit.area_bytes < place → place ≡ (if compacting then size else min end (2 ^ 64 - 1)) → (compacting ≡ false → end ≤ limit.area_bytes)
    → compacting ≡ true
full-by true end size place past is roomy = refl
full-by false end size place past is roomy = absurd (omega (arith, past, is, roomy refl))

-- before the last generation an area is full only where it compacts
pub compacts-full : (s : Spool) (size snapshot_end place : ℕ) → limit.area_bytes < place → place ≡ (if compacts s size then snapshot_end else min (record_end s size) (2 ^ 64 - 1))
    → generation_of s < last_generation → compacts s size ≡ true
compacts-full s size snapshot_end place past is low =
    full-by (compacts s size) (record_end s size) snapshot_end place past is
    (λ roomy. (room-left (format_of s) (generation_of s) (record_count s) (record_end s size) roomy low).1)
