-- An image of a disk, drawn by the linear congruential generator of the scripts that are made up.
use Rattle.std.specs.Prelude.{ℕ, zero, suc, ◌+◌, ◌-◌, ◌*◌, ◌/◌, ◌%◌, ◌^◌, min, Bool, ◌==◌, ◌&&◌, ◌||◌, nat_le, nat_lt, if◌then◌else◌, List, [], ◌∷◌, length, slice_index}
use Rattle.std.specs.List.{list_any}
use Rattle.ge_model_journal.specs.Disk.{Content}

-- the state after one draw more
abbrev pub next_state : ℕ → ℕ
next_state state = (1103515245 * state + 12345) % 2 ^ 31

-- the number below a bound that a state gives
abbrev pub drawn : ℕ → ℕ → ℕ
drawn state bound = state / 65536 % bound

-- a place lies in a range
abbrev pub range_has : ℕ × ℕ → ℕ → Bool
range_has range place = nat_le range.0 place && nat_lt place (range.0 + range.1)

-- a stop may leave any byte at a place: it was written since the last sync, or lies past what was synced
abbrev pub is_pending : Content → ℕ → Bool
is_pending c place = nat_le (length c.synced) place || list_any (λ range. range_has range place) c.pending

-- The byte at a place, and the state after it. Where any byte may stand one draw of three chooses the byte before the writes,
-- the last one written, or one more draw.
unfoldable pub drawn_byte : Content → ℕ → ℕ → ℕ × ℕ
drawn_byte c state place = if is_pending c place then chosen_byte else (slice_index c.synced place, state)
  where
    next : ℕ
    next = next_state state

    chosen_byte : ℕ × ℕ
    chosen_byte =
        if drawn next 3 == 0 then (slice_index c.synced place, next)
        else (if drawn next 3 == 1 then (slice_index c.bytes place, next) else (drawn (next_state next) 256, next_state next))

-- as many bytes, from a place on
abbrev pub drawn_bytes : Content → ℕ → ℕ → ℕ → List ℕ
drawn_bytes c state place zero = []
drawn_bytes c state place (suc count) = (drawn_byte c state place).0 ∷ drawn_bytes c (drawn_byte c state place).1 (place + 1) count

-- how many bytes: one of the lengths that a stop may leave, of which the first 32,768 are drawn from
abbrev pub drawn_length : Content → ℕ → ℕ
drawn_length c state = length c.synced + drawn state (min (c.longest - length c.synced + 1) 32768)

-- the image that a pick draws
unfoldable pub drawn_image : Content → ℕ → List ℕ
drawn_image c pick = drawn_bytes c (next_state (pick % 2 ^ 31)) 0 (drawn_length c (next_state (pick % 2 ^ 31)))
