-- What a clock in memory will answer.
use Rattle.std.specs.Prelude.{ℕ, ◌-◌, List, drop, length, slice_index}
use Rattle.ge_outside.specs.Clocks.{Answers}
use Rattle.ge_outside.specs.declared.memory_clocks.MemClock.{MemClock}

abbrev pub clock_answers : MemClock → Answers
clock_answers c = record { coming = drop c.at c.moments.items; at_last = c.at_last }

-- the last of a list of numbers, or 0 where it is empty
abbrev pub last_or_zero : List ℕ → ℕ
last_or_zero moments = slice_index moments (length moments - 1)
