-- Ranges that are read.
use Rattle.std.specs.Prelude.{Bool, ◌&&◌, nat_le}
use Rattle.ge_commands.specs.declared.ranges.WideRange.{WideRange}

-- the least number and the step are at least 1, and the greatest isn't below the least
abbrev pub is_real : WideRange → Bool
is_real r = nat_le 1 r.low && nat_le r.low r.high && nat_le 1 r.by
