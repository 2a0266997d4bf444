-- The bytes of a daemon: its fields, one behind the other. What it keeps of a serial is written as an option is: 0 where its task is
-- claimed, or 1 and the end.
use Rattle.std.specs.Prelude.{ℕ, List, Option, Some, None}
use Rattle.std.specs.Ordering.{nat_cmp}
use Rattle.ge_model_codec.specs.Code.{Code, u32_code, u64_code, text_code, option_code, table_code, pair_code, triple_code, quadruple_code, row_code}
use Rattle.ge_execd.specs.declared.daemon.Daemon.{Daemon}
use Rattle.ge_execd.specs.declared.rows.Stage.{Stage}
use Rattle.ge_execd.specs.declared.rows.Stage.TheVariants.{Claimed, Ended}

-- exit, cpu, mem and io
abbrev pub End : Type 0
End = ℕ × ℕ × ℕ × ℕ

abbrev pub end_in : Stage → Option End
end_in Claimed = None
end_in (Ended exit cpu mem io) = Some (exit, cpu, mem, io)

abbrev pub stage_of : Option End → Stage
stage_of None = Claimed
stage_of (Some end) = Ended end.0 end.1 end.2 end.3

abbrev pub stage_code : Code Stage
stage_code = row_code (option_code (quadruple_code u32_code u64_code u64_code u64_code)) end_in stage_of

-- the greatest serial that was named, and what is kept of serials
abbrev pub kept_code : Code (ℕ × List (ℕ × Stage))
kept_code = pair_code u64_code (table_code nat_cmp u64_code stage_code)

-- the host, the greatest serial that was named, and what is kept of serials
abbrev pub DaemonParts : Type 0
DaemonParts = List ℕ × ℕ × List (ℕ × Stage)

abbrev pub daemon_parts : Daemon → DaemonParts
daemon_parts d = (d.host, d.seen, d.tasks)

abbrev pub daemon_of : DaemonParts → Daemon
daemon_of parts = record { host = parts.0; seen = parts.1; tasks = parts.2 }

abbrev pub daemon_code : Code Daemon
daemon_code = row_code (triple_code text_code u64_code (table_code nat_cmp u64_code stage_code)) daemon_parts daemon_of
