-- A set that is being made from spans that come from the least number on.
use Rattle.std.specs.Prelude.{ℕ, ◌+◌, Bool, true, ◌||◌, ◌&&◌, nat_lt, nat_le, List, [], ◌∷◌, Option, Some, None}
use Rattle.std.specs.List.{list_all}
use Rattle.ge_model_rows.specs.TaskRows.{TaskSpan}
use Rattle.ge_model_rows.specs.Spans.{is_one, runs_from, in_form}

-- what the run that is being made and the spans to come make
abbrev pub formed_from : Option TaskSpan → List TaskSpan → List TaskSpan
formed_from None rest = in_form rest
formed_from (Some run) rest = runs_from run rest

-- a span that has a number behind its first has its second
abbrev pub has_second : TaskSpan → Bool
has_second s = is_one s || nat_le (s.first + s.step) s.last

abbrev pub have_seconds : List TaskSpan → Bool
have_seconds spans = list_all has_second spans

-- the first of items and those behind it
abbrev pub parted : {T : Type 0} → List T → Option (T × List T)
parted [] = None
parted (item ∷ items) = Some (item, items)

-- whether numbers rise above a number, each above the one before it
abbrev pub is_rising : ℕ → List ℕ → Bool
is_rising low [] = true
is_rising low (n ∷ rest) = nat_lt low n && is_rising n rest
