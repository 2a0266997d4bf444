-- The numbers that two sets have both, found span by span: two spans share the numbers from the first one that both have
-- on, by the distance of that and the next one that both have.
use Rattle.std.specs.Prelude.{ℕ, zero, suc, ◌+◌, ◌-◌, min, if◌then◌else◌, nat_lt, nat_le, List, [], ◌∷◌, ◌++◌, Option, Some, None}
use Rattle.ge_model_rows.specs.TaskRows.{TaskSpan}
use Rattle.ge_model_rows.specs.Spans.{one, in_span, stretch, above_in}

-- from a number on, by a step and up to a last one, the first that a span has; so many numbers are looked at
abbrev pub first_inside : ℕ → TaskSpan → ℕ → ℕ → ℕ → Option ℕ
first_inside zero span n last step = None
first_inside (suc turns) span n last step =
    if in_span n span then Some n else (if nat_lt (last - n) step then None else first_inside turns span (n + step) last step)

-- the first number of a part of a span, if there is one, that another span has. The numbers of the part fall on the same
-- places between that span's steps again after as many of them as its step
abbrev pub first_in_part : TaskSpan → List TaskSpan → Option ℕ
first_in_part span [] = None
first_in_part span (part ∷ parts) = first_inside span.step span part.first part.last part.step

-- the first number above one that two spans share
abbrev pub next_shared : TaskSpan → TaskSpan → ℕ → Option ℕ
next_shared span other n = first_in_part span (above_in n other)

-- the numbers up to a bound from a first one on that two spans share, by the next one that they share
abbrev pub shared_on : ℕ → ℕ → Option ℕ → List TaskSpan
shared_on first bound None = one first ∷ []
shared_on first bound (Some second) = stretch first bound (second - first)

abbrev pub shared_from : TaskSpan → TaskSpan → Option ℕ → List TaskSpan
shared_from span other None = []
shared_from span other (Some first) = shared_on first (min span.last other.last) (next_shared span other first)

-- the numbers that two spans share, the first one's step being no greater
abbrev pub shared_by : TaskSpan → TaskSpan → List TaskSpan
shared_by span other = shared_from span other (next_shared span other (span.first - 1))

abbrev pub shared_part : TaskSpan → TaskSpan → List TaskSpan
shared_part s t = if nat_le s.step t.step then shared_by s t else shared_by t s

-- a span beside those of a set, up to one that reaches as far; then the spans behind it
abbrev pub meet_one : TaskSpan → (List TaskSpan → List TaskSpan) → List TaskSpan → List TaskSpan
meet_one s behind [] = []
meet_one s behind (t ∷ others) = shared_part s t ++ (if nat_le s.last t.last then behind (t ∷ others) else meet_one s behind others)

-- the numbers that the spans of two sets share
abbrev pub met : List TaskSpan → List TaskSpan → List TaskSpan
met [] others = []
met (s ∷ spans) others = meet_one s (met spans) others
