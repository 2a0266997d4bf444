-- Spans of task numbers: their numbers, their parts, and the form of what they hold together.
use Rattle.std.specs.Prelude.{ℕ, zero, suc, ◌+◌, ◌-◌, ◌*◌, ◌/◌, ◌%◌, ◌==◌, min, Bool, true, false, ◌&&◌, ◌||◌, if◌then◌else◌, nat_lt, nat_le, List, [], ◌∷◌}
use Rattle.ge_model_rows.specs.TaskRows.{TaskSpan}

-- from a first number to a last one by a step, which is 1 where there is one number
abbrev pub span_of : ℕ → ℕ → ℕ → TaskSpan
span_of first last step = record { first = first; last = last; step = if first == last then 1 else step }

-- one number
abbrev pub one : ℕ → TaskSpan
one n = record { first = n; last = n; step = 1 }

abbrev pub is_one : TaskSpan → Bool
is_one s = s.first == s.last

-- whether a number lies in a span: from the first to the last, in steps
abbrev pub in_span : ℕ → TaskSpan → Bool
in_span n s = nat_le s.first n && nat_le n s.last && (n - s.first) % s.step == 0

-- how many steps lead from the first number to the last
abbrev pub steps_of : TaskSpan → ℕ
steps_of s = (s.last - s.first) / s.step

-- so many numbers from a first one on, by a step
abbrev pub stepping : ℕ → ℕ → ℕ → List ℕ
stepping zero first step = []
stepping (suc more) first step = first ∷ stepping more (first + step) step

-- the numbers of a span, rising
abbrev pub span_numbers : TaskSpan → List ℕ
span_numbers s = stepping (steps_of s + 1) s.first s.step

-- the numbers from a first one by a step that aren't above a bound, as a span if there are any
abbrev pub stretch : ℕ → ℕ → ℕ → List TaskSpan
stretch first bound step = if nat_lt bound first then [] else span_of first (first + (bound - first) / step * step) step ∷ []

-- the part of a span below a number, and the part above one
abbrev pub below_in : ℕ → TaskSpan → List TaskSpan
below_in n s = if nat_lt s.first n then stretch s.first (min s.last (n - 1)) s.step else []

abbrev pub above_in : ℕ → TaskSpan → List TaskSpan
above_in n s = if nat_lt n s.first then s ∷ [] else stretch (s.first + ((n - s.first) / s.step + 1) * s.step) s.last s.step

-- whether a number goes on with a run: it is the second one, or stands one step behind the last
abbrev pub run_goes_on : TaskSpan → ℕ → Bool
run_goes_on run n = is_one run || n - run.last == run.step

-- a run with a number behind it
abbrev pub lengthened : TaskSpan → ℕ → TaskSpan
lengthened run n = record { first = run.first; last = n; step = n - run.last }

-- what a span has behind its first number, which isn't its last
abbrev pub behind_first : TaskSpan → TaskSpan
behind_first s = span_of (s.first + s.step) s.last s.step

-- a run that is being made and spans whose numbers rise above it, as runs each of which is as long as it can be
abbrev pub runs_from : TaskSpan → List TaskSpan → List TaskSpan
runs_from run [] = run ∷ []
runs_from run (s ∷ rest) = elim (run_goes_on run s.first) [
  | true ↦ elim (is_one s) [
    | true ↦ runs_from (lengthened run s.first) rest
    | false ↦ elim (s.first - run.last == s.step) [
      | true ↦ runs_from (record s { first = run.first }) rest
      | false ↦ lengthened run s.first ∷ runs_from (behind_first s) rest
    ]
  ]
  | false ↦ run ∷ runs_from s rest
]

-- the numbers of spans, each span above the one before it, in the one form of a set: from the least number on, the longest
-- run of neighbours with one same difference is a span
abbrev pub in_form : List TaskSpan → List TaskSpan
in_form [] = []
in_form (s ∷ rest) = runs_from s rest
