-- Worked rows: sets of task numbers in their one form, their texts, and ranges as they are written.
use Rattle.std.specs.Prelude.{◌≡◌, ℕ, ◌+◌, ◌^◌, ◌-◌, true, false, ◌==◌, not, nat_lt, codes, List, [], ◌∷◌, Some, None, Ok, Err, refl}
use Rattle.std.specs.Fmt.{digits}
use Rattle.ge_model_rows.specs.TaskRows.{TaskSpan, is_form}
use Rattle.ge_model_rows.specs.declared.RangeFault.TheVariants.{Syntax, Limit}
use Rattle.ge_model_rows.specs.Sets.{has_number, first_number, next_number, count_of, numbers_of, first_numbers, set_of, with_number, without_number, filtered, union, meet, difference}
use Rattle.ge_model_rows.specs.Ranges.{range_of, reached, range_count, range_set, parsed_set}
use Rattle.ge_model_rows.specs.SetText.{set_text, range_text}

abbrev span : ℕ → ℕ → ℕ → TaskSpan
span first last step = record { first = first; last = last; step = step }

-- all numbers that a job may have
abbrev whole : List TaskSpan
whole = span 1 75000 1 ∷ []

-- the form: the longest run of neighbours from the least number on, then the next one

run_then_one : set_of (1 ∷ 2 ∷ 3 ∷ 5 ∷ []) ≡ span 1 3 1 ∷ span 5 5 1 ∷ []
run_then_one = refl

first_run_takes : set_of (1 ∷ 3 ∷ 4 ∷ 5 ∷ []) ≡ span 1 3 2 ∷ span 4 5 1 ∷ []
first_run_takes = refl

three_pairs : set_of (1 ∷ 2 ∷ 4 ∷ 5 ∷ 7 ∷ 8 ∷ []) ≡ span 1 2 1 ∷ span 4 5 1 ∷ span 7 8 1 ∷ []
three_pairs = refl

wide_pair_first : set_of (3 ∷ 10 ∷ 11 ∷ 12 ∷ 14 ∷ []) ≡ span 3 10 7 ∷ span 11 12 1 ∷ span 14 14 1 ∷ []
wide_pair_first = refl

one_number : set_of (4 ∷ []) ≡ span 4 4 1 ∷ []
one_number = refl

no_number : set_of [] ≡ []
no_number = refl

made_in_form : is_form (set_of (1 ∷ 3 ∷ 4 ∷ 5 ∷ 9 ∷ [])) ≡ true
made_in_form = refl

-- numbers of a set

odd_has : has_number 74999 (span 1 74999 2 ∷ []) ≡ true
odd_has = refl

odd_has_no_even : has_number 74998 (span 1 74999 2 ∷ []) ≡ false
odd_has_no_even = refl

least : first_number (span 3 9 3 ∷ span 11 11 1 ∷ []) ≡ Some 3
least = refl

next_inside : next_number 6 (span 3 9 3 ∷ span 11 11 1 ∷ []) ≡ Some 9
next_inside = refl

next_between : next_number 7 (span 3 9 3 ∷ span 11 11 1 ∷ []) ≡ Some 9
next_between = refl

next_span : next_number 9 (span 3 9 3 ∷ span 11 11 1 ∷ []) ≡ Some 11
next_span = refl

no_next : next_number 11 (span 3 9 3 ∷ span 11 11 1 ∷ []) ≡ None
no_next = refl

count_of_wide : count_of (span 1 75000 1 ∷ span 75002 75010 4 ∷ []) ≡ 75003
count_of_wide = refl

numbers_in_order : numbers_of (span 3 9 3 ∷ span 11 11 1 ∷ []) ≡ 3 ∷ 6 ∷ 9 ∷ 11 ∷ []
numbers_in_order = refl

first_of_many : first_numbers (λ n. nat_lt 10 n) 3 whole ≡ 11 ∷ 12 ∷ 13 ∷ []
first_of_many = refl

no_more_than_there_are : first_numbers (λ n. not (n == 6)) 9 (span 3 9 3 ∷ span 11 11 1 ∷ []) ≡ 3 ∷ 9 ∷ 11 ∷ []
no_more_than_there_are = refl

-- one number more, one less

without_first : without_number 1 whole ≡ span 2 75000 1 ∷ []
without_first = refl

without_last : without_number 75000 whole ≡ span 1 74999 1 ∷ []
without_last = refl

without_middle : without_number 500 whole ≡ span 1 499 1 ∷ span 501 75000 1 ∷ []
without_middle = refl

-- one number is left below, and it makes a pair with the next one
without_second : without_number 2 (span 1 5 1 ∷ []) ≡ span 1 3 2 ∷ span 4 5 1 ∷ []
without_second = refl

without_other : without_number 4 (span 1 9 2 ∷ []) ≡ span 1 9 2 ∷ []
without_other = refl

without_only : without_number 4 (span 4 4 1 ∷ []) ≡ []
without_only = refl

-- what follows may be made anew to the end
without_shifts_all : without_number 1 (span 1 2 1 ∷ span 4 5 1 ∷ span 7 8 1 ∷ []) ≡ span 2 4 2 ∷ span 5 7 2 ∷ span 8 8 1 ∷ []
without_shifts_all = refl

with_between : with_number 500 (span 1 499 1 ∷ span 501 75000 1 ∷ []) ≡ whole
with_between = refl

with_behind : with_number 6 (span 1 5 2 ∷ []) ≡ span 1 5 2 ∷ span 6 6 1 ∷ []
with_behind = refl

with_next : with_number 7 (span 1 5 2 ∷ []) ≡ span 1 7 2 ∷ []
with_next = refl

with_first : with_number 1 (span 2 75000 1 ∷ []) ≡ whole
with_first = refl

with_present : with_number 3 (span 1 5 2 ∷ []) ≡ span 1 5 2 ∷ []
with_present = refl

with_into_nothing : with_number 3 [] ≡ span 3 3 1 ∷ []
with_into_nothing = refl

-- sets together

filtered_out : filtered (λ n. not (n == 3)) (span 1 5 1 ∷ []) ≡ span 1 2 1 ∷ span 4 5 1 ∷ []
filtered_out = refl

two_halves : union (span 1 74999 2 ∷ []) (span 75000 75000 1 ∷ []) ≡ span 1 74999 2 ∷ span 75000 75000 1 ∷ []
two_halves = refl

overlap : union (span 1 50000 1 ∷ []) (span 20000 75000 1 ∷ []) ≡ whole
overlap = refl

odds_and_evens : union (span 1 9 2 ∷ []) (span 2 10 2 ∷ []) ≡ span 1 10 1 ∷ []
odds_and_evens = refl

both_at_once : meet whole (span 1 80000 1 ∷ []) ≡ whole
both_at_once = refl

thirds_and_fifths : meet (span 3 60 3 ∷ []) (span 5 60 5 ∷ []) ≡ span 15 60 15 ∷ []
thirds_and_fifths = refl

all_but_the_end : difference whole (span 3 80000 1 ∷ []) ≡ span 1 2 1 ∷ []
all_but_the_end = refl

all_but_odds : difference (span 1 10 1 ∷ []) (span 1 9 2 ∷ []) ≡ span 2 10 2 ∷ []
all_but_odds = refl

-- texts

text_of_spans : set_text (span 1 3 1 ∷ span 5 5 1 ∷ span 7 11 2 ∷ []) ≡ codes "1-3:1,5,7-11:2"
unfolding digits
text_of_spans = refl

text_of_nothing : set_text [] ≡ []
text_of_nothing = refl

text_of_one_number_range : range_text (span 5 5 3) ≡ codes "5-5:3"
unfolding digits
text_of_one_number_range = refl

-- ranges

bare : range_of (codes "5") ≡ Some (span 5 5 1)
bare = refl

from_to : range_of (codes "1-10") ≡ Some (span 1 10 1)
from_to = refl

in_steps : range_of (codes "01-4294967297:007") ≡ Some (span 1 4294967297 7)
in_steps = refl

off_zero : range_of (codes "0") ≡ None
off_zero = refl

off_order : range_of (codes "5-4") ≡ None
off_order = refl

off_step : range_of (codes "1-4:0") ≡ None
off_step = refl

off_nothing : range_of [] ≡ None
off_nothing = refl

off_step_alone : range_of (codes "5:2") ≡ None
off_step_alone = refl

off_empty_step : range_of (codes "1-5:") ≡ None
off_empty_step = refl

off_two_dashes : range_of (codes "1-2-3") ≡ None
off_two_dashes = refl

off_open_end : range_of (codes "3-") ≡ None
off_open_end = refl

-- the step stays as it is written, and the set has its own
reached_alone : reached (span 5 6 3) ≡ span 5 5 3
reached_alone = refl

reached_last : reached (span 1 10 4) ≡ span 1 9 4
reached_last = refl

counts : range_count (span 1 10 4) ≡ 3
counts = refl

set_alone : range_set (span 5 6 3) ≡ span 5 5 1 ∷ []
set_alone = refl

set_of_range : range_set (span 1 10 4) ≡ span 1 9 4 ∷ []
set_of_range = refl

set_cut : range_set (span 1 (2 ^ 40) (2 ^ 31)) ≡ span 1 (2 ^ 31 + 1) (2 ^ 31) ∷ []
set_cut = refl

set_cut_to_one : range_set (span 7 (2 ^ 40) (2 ^ 32)) ≡ span 7 7 1 ∷ []
set_cut_to_one = refl

set_past_the_end : range_set (span (2 ^ 32) (2 ^ 40) 1) ≡ []
set_past_the_end = refl

-- sets as they are written

parsed_one : parsed_set (codes "3") ≡ Ok (span 3 3 1 ∷ [])
unfolding parsed_set
parsed_one = refl

parsed_any_order : parsed_set (codes "7-9,1,2-8:3,3") ≡ Ok (span 1 3 1 ∷ span 5 7 2 ∷ span 8 9 1 ∷ [])
unfolding parsed_set
parsed_any_order = refl

parsed_nothing : parsed_set [] ≡ Err Syntax
unfolding parsed_set
parsed_nothing = refl

parsed_empty_piece : parsed_set (codes "1,,2") ≡ Err Syntax
unfolding parsed_set
parsed_empty_piece = refl

-- the grammar comes before the limits
parsed_both_faults : parsed_set (codes "1-80000,x") ≡ Err Syntax
unfolding parsed_set
parsed_both_faults = refl

parsed_most : parsed_set (codes "1-75000,2-75000,5-5:9") ≡ Ok whole
unfolding parsed_set
parsed_most = refl

parsed_one_too_many : parsed_set (codes "1-75000,75001") ≡ Err Limit
unfolding parsed_set
parsed_one_too_many = refl

parsed_too_many : parsed_set (codes "1-75001") ≡ Err Limit
unfolding parsed_set
parsed_too_many = refl

parsed_greatest : parsed_set (codes "2147483647") ≡ Ok (span (2 ^ 31 - 1) (2 ^ 31 - 1) 1 ∷ [])
unfolding parsed_set
parsed_greatest = refl

parsed_above : parsed_set (codes "2147483648") ≡ Err Limit
unfolding parsed_set
parsed_above = refl

-- a last number that no step reaches counts for nothing
parsed_unreached : parsed_set (codes "5-99999999999:99999999999") ≡ Ok (span 5 5 1 ∷ [])
unfolding parsed_set
parsed_unreached = refl
