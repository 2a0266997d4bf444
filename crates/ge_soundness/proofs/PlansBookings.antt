-- The plans of advance reservations: what they bring is new, or joined by no live job; and a job joins one that is there.
use Rattle.std.proofs.Common.{◌≡◌, ℕ, ◌^◌, ◌≤◌, ◌<◌, ◌==◌, ◌||◌, ◌&&◌, not, Bool, true, false, if◌then◌else◌, cond, List, [], ◌∷◌, ◌++◌, flat_map, fold, length, Option, Some, None, is_some, option_and_then, codes, refl, arith}
use Rattle.std.specs.Prelude.{IsTrue, nat_lt, nat_le, unwrap_or}
use Rattle.std.specs.BTreeMap.{is_at}
use Rattle.std.specs.List.{AllByRecursion, list_any}
use Rattle.std.specs.Ordering.{nat_cmp}
use Rattle.std.proofs.lemmas.Bool.{ltb-false, leb-false}
use Rattle.ge_base.specs.declared.refusal.Refusal.TheVariants.{NoSuchObject, NotPermitted, InUse, BadValue, Limit}
use Rattle.ge_collections.specs.Keyed.{text_eq, at_number}
use Rattle.ge_model_rows.specs.ClusterRows.{Cluster}
use Rattle.ge_model_rows.specs.EventRows.{Event}
use Rattle.ge_model_rows.specs.JobRows.{Grant, Advance}
use Rattle.ge_model_rows.specs.Faults.{when}
use Rattle.ge_model_rows.specs.Pieces.{with_one_number}
use Rattle.ge_model_rows.specs.Access.{is_operator}
use Rattle.ge_model_jobs.specs.Orderly.{has_key}
use Rattle.ge_model_jobs.specs.Starting.{is_joined}
use Rattle.ge_model_place.specs.Advances.{advance_grants}
use Rattle.ge_model_config.specs.Requests.{request_of}
use Rattle.ge_model_config.proofs.ReadBackNames.{both_empty}
use Rattle.ge_model_grammar.specs.Options.{Given, option_words}
use Rattle.ge_model_grammar.specs.Targets.{job_number_of}
use Rattle.ge_model_core.specs.OptionValues.{first_word}
use Rattle.ge_model_core.specs.JobAdvances.{no_request, advance_named, joined_faults, join_faults}
use Rattle.ge_model_core.specs.Booking.{advance_asked, time_faults, is_booked_out, book_faults, booked, book_plan, unbook_faults_of, unbook_faults, unbook_plan, show_booked_plan}
use Rattle.ge_soundness.proofs.ChangesBookings.{IsNewAdvance, AreUnjoined}
use Rattle.ge_soundness.proofs.PlansGranted.{granted_keeps}
use Rattle.ge_soundness.proofs.PlansAnswers.{EntryFits, unmet, entry_refused, entry_shown, entry_unless, entry_change, entry_where}

-- ---- qrsub

second_of : (a b c : Bool) → (a || b || c) ≡ false → b ≡ false
second_of a b c h = grind arith

third_of : (a b c : Bool) → (a || b || c) ≡ false → c ≡ false
third_of a b c h = grind arith

last_of_two : (a b : Bool) → (a || b) ≡ false → b ≡ false
last_of_two a b h = grind arith

-- one that is accepted is new, and ends before 2^40
asked_is_new : (c : Cluster) (e : Event) (options : Given) → book_faults c e options ≡ [] → IsNewAdvance c (advance_asked c e options) × ((advance_asked c e options).until < 2 ^ 40)
asked_is_new c e options none =
    let two = both_empty ((request_of c options no_request).1 ++ time_faults e.moment asked) (when (is_booked_out c) Limit) none in
    let one = both_empty (request_of c options no_request).1 (time_faults e.moment asked) two.0 in (
      record {
        in_range = ltb-false 4294967294 c.next_advance (last_of_two (nat_le 10000 (length c.advances)) _ (unmet (is_booked_out c) Limit two.1));
        ordered = leb-false asked.until asked.from (second_of (nat_lt asked.from e.moment) (nat_le asked.until asked.from) (nat_le (2 ^ 40) asked.until) (unmet _ BadValue one.1));
      },
      leb-false (2 ^ 40) asked.until (third_of (nat_lt asked.from e.moment) (nat_le asked.until asked.from) (nat_le (2 ^ 40) asked.until) (unmet _ BadValue one.1)),
    )
  where
    asked : Advance
    asked = advance_asked c e options

-- granted slots, it is booked
granted_entry : (c : Cluster) (e : Event) (options : Given) (grants : Option (List Grant)) → c.last ≤ e.moment → book_faults c e options ≡ []
    → advance_grants c e.moment (advance_asked c e options) ≡ grants → EntryFits c (booked c e (advance_asked c e options) grants)
unfolding EntryFits
granted_entry c e options None later none is = entry_refused c Limit
granted_entry c e options (Some grants) later none is =
    let new = asked_is_new c e options none in
    (later, (record { in_range = new.0.in_range; ordered = new.0.ordered }, granted_keeps c options e.moment (advance_asked c e options) grants refl new.0.ordered new.1 is))

pub book_entry : (c : Cluster) (e : Event) (options : Given) → c.last ≤ e.moment → EntryFits c (book_plan c e options)
unfolding book_plan
book_entry c e options later =
    let asked = advance_asked c e options in
    entry_unless c (book_faults c e options) (booked c e asked (advance_grants c e.moment asked)) (λ none. granted_entry c e options (advance_grants c e.moment asked) later none refl)

-- ---- qrdel

-- one that is accepted is joined by no live job
unbook_unjoined : (c : Cluster) (e : Event) (number : ℕ) → unbook_faults c e number ≡ [] → is_joined c.jobs number ≡ false
unbook_unjoined c e number none = by (at_number c.advances number) none
  where
    by : (found : Option Advance) → unbook_faults_of c e number found ≡ [] → is_joined c.jobs number ≡ false
    by None none = absurd (let h : NoSuchObject ∷ [] ≡ [] = none in cc)
    by (Some advance) none = unmet (is_joined c.jobs number) InUse (both_empty (when (not (text_eq advance.owner e.user) && not (is_operator c e.user)) NotPermitted) _ none).1

all_unjoined : (c : Cluster) (e : Event) (numbers : List ℕ) → flat_map (unbook_faults c e) numbers ≡ [] → AreUnjoined c.jobs numbers
all_unjoined c e [] none = tt
all_unjoined c e (n ∷ numbers) none =
    let parts = both_empty (unbook_faults c e n) (flat_map (unbook_faults c e) numbers) none in (unbook_unjoined c e n parts.0, all_unjoined c e numbers parts.1)

-- each once
once_all : (P : ℕ → Type 0) (so_far numbers : List ℕ) → AllByRecursion P so_far → AllByRecursion P numbers → AllByRecursion P (fold with_one_number so_far numbers)
once_all P so_far [] before all = before
once_all P so_far (n ∷ numbers) before all = once_all P (with_one_number so_far n) numbers (by (list_any (λ m. m == n) so_far)) all.1
  where
    more : (xs : List ℕ) → AllByRecursion P xs → AllByRecursion P (xs ++ n ∷ [])
    more [] before = (all.0, tt)
    more (x ∷ xs) before = (before.0, more xs before.1)

    by : (there : Bool) → AllByRecursion P (if there then so_far else so_far ++ n ∷ [])
    by true = before
    by false = more so_far before

pub unbook_entry : (c : Cluster) (e : Event) (numbers : List ℕ) → c.last ≤ e.moment → EntryFits c (unbook_plan c e numbers)
unfolding unbook_plan
unbook_entry c e numbers later =
    entry_change c e (flat_map (unbook_faults c e) numbers) _ _ later (λ none. once_all (λ n. is_joined c.jobs n ≡ false) [] numbers tt (all_unjoined c e numbers none))

-- ---- qrstat

pub show_booked_entry : (c : Cluster) (e : Event) (one : Option ℕ) → EntryFits c (show_booked_plan c e one)
unfolding show_booked_plan
show_booked_entry c e None = entry_shown c _
show_booked_entry c e (Some number) = entry_where c (is_some (at_number c.advances number)) _ NoSuchObject (entry_shown c _)

-- ---- qsub -ar

-- a number that a table has is one of its keys
found_key : (n : ℕ) (rows : List (ℕ × Advance)) → is_some (at_number rows n) ≡ true → has_key n rows ≡ true
found_key n [] found = found
found_key n (row ∷ rows) found = by (is_at (nat_cmp n) row.0) refl found (found_key n rows)
  where
    same : is_at (nat_cmp n) row.0 ≡ true → (n == row.0) ≡ true
    same h = grind arith

    or_behind : (a b : Bool) → b ≡ true → (a || b) ≡ true
    or_behind a b h = grind arith

    or_here : (a b : Bool) → a ≡ true → (a || b) ≡ true
    or_here a b h = grind arith

    by : (here : Bool) → is_at (nat_cmp n) row.0 ≡ here → is_some (cond here (Some row.1) (at_number rows n)) ≡ true → (is_some (at_number rows n) ≡ true → has_key n rows ≡ true) → has_key n (row ∷ rows) ≡ true
    by true is found again = or_here (n == row.0) (has_key n rows) (same is)
    by false is found again = or_behind (n == row.0) (has_key n rows) (again found)

-- a submission that is accepted joins no advance reservation, or one that is there
pub joins_one : (c : Cluster) (e : Event) (options : Given) → join_faults c e options ≡ [] → IsTrue (advance_named options == 0 || has_key (advance_named options) c.advances)
joins_one c e options none = by (option_words options (codes "-ar")) none
  where
    there : (number : ℕ) (found : Option Advance) → at_number c.advances number ≡ found → joined_faults c e options found ≡ [] → has_key number c.advances ≡ true
    there number None is none = absurd (let h : NoSuchObject ∷ [] ≡ [] = none in cc)
    there number (Some advance) is none = found_key number c.advances (rw is refl)

    behind : (a b : Bool) → b ≡ true → (a || b) ≡ true
    behind a b h = grind arith

    by : (words : Option (List (List ℕ)))
        → (if is_some words then joined_faults c e options (at_number c.advances (unwrap_or (option_and_then job_number_of (option_and_then first_word words)) 0)) else []) ≡ []
        → (unwrap_or (option_and_then job_number_of (option_and_then first_word words)) 0 == 0 || has_key (unwrap_or (option_and_then job_number_of (option_and_then first_word words)) 0) c.advances) ≡ true
    by None none = refl
    by (Some words) none =
        let number = unwrap_or (option_and_then job_number_of (first_word words)) 0 in behind (number == 0) (has_key number c.advances) (there number (at_number c.advances number) refl none)
