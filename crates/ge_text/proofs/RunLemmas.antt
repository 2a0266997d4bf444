-- Runs of the machine, and that it reads each text of the grammar.
use Rattle.std.proofs.Common.{◌≡◌, ℕ, suc, ◌+◌, ◌-◌, ◌*◌, ◌<◌, ◌≤◌, true, nat_lt, List, [], ◌∷◌, ◌++◌, length, refl, ap, ◌∙◌, arith, Option, Some, None, Err}
use Rattle.std.proofs.lemmas.Bool.{and_parts, lt-ltb, cond-true}
use Rattle.ge_model_text.specs.declared.Form.{Form}
use Rattle.ge_model_text.specs.declared.Form.TheVariants.{Time}
use Rattle.ge_model_text.specs.declared.Progress.{Progress}
use Rattle.ge_model_text.specs.declared.Progress.TheVariants.{Start, Whole, Minutes, Seconds, Part}
use Rattle.ge_model_text.specs.declared.ValueFault.TheVariants.{Digit}
use Rattle.ge_model_text.specs.Value.{is_digit, AreDigits, IsNumber, number, unit_at, millionths_from}
use Rattle.ge_model_text.specs.Reading.{amount_cut, appended, next, if_occurs, reading_from, occurs}
use Rattle.ge_text.proofs.NumberLemmas.{cut_after, cut_after-cut, part_uncut, digit_counts}

-- where the machine is after these bytes
abbrev pub run : Form → Progress → List ℕ → Option Progress
run form progress [] = Some progress
run form progress (b ∷ rest) = elim (next form progress b) [ None ↦ None | Some after ↦ run form after rest ]

one_by : (form : Form) (rest : List ℕ) (o : Option Progress) (after : Progress) → o ≡ Some after → elim o [ None ↦ None | Some p ↦ run form p rest ] ≡ run form after rest
one_by form rest o after is = rw is refl

pub run-one : (form : Form) (progress after : Progress) (b : ℕ) (rest : List ℕ) → next form progress b ≡ Some after → run form progress (b ∷ rest) ≡ run form after rest
run-one form progress after b rest is = one_by form rest (next form progress b) after is

run_on_by : (form : Form) (o : Option Progress) (front more : List ℕ) (after : Progress)
    → elim o [ None ↦ None | Some p ↦ run form p front ] ≡ Some after
    → ((p : Progress) → run form p front ≡ Some after → run form p (front ++ more) ≡ run form after more)
    → elim o [ None ↦ None | Some p ↦ run form p (front ++ more) ] ≡ run form after more
run_on_by form None front more after is later = absurd (cc)
run_on_by form (Some p) front more after is later = later p is

pub run-append : (form : Form) (progress after : Progress) (front more : List ℕ) → run form progress front ≡ Some after → run form progress (front ++ more) ≡ run form after more
run-append form progress after [] more is =
    let same : progress ≡ after = cc in ap (λ p. run form p more) same
run-append form progress after (b ∷ front) more is =
    run_on_by form (next form progress b) front more after is (λ p there. run-append form p after front more there)

read_on_by : (form : Form) (place : ℕ) (o : Option Progress) (front more : List ℕ) (after : Progress)
    → elim o [ None ↦ None | Some p ↦ run form p front ] ≡ Some after
    → ((p : Progress) → run form p front ≡ Some after → reading_from form p (place + 1) (front ++ more) ≡ reading_from form after (place + suc (length front)) more)
    → elim o [ None ↦ Err (Digit place) | Some p ↦ reading_from form p (place + 1) (front ++ more) ] ≡ reading_from form after (place + suc (length front)) more
read_on_by form place None front more after is later = absurd (cc)
read_on_by form place (Some p) front more after is later = later p is

shifted : (place size : ℕ) → place + 1 + size ≡ place + suc size
shifted place size = omega arith

-- what was read is passed over
pub reading_from-append : (form : Form) (progress after : Progress) (place : ℕ) (front more : List ℕ) → run form progress front ≡ Some after
    → reading_from form progress place (front ++ more) ≡ reading_from form after (place + length front) more
reading_from-append form progress after place [] more is =
    let same : progress ≡ after = cc in
    let here : place ≡ place + length {A = ℕ} [] = omega arith in
    ap (λ p. reading_from form p place more) same ∙ ap (λ n. reading_from form after n more) here
reading_from-append form progress after place (b ∷ front) more is =
    read_on_by form place (next form progress b) front more after is
    (λ p there. reading_from-append form p after (place + 1) front more there ∙ ap (λ n. reading_from form after n more) (shifted place (length front)))

-- digits

start_digit : (form : Form) (b : ℕ) → is_digit b ≡ true → next form Start b ≡ Some (Whole (appended 0 b))
start_digit form b digit = ap (λ o. if_occurs form o) (cond-true (is_digit b) (Some (Whole (appended 0 b))) _ digit)

whole_digit : (form : Form) (n b : ℕ) → is_digit b ≡ true → next form (Whole n) b ≡ Some (Whole (appended n b))
whole_digit form n b digit = ap (λ o. if_occurs form o) (cond-true (is_digit b) (Some (Whole (appended n b))) _ digit)

minutes_digit : (hours n b : ℕ) → is_digit b ≡ true → next Time (Minutes hours n) b ≡ Some (Minutes hours (appended n b))
minutes_digit hours n b digit = ap (λ o. if_occurs Time o) (cond-true (is_digit b) (Some (Minutes hours (appended n b))) _ digit)

seconds_digit : (hours minutes n b : ℕ) → is_digit b ≡ true → next Time (Seconds hours minutes n) b ≡ Some (Seconds hours minutes (appended n b))
seconds_digit hours minutes n b digit = ap (λ o. if_occurs Time o) (cond-true (is_digit b) (Some (Seconds hours minutes (appended n b))) _ digit)

run_whole : (form : Form) (n : ℕ) (digits : List ℕ) → AreDigits digits → run form (Whole n) digits ≡ Some (Whole (cut_after n digits))
run_whole form n [] are = refl
run_whole form n (b ∷ rest) are =
    let parts = and_parts (is_digit b) _ are in
    run-one form (Whole n) (Whole (appended n b)) b rest (whole_digit form n b parts.0) ∙ run_whole form (appended n b) rest parts.1

run_minutes : (hours n : ℕ) (digits : List ℕ) → AreDigits digits → run Time (Minutes hours n) digits ≡ Some (Minutes hours (cut_after n digits))
run_minutes hours n [] are = refl
run_minutes hours n (b ∷ rest) are =
    let parts = and_parts (is_digit b) _ are in
    run-one Time (Minutes hours n) (Minutes hours (appended n b)) b rest (minutes_digit hours n b parts.0) ∙ run_minutes hours (appended n b) rest parts.1

run_seconds : (hours minutes n : ℕ) (digits : List ℕ) → AreDigits digits → run Time (Seconds hours minutes n) digits ≡ Some (Seconds hours minutes (cut_after n digits))
run_seconds hours minutes n [] are = refl
run_seconds hours minutes n (b ∷ rest) are =
    let parts = and_parts (is_digit b) _ are in
    run-one Time (Seconds hours minutes n) (Seconds hours minutes (appended n b)) b rest (seconds_digit hours minutes n b parts.0) ∙ run_seconds hours minutes (appended n b) rest parts.1

pub run_start : (form : Form) (digits : List ℕ) → IsNumber digits → run form Start digits ≡ Some (Whole (amount_cut (number digits)))
run_start form [] is = absurd (let some : 0 < 0 = is.some in omega arith)
run_start form (b ∷ rest) is =
    let parts = and_parts (is_digit b) _ is.digits in
    run-one form Start (Whole (appended 0 b)) b rest (start_digit form b parts.0)
    ∙ (run_whole form (appended 0 b) rest parts.1 ∙ ap (λ n. Some (Whole n)) (cut_after-cut 0 (b ∷ rest)))

-- a clock

run_hours : (hours rest : List ℕ) → AreDigits hours → run Time Start (hours ++ 58 ∷ rest) ≡ run Time (Minutes (amount_cut (number hours)) 0) rest
run_hours [] rest are = run-one Time Start (Minutes 0 0) 58 rest refl
run_hours (b ∷ more) rest are =
    run-append Time Start (Whole (amount_cut (number (b ∷ more)))) (b ∷ more) (58 ∷ rest) (run_start Time (b ∷ more) (record { digits = are; some = omega arith }))
    ∙ run-one Time (Whole (amount_cut (number (b ∷ more)))) (Minutes (amount_cut (number (b ∷ more))) 0) 58 rest refl

pub run_clock : (hours minutes rest : List ℕ) → AreDigits hours → AreDigits minutes → AreDigits rest
    → run Time Start (hours ++ 58 ∷ (minutes ++ 58 ∷ rest)) ≡ Some (Seconds (amount_cut (number hours)) (amount_cut (number minutes)) (amount_cut (number rest)))
run_clock hours minutes rest first second third =
    let h : ℕ = amount_cut (number hours) in
    let m : ℕ = amount_cut (number minutes) in
    run_hours hours (minutes ++ 58 ∷ rest) first
    ∙ (run-append Time (Minutes h 0) (Minutes h m) minutes (58 ∷ rest) (run_minutes h 0 minutes second ∙ ap (λ n. Some (Minutes h n)) (cut_after-cut 0 minutes))
    ∙ (run-one Time (Minutes h m) (Seconds h m 0) 58 rest refl
    ∙ (run_seconds h m 0 rest third ∙ ap (λ n. Some (Seconds h m n)) (cut_after-cut 0 rest))))

-- a fraction

-- a form has fractions
abbrev pub HasFractions : Form → Type 0
HasFractions form = (whole millionths count : ℕ) → occurs (Part whole millionths count) form ≡ true

part_digit : (form : Form) (whole millionths count b : ℕ) → HasFractions form → is_digit b ≡ true → millionths ≤ 900000 * count → count < 6
    → next form (Part whole millionths count) b ≡ Some (Part whole (millionths + (b - 48) * unit_at count) (count + 1))
part_digit form whole millionths count b has digit low few =
    let after : ℕ = amount_cut (millionths + (b - 48) * unit_at count) in
    ap (λ o. if_occurs form o) (cond-true (is_digit b) _ _ digit ∙ cond-true (nat_lt count 6) (Some (Part whole after (count + 1))) None (lt-ltb count 6 few))
    ∙ (cond-true (occurs (Part whole after (count + 1)) form) (Some (Part whole after (count + 1))) None (has whole after (count + 1))
    ∙ ap (λ n. Some (Part whole n (count + 1))) (part_uncut millionths count b low (omega arith) digit))

same_part : (whole m n j k : ℕ) → m ≡ n → j ≡ k → Some (Part whole m j) ≡ Some (Part whole n k)
same_part whole m n j k p q = cc

pub run_part : (form : Form) (whole millionths count : ℕ) (digits : List ℕ) → HasFractions form → AreDigits digits → millionths ≤ 900000 * count → count + length digits ≤ 6
    → run form (Part whole millionths count) digits ≡ Some (Part whole (millionths + millionths_from count digits) (count + length digits))
run_part form whole millionths count [] has are low few = same_part whole millionths (millionths + 0) count (count + length {A = ℕ} []) (omega arith) (omega arith)
run_part form whole millionths count (b ∷ rest) has are low few =
    let parts = and_parts (is_digit b) _ are in
    let here : (b - 48) * unit_at count ≤ 900000 = digit_counts b count parts.0 in
    let after : ℕ = millionths + (b - 48) * unit_at count in
    run-one form (Part whole millionths count) (Part whole after (count + 1)) b rest (part_digit form whole millionths count b has parts.0 low (omega arith))
    ∙ (run_part form whole after (count + 1) rest has parts.1 (omega arith) (omega arith)
    ∙ same_part whole (after + millionths_from (count + 1) rest) (millionths + ((b - 48) * unit_at count + millionths_from (count + 1) rest)) (count + 1 + length rest) (count + suc (length rest)) (omega arith) (omega arith))
