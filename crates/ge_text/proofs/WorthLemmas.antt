-- What the bytes that the machine read are worth, and how they go on to a text of the form.
use Rattle.std.proofs.Common.{◌≡◌, ℕ, ◌+◌, ◌*◌, Bool, true, false, cond, ◌==◌, List, [], ◌∷◌, ◌++◌, length, take, drop, refl, ap, sym, subst, ◌∙◌, arith, append_assoc, append-nil, length-append, Some, None, IfSome, lit≤, lit<}
use Rattle.std.proofs.lemmas.List.{take-append-drop}
use Rattle.std.proofs.lemmas.Bool.{eqb-true}
use Rattle.ge_model_text.specs.declared.Form.{Form}
use Rattle.ge_model_text.specs.declared.Form.TheVariants.{Int, Time, Memory, Fixed}
use Rattle.ge_model_text.specs.declared.Progress.{Progress}
use Rattle.ge_model_text.specs.declared.Progress.TheVariants.{Start, Whole, Minutes, Seconds, Part, Multiple, Letters}
use Rattle.ge_model_text.specs.Value.{IsFixed, WithoutFraction, WithFraction, InSeconds, ByTheClock, WithoutEnd, InBytes, InMultiples, WithoutLimit, IsWorth, number, millionths_from, scaled, infinity_word, endless}
use Rattle.ge_model_text.specs.Reading.{amount_cut, occurs, whole_amount, part_amount, amount_done, Begins}
use Rattle.ge_text.proofs.NumberLemmas.{AreDigits-append}
use Rattle.ge_text.proofs.ReadLemmas.{HasRead, HasWhole, HasMinutes, HasSeconds, HasPart, HasMultiple, HasLetters, part_fixed}

-- the text is worth an amount, and this is the amount or 2^48
abbrev pub Worth : Form → List ℕ → ℕ → Type 0
Worth form text value = (amount : ℕ) × IsWorth form text amount × (value ≡ amount_cut amount)

worth_whole : (form : Form) (text : List ℕ) (n : ℕ) → HasWhole text n → Worth form text (whole_amount form n)
worth_whole Int text n has = (number text, record { digits = has.digits; value = refl }, has.value)
worth_whole Time text n has = (number text, InSeconds (record { digits = has.digits; value = refl }), has.value)
worth_whole Memory text n has =
    let value : n ≡ amount_cut (number text) = has.value in
    (scaled (1000000 * number text) 1, InBytes (1000000 * number text) (WithoutFraction has.digits refl) refl, omega arith)
worth_whole Fixed text n has =
    let value : n ≡ amount_cut (number text) = has.value in
    (1000000 * number text, WithoutFraction has.digits refl, omega arith)

worth_seconds : (text : List ℕ) (hours minutes seconds : ℕ) → HasSeconds text hours minutes seconds → Worth Time text (amount_cut (3600 * hours + 60 * minutes + seconds))
worth_seconds text hours minutes seconds has =
    let first : hours ≡ amount_cut (number has.first) = has.first_value in
    let second : minutes ≡ amount_cut (number has.second) = has.second_value in
    let third : seconds ≡ amount_cut (number has.third) = has.third_value in (
      3600 * number has.first + 60 * number has.second + number has.third,
      ByTheClock (record {
        hours = has.first;
        minutes = has.second;
        rest = has.third;
        spelled = has.spelled;
        hours_digits = has.first_digits;
        minutes_digits = has.second_digits;
        rest_digits = has.third_digits;
        value = refl;
      }),
      omega arith,
    )

worth_part : (form : Form) (text : List ℕ) (whole millionths count : ℕ) (none : Bool) → HasPart text whole millionths count → occurs (Part whole millionths count) form ≡ true
    → (count == 0) ≡ none → IfSome (cond none None (Some (part_amount form whole millionths))) (Worth form text)
worth_part form text whole millionths count true has there some = tt
worth_part Int text whole millionths count false has there some = absurd (cc)
worth_part Time text whole millionths count false has there some = absurd (cc)
worth_part Memory text whole millionths count false has there some =
    let fixed = part_fixed text whole millionths count has some in
    (scaled fixed.0 1, InBytes fixed.0 fixed.1 refl, fixed.2 1 (lit≤ tt))
worth_part Fixed text whole millionths count false has there some =
    let fixed = part_fixed text whole millionths count has some in
    (fixed.0, fixed.1, fixed.3)

worth_multiple : (form : Form) (text : List ℕ) (n : ℕ) → HasMultiple text n → occurs (Multiple n) form ≡ true → Worth form text n
worth_multiple Int text n has there = absurd (cc)
worth_multiple Time text n has there = absurd (cc)
worth_multiple Memory text n has there = (has.bytes, InMultiples has.spelled, has.value)
worth_multiple Fixed text n has there = absurd (cc)

worth_infinity : (form : Form) (text : List ℕ) → text ≡ infinity_word → occurs (Letters 8) form ≡ true → Worth form text endless
worth_infinity Int text spelled there = absurd (cc)
worth_infinity Time text spelled there = (endless, WithoutEnd spelled refl, refl)
worth_infinity Memory text spelled there = (endless, WithoutLimit spelled refl, refl)
worth_infinity Fixed text spelled there = absurd (cc)

occurs_letters : (form : Form) (count : ℕ) → occurs (Letters count) form ≡ true → occurs (Letters 8) form ≡ true
occurs_letters Int count there = absurd (cc)
occurs_letters Time count there = refl
occurs_letters Memory count there = refl
occurs_letters Fixed count there = absurd (cc)

worth_letters : (form : Form) (text : List ℕ) (count : ℕ) (all : Bool) → HasLetters text count → occurs (Letters count) form ≡ true → (count == 8) ≡ all
    → IfSome (cond all (Some endless) None) (Worth form text)
worth_letters form text count false has there is = tt
worth_letters form text count true has there is =
    let eight : count ≡ 8 = eqb-true count 8 is in
    let spelled : text ≡ take count infinity_word = has.spelled in
    worth_infinity form text (spelled ∙ ap (λ n. take n infinity_word) eight) (occurs_letters form count there)

occurs_seconds : (form : Form) (text : List ℕ) (hours minutes seconds : ℕ) → HasSeconds text hours minutes seconds → occurs (Seconds hours minutes seconds) form ≡ true
    → Worth form text (amount_cut (3600 * hours + 60 * minutes + seconds))
occurs_seconds Int text hours minutes seconds has there = absurd (cc)
occurs_seconds Time text hours minutes seconds has there = worth_seconds text hours minutes seconds has
occurs_seconds Memory text hours minutes seconds has there = absurd (cc)
occurs_seconds Fixed text hours minutes seconds has there = absurd (cc)

-- where the machine may end, the text is worth what it says
pub done_is_worth : (form : Form) (progress : Progress) (text : List ℕ) → HasRead progress text → occurs progress form ≡ true → IfSome (amount_done form progress) (Worth form text)
done_is_worth form Start text has there = tt
done_is_worth form (Whole n) text has there = worth_whole form text n has
done_is_worth form (Minutes hours minutes) text has there = tt
done_is_worth form (Seconds hours minutes seconds) text has there = occurs_seconds form text hours minutes seconds has there
done_is_worth form (Part whole millionths count) text has there = worth_part form text whole millionths count (count == 0) has there refl
done_is_worth form (Multiple n) text has there = worth_multiple form text n has there
done_is_worth form (Letters count) text has there = worth_letters form text count (count == 8) has there refl

-- a whole text begins itself
ends_here : (form : Form) (text : List ℕ) (value : ℕ) → Worth form text value → Begins form text
ends_here form text value worth =
    ([], worth.0, subst (λ (bytes : List ℕ). IsWorth form bytes worth.0) (sym (append-nil text)) worth.1)

zero_begins : (form : Form) → Begins form []
zero_begins Int = (48 ∷ [], 0, record { digits = record { digits = refl; some = lit< tt }; value = refl })
zero_begins Time = (48 ∷ [], 0, InSeconds (record { digits = record { digits = refl; some = lit< tt }; value = refl }))
zero_begins Memory = (48 ∷ [], 0, InBytes 0 (WithoutFraction (record { digits = refl; some = lit< tt }) refl) refl)
zero_begins Fixed = (48 ∷ [], 0, WithoutFraction (record { digits = refl; some = lit< tt }) refl)

minutes_begin : (form : Form) (text : List ℕ) (hours minutes : ℕ) → HasMinutes text hours minutes → occurs (Minutes hours minutes) form ≡ true → Begins form text
minutes_begin Int text hours minutes has there = absurd (cc)
minutes_begin Time text hours minutes has there =
    let spelled : text ≡ has.first ++ 58 ∷ has.second = has.spelled in (
      58 ∷ [],
      3600 * number has.first + 60 * number has.second + 0,
      ByTheClock (record {
        hours = has.first;
        minutes = has.second;
        rest = [];
        spelled = rw spelled (append_assoc has.first (58 ∷ has.second) (58 ∷ []));
        hours_digits = has.first_digits;
        minutes_digits = has.second_digits;
        rest_digits = refl;
        value = refl;
      }),
    )
minutes_begin Memory text hours minutes has there = absurd (cc)
minutes_begin Fixed text hours minutes has there = absurd (cc)

-- a point and a digit behind it
point_zero : (text : List ℕ) (whole millionths count : ℕ) → HasPart text whole millionths count → count ≡ 0 → (millionths : ℕ) × IsFixed (text ++ 48 ∷ []) millionths
point_zero text whole millionths count has none =
    let spelled : text ≡ has.first ++ 46 ∷ has.part = has.spelled in
    let counted : count ≡ length has.part = has.counted in (
      1000000 * number has.first + millionths_from 0 (has.part ++ 48 ∷ []),
      WithFraction (record {
        whole = has.first;
        part = has.part ++ 48 ∷ [];
        spelled = rw spelled (append_assoc has.first (46 ∷ has.part) (48 ∷ []));
        whole_digits = has.first_digits;
        part_digits = record { digits = AreDigits-append has.part 48 has.part_digits refl; some = omega (arith, length-append has.part (48 ∷ [])) };
        short = omega (arith, length-append has.part (48 ∷ []));
        value = refl;
      }),
    )

part_begins : (form : Form) (text : List ℕ) (whole millionths count : ℕ) (none : Bool) → HasPart text whole millionths count → occurs (Part whole millionths count) form ≡ true → (count == 0) ≡ none → Begins form text
part_begins Int text whole millionths count none has there is = absurd (cc)
part_begins Time text whole millionths count none has there is = absurd (cc)
part_begins Memory text whole millionths count true has there is =
    let fixed = point_zero text whole millionths count has (eqb-true count 0 is) in
    (48 ∷ [], scaled fixed.0 1, InBytes fixed.0 fixed.1 refl)
part_begins Memory text whole millionths count false has there is =
    let fixed = part_fixed text whole millionths count has is in
    ends_here Memory text (amount_cut (scaled fixed.0 1)) (scaled fixed.0 1, InBytes fixed.0 fixed.1 refl, refl)
part_begins Fixed text whole millionths count true has there is =
    let fixed = point_zero text whole millionths count has (eqb-true count 0 is) in
    (48 ∷ [], fixed.0, fixed.1)
part_begins Fixed text whole millionths count false has there is =
    let fixed = part_fixed text whole millionths count has is in
    ends_here Fixed text (amount_cut fixed.0) (fixed.0, fixed.1, refl)

letters_begin : (form : Form) (text : List ℕ) (count : ℕ) → HasLetters text count → occurs (Letters count) form ≡ true → Begins form text
letters_begin Int text count has there = absurd (cc)
letters_begin Time text count has there =
    let spelled : text ≡ take count infinity_word = has.spelled in
    (drop count infinity_word, endless, WithoutEnd (rw spelled (take-append-drop count infinity_word)) refl)
letters_begin Memory text count has there =
    let spelled : text ≡ take count infinity_word = has.spelled in
    (drop count infinity_word, endless, WithoutLimit (rw spelled (take-append-drop count infinity_word)) refl)
letters_begin Fixed text count has there = absurd (cc)

-- what was read begins a text of the form
pub read_begins : (form : Form) (progress : Progress) (text : List ℕ) → HasRead progress text → occurs progress form ≡ true → Begins form text
read_begins form Start text has there = rw has (zero_begins form)
read_begins form (Whole n) text has there = ends_here form text (whole_amount form n) (worth_whole form text n has)
read_begins form (Minutes hours minutes) text has there = minutes_begin form text hours minutes has there
read_begins form (Seconds hours minutes seconds) text has there =
    ends_here form text (amount_cut (3600 * hours + 60 * minutes + seconds)) (occurs_seconds form text hours minutes seconds has there)
read_begins form (Part whole millionths count) text has there = part_begins form text whole millionths count (count == 0) has there refl
read_begins form (Multiple n) text has there = ends_here form text n (worth_multiple form text n has there)
read_begins form (Letters count) text has there = letters_begin form text count has there
