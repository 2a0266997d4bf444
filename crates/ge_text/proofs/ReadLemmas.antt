-- What the machine knows of the bytes that it read.
use Rattle.std.proofs.Common.{◌≡◌, ℕ, suc, zero, ◌+◌, ◌-◌, ◌*◌, ◌<◌, ◌≤◌, Bool, true, false, cond, ◌&&◌, ◌==◌, nat_lt, List, [], ◌∷◌, ◌++◌, length, get_or, take, refl, ap, sym, subst, ◌∙◌, arith, add-one, zero-add, append_assoc, length-append, Option, Some, None, IfSome, lit≤}
use Rattle.std.specs.Option.{option_map}
use Rattle.std.proofs.Math.Seq.{take-suc}
use Rattle.std.proofs.lemmas.Bool.{and_parts, eqb-true, ltb-true}
use Rattle.ge_model_text.specs.declared.Progress.{Progress}
use Rattle.ge_model_text.specs.declared.Progress.TheVariants.{Start, Whole, Minutes, Seconds, Part, Multiple, Letters}
use Rattle.ge_model_text.specs.Value.{is_digit, AreDigits, IsNumber, IsFixed, WithoutFraction, WithFraction, IsMultiple, number, unit_at, millionths_from, factor, scaled, infinity_word}
use Rattle.ge_model_text.specs.Reading.{amount_cut, appended, multiple, step}
use Rattle.ge_text.proofs.NumberLemmas.{AreDigits-append, number_after-append, cut-appended, millionths_from-append, part_at_most, part_uncut, IsLetter, letters, cut-scaled}

-- hours, a colon and the digits of the minutes so far
pub record HasMinutes (front : List ℕ) (hours minutes : ℕ) : Type 0 where
  pub first : List ℕ
  pub second : List ℕ
  pub spelled : front ≡ first ++ 58 ∷ second
  pub first_digits : AreDigits first
  pub second_digits : AreDigits second
  pub first_value : hours ≡ amount_cut (number first)
  pub second_value : minutes ≡ amount_cut (number second)

-- hours, minutes, two colons and the digits of the seconds so far
pub record HasSeconds (front : List ℕ) (hours minutes seconds : ℕ) : Type 0 where
  pub first : List ℕ
  pub second : List ℕ
  pub third : List ℕ
  pub spelled : front ≡ first ++ 58 ∷ (second ++ 58 ∷ third)
  pub first_digits : AreDigits first
  pub second_digits : AreDigits second
  pub third_digits : AreDigits third
  pub first_value : hours ≡ amount_cut (number first)
  pub second_value : minutes ≡ amount_cut (number second)
  pub third_value : seconds ≡ amount_cut (number third)

-- a whole number, a point and the digits behind it so far
pub record HasPart (front : List ℕ) (whole millionths count : ℕ) : Type 0 where
  pub first : List ℕ
  pub part : List ℕ
  pub spelled : front ≡ first ++ 46 ∷ part
  pub first_digits : IsNumber first
  pub part_digits : AreDigits part
  pub counted : count ≡ length part
  pub short : count ≤ 6
  pub first_value : whole ≡ amount_cut (number first)
  pub part_value : millionths ≡ millionths_from 0 part

pub record HasWhole (front : List ℕ) (n : ℕ) : Type 0 where
  pub digits : IsNumber front
  pub value : n ≡ amount_cut (number front)

pub record HasMultiple (front : List ℕ) (n : ℕ) : Type 0 where
  pub bytes : ℕ
  pub spelled : IsMultiple front bytes
  pub value : n ≡ amount_cut bytes

pub record HasLetters (front : List ℕ) (count : ℕ) : Type 0 where
  pub spelled : front ≡ take count infinity_word
  pub short : count ≤ 8

-- the bytes that lead to where the machine is
abbrev pub HasRead : Progress → List ℕ → Type 0
HasRead Start front = front ≡ []
HasRead (Whole n) front = HasWhole front n
HasRead (Minutes hours minutes) front = HasMinutes front hours minutes
HasRead (Seconds hours minutes seconds) front = HasSeconds front hours minutes seconds
HasRead (Part whole millionths count) front = HasPart front whole millionths count
HasRead (Multiple n) front = HasMultiple front n
HasRead (Letters count) front = HasLetters front count

-- one choice of a step
chosen : (P : Progress → Type 0) (t : Bool) (here : Progress) (others : Option Progress) → (t ≡ true → P here) → IfSome others P → IfSome (cond t (Some here) others) P
chosen P true here others first later = first refl
chosen P false here others first later = later

at_byte : (P : ℕ → Type 0) (b code : ℕ) → P code → (b == code) ≡ true → P b
at_byte P b code holds same = subst P (sym (eqb-true b code same)) holds

-- more digits

more_digits : (text : List ℕ) (b n : ℕ) → AreDigits text → n ≡ amount_cut (number text) → is_digit b ≡ true → HasWhole (text ++ b ∷ []) (appended n b)
more_digits text b n digits value digit = record {
  digits = record { digits = AreDigits-append text b digits digit; some = omega (arith, length-append text (b ∷ [])) };
  value = ap (λ m. appended m b) value ∙ (cut-appended (number text) b ∙ ap amount_cut (sym (number_after-append 0 text b)));
}

more_value : (text : List ℕ) (b n : ℕ) → n ≡ amount_cut (number text) → appended n b ≡ amount_cut (number (text ++ b ∷ []))
more_value text b n value = ap (λ m. appended m b) value ∙ (cut-appended (number text) b ∙ ap amount_cut (sym (number_after-append 0 text b)))

behind : (first : List ℕ) (colon : ℕ) (second : List ℕ) (front : List ℕ) (b : ℕ) → front ≡ first ++ colon ∷ second → front ++ b ∷ [] ≡ first ++ colon ∷ (second ++ b ∷ [])
behind first colon second front b spelled = rw spelled (append_assoc first (colon ∷ second) (b ∷ []))

-- after nothing

from_start : (b : ℕ) → IfSome (step Start b) (λ after. HasRead after (b ∷ []))
from_start b =
    chosen (λ after. HasRead after (b ∷ [])) (is_digit b) (Whole (appended 0 b)) _ (λ digit. more_digits [] b 0 refl refl digit)
    (chosen (λ after. HasRead after (b ∷ [])) (b == 58) (Minutes 0 0) _
    (at_byte (λ c. HasMinutes (c ∷ []) 0 0) b 58 (record { first = []; second = []; spelled = refl; first_digits = refl; second_digits = refl; first_value = refl; second_value = refl }))
    (chosen (λ after. HasRead after (b ∷ [])) (b == 73) (Letters 1) None
    (at_byte (λ c. HasLetters (c ∷ []) 1) b 73 (record { spelled = refl; short = lit≤ tt }))
    tt))

-- after a number, a letter
letter_read : (front : List ℕ) (fixed n b times : ℕ) → IsFixed front fixed → factor b ≡ Some times
    → n ≡ amount_cut (scaled fixed times) → HasMultiple (front ++ b ∷ []) n
letter_read front fixed n b times is multiplier value = record {
  bytes = scaled fixed times;
  spelled = record { front = front; letter = b; millionths = fixed; times = times; spelled = refl; fixed = is; multiplier = multiplier; value = refl };
  value = value;
}

by_letter : (front : List ℕ) (fixed whole millionths b : ℕ) (o : Option ℕ) → IsFixed front fixed → factor b ≡ o → IfSome o (IsLetter b)
    → ((times : ℕ) → 1 ≤ times → amount_cut (scaled (1000000 * whole + millionths) times) ≡ amount_cut (scaled fixed times))
    → IfSome (option_map (λ times. Multiple (amount_cut (scaled (1000000 * whole + millionths) times))) o) (λ after. HasRead after (front ++ b ∷ []))
by_letter front fixed whole millionths b None is multiplier letter same = tt
by_letter front fixed whole millionths b (Some times) is multiplier letter same =
    letter_read front fixed (amount_cut (scaled (1000000 * whole + millionths) times)) b times is multiplier (same times letter.grows)

pub whole_scaled : (front : List ℕ) (n times : ℕ) → n ≡ amount_cut (number front) → 1 ≤ times → amount_cut (scaled (1000000 * n + 0) times) ≡ amount_cut (scaled (1000000 * number front) times)
whole_scaled front n times value grows =
    let plain : 1000000 * number front + 0 ≡ 1000000 * number front = omega arith in
    ap (λ m. amount_cut (scaled (1000000 * m + 0) times)) value ∙ (cut-scaled (number front) 0 times grows ∙ ap (λ m. amount_cut (scaled m times)) plain)

from_whole : (front : List ℕ) (n b : ℕ) → HasWhole front n → IfSome (step (Whole n) b) (λ after. HasRead after (front ++ b ∷ []))
from_whole front n b has =
    chosen (λ after. HasRead after (front ++ b ∷ [])) (is_digit b) (Whole (appended n b)) _ (λ digit. more_digits front b n has.digits.digits has.value digit)
    (chosen (λ after. HasRead after (front ++ b ∷ [])) (b == 58) (Minutes n 0) _
    (at_byte (λ c. HasMinutes (front ++ c ∷ []) n 0) b 58 (record { first = front; second = []; spelled = refl; first_digits = has.digits.digits; second_digits = refl; first_value = has.value; second_value = refl }))
    (chosen (λ after. HasRead after (front ++ b ∷ [])) (b == 46) (Part n 0 0) _
    (at_byte (λ c. HasPart (front ++ c ∷ []) n 0 0) b 46 (record { first = front; part = []; spelled = refl; first_digits = has.digits; part_digits = refl; counted = refl; short = lit≤ tt; first_value = has.value; part_value = refl }))
    (by_letter front (1000000 * number front) n 0 b (factor b) (WithoutFraction has.digits refl) refl (letters b) (λ times grows. whole_scaled front n times has.value grows))))

-- after a colon, two colons or a point

from_minutes : (front : List ℕ) (hours minutes b : ℕ) → HasMinutes front hours minutes → IfSome (step (Minutes hours minutes) b) (λ after. HasRead after (front ++ b ∷ []))
from_minutes front hours minutes b has =
    chosen (λ after. HasRead after (front ++ b ∷ [])) (is_digit b) (Minutes hours (appended minutes b)) _
    (λ digit. record {
      first = has.first;
      second = has.second ++ b ∷ [];
      spelled = behind has.first 58 has.second front b has.spelled;
      first_digits = has.first_digits;
      second_digits = AreDigits-append has.second b has.second_digits digit;
      first_value = has.first_value;
      second_value = more_value has.second b minutes has.second_value;
    })
    (chosen (λ after. HasRead after (front ++ b ∷ [])) (b == 58) (Seconds hours minutes 0) None
    (at_byte (λ c. HasSeconds (front ++ c ∷ []) hours minutes 0) b 58 (record {
      first = has.first;
      second = has.second;
      third = [];
      spelled = behind has.first 58 has.second front 58 has.spelled;
      first_digits = has.first_digits;
      second_digits = has.second_digits;
      third_digits = refl;
      first_value = has.first_value;
      second_value = has.second_value;
      third_value = refl;
    }))
    tt)

from_seconds : (front : List ℕ) (hours minutes seconds b : ℕ) → HasSeconds front hours minutes seconds → IfSome (step (Seconds hours minutes seconds) b) (λ after. HasRead after (front ++ b ∷ []))
from_seconds front hours minutes seconds b has =
    chosen (λ after. HasRead after (front ++ b ∷ [])) (is_digit b) (Seconds hours minutes (appended seconds b)) None
    (λ digit. record {
      first = has.first;
      second = has.second;
      third = has.third ++ b ∷ [];
      spelled = behind has.first 58 (has.second ++ 58 ∷ has.third) front b has.spelled ∙ ap (λ rest. has.first ++ 58 ∷ rest) (append_assoc has.second (58 ∷ has.third) (b ∷ []));
      first_digits = has.first_digits;
      second_digits = has.second_digits;
      third_digits = AreDigits-append has.third b has.third_digits digit;
      first_value = has.first_value;
      second_value = has.second_value;
      third_value = more_value has.third b seconds has.third_value;
    })
    tt

part_small : (front : List ℕ) (whole millionths count : ℕ) → HasPart front whole millionths count → millionths ≤ 900000 * count
part_small front whole millionths count has =
    let most : millionths_from 0 has.part ≤ 900000 * length has.part = part_at_most 0 has.part has.part_digits in
    rw (has.part_value, has.counted) most

part_digit : (front : List ℕ) (whole millionths count b : ℕ) → HasPart front whole millionths count → is_digit b ≡ true → count < 6
    → HasPart (front ++ b ∷ []) whole (amount_cut (millionths + (b - 48) * unit_at count)) (count + 1)
part_digit front whole millionths count b has digit few = record {
  first = has.first;
  part = has.part ++ b ∷ [];
  spelled = behind has.first 46 has.part front b has.spelled;
  first_digits = has.first_digits;
  part_digits = AreDigits-append has.part b has.part_digits digit;
  counted = let counted : count ≡ length has.part = has.counted in omega (arith, length-append has.part (b ∷ []));
  short = omega arith;
  first_value = has.first_value;
  part_value =
      part_uncut millionths count b (part_small front whole millionths count has) has.short digit
      ∙ (ap (λ m. m + (b - 48) * unit_at count) has.part_value
      ∙ (ap (λ n. millionths_from 0 has.part + (b - 48) * unit_at n) has.counted
      ∙ (ap (λ n. millionths_from 0 has.part + (b - 48) * unit_at n) (sym (zero-add (length has.part)))
      ∙ sym (millionths_from-append 0 has.part b))));
}

pub not_zero : (count : ℕ) → (count == 0) ≡ false → 0 < count
not_zero zero some = absurd (cc)
not_zero (suc count) some = omega arith

-- a fraction that has a digit
pub part_fixed : (front : List ℕ) (whole millionths count : ℕ) → HasPart front whole millionths count → (count == 0) ≡ false
    → (fixed : ℕ) × IsFixed front fixed × ((times : ℕ) → 1 ≤ times → amount_cut (scaled (1000000 * whole + millionths) times) ≡ amount_cut (scaled fixed times)) × (amount_cut (1000000 * whole + millionths) ≡ amount_cut fixed)
part_fixed front whole millionths count has some =
    let counted : count ≡ length has.part = has.counted in
    let part_value : millionths ≡ millionths_from 0 has.part = has.part_value in
    let first_value : whole ≡ amount_cut (number has.first) = has.first_value in
    let more : 0 < length has.part = subst (λ (n : ℕ). 0 < n) counted (not_zero count some) in (
      1000000 * number has.first + millionths_from 0 has.part,
      WithFraction (record {
        whole = has.first;
        part = has.part;
        spelled = has.spelled;
        whole_digits = has.first_digits;
        part_digits = record { digits = has.part_digits; some = more };
        short = subst (λ (n : ℕ). n ≤ 6) counted has.short;
        value = refl;
      }),
      (λ times grows. ap (λ m. amount_cut (scaled (1000000 * whole + m) times)) part_value
          ∙ (ap (λ w. amount_cut (scaled (1000000 * w + millionths_from 0 has.part) times)) first_value
          ∙ cut-scaled (number has.first) (millionths_from 0 has.part) times grows)),
      omega arith,
    )

from_part : (front : List ℕ) (whole millionths count b : ℕ) (digit few none : Bool) → is_digit b ≡ digit → nat_lt count 6 ≡ few → (count == 0) ≡ none
    → HasPart front whole millionths count
    → IfSome (cond digit (cond few (Some (Part whole (amount_cut (millionths + (b - 48) * unit_at count)) (count + 1))) None) (cond none None (multiple whole millionths b))) (λ after. HasRead after (front ++ b ∷ []))
from_part front whole millionths count b true true none digit few some has = part_digit front whole millionths count b has digit (ltb-true count 6 few)
from_part front whole millionths count b true false none digit few some has = tt
from_part front whole millionths count b false few true digit few_is some has = tt
from_part front whole millionths count b false few false digit few_is some has =
    let fixed = part_fixed front whole millionths count has some in
    by_letter front fixed.0 whole millionths b (factor b) fixed.1 refl (letters b) fixed.2

from_letters : (front : List ℕ) (count b : ℕ) (goes_on : Bool) → (nat_lt count 8 && (b == get_or infinity_word count 0)) ≡ goes_on → HasLetters front count
    → IfSome (cond goes_on (Some (Letters (count + 1))) None) (λ after. HasRead after (front ++ b ∷ []))
from_letters front count b false is has = tt
from_letters front count b true is has =
    let parts = and_parts (nat_lt count 8) (b == get_or infinity_word count 0) is in
    let short : count < 8 = ltb-true count 8 parts.0 in
    let letter : b ≡ get_or infinity_word count 0 = eqb-true b (get_or infinity_word count 0) parts.1 in
    let spelled : front ≡ take count infinity_word = has.spelled in
    record {
      spelled = rw (spelled, letter, add-one) (sym (take-suc infinity_word count 0 short));
      short = omega arith;
    }

-- one more byte
pub reads_on : (progress : Progress) (front : List ℕ) (b : ℕ) → HasRead progress front → IfSome (step progress b) (λ after. HasRead after (front ++ b ∷ []))
reads_on Start front b has = rw has (from_start b)
reads_on (Whole n) front b has = from_whole front n b has
reads_on (Minutes hours minutes) front b has = from_minutes front hours minutes b has
reads_on (Seconds hours minutes seconds) front b has = from_seconds front hours minutes seconds b has
reads_on (Part whole millionths count) front b has = from_part front whole millionths count b (is_digit b) (nat_lt count 6) (count == 0) refl refl refl has
reads_on (Multiple n) front b has = tt
reads_on (Letters count) front b has = from_letters front count b (nat_lt count 8 && (b == get_or infinity_word count 0)) refl has
