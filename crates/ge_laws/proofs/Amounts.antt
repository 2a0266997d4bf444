-- What the texts of amounts are worth, and the words of a line.
use Rattle.std.specs.Prelude.{◌≡◌, codes, refl, Ok, Err, []}
use Rattle.ge_model_text.specs.Words.{words_of}
use Rattle.ge_model_text.specs.Reading.{reading}
use Rattle.ge_model_text.specs.declared.Form.TheVariants.{Time, Memory}
use Rattle.ge_model_text.specs.declared.ValueFault.TheVariants.{Empty, Digit, TooLarge}

clock : reading Time (codes "1::1") ≡ Ok 3601
clock = refl

five_minutes : reading Time (codes "0:05:00") ≡ Ok 300
five_minutes = refl

no_end : reading Time (codes "INFINITY") ≡ Ok 281474976710655
no_end = refl

one_and_a_half_gigabytes : reading Memory (codes "1.5G") ≡ Ok 1610612736
one_and_a_half_gigabytes = refl

two_thousand : reading Memory (codes "2k") ≡ Ok 2000
two_thousand = refl

two_kibibytes : reading Memory (codes "2K") ≡ Ok 2048
two_kibibytes = refl

rounded_down : reading Memory (codes "1.5") ≡ Ok 1
rounded_down = refl

no_text : reading Memory [] ≡ Err Empty
no_text = refl

seventh_digit : reading Memory (codes "1.0000001") ≡ Err (Digit 8)
seventh_digit = refl

greatest : reading Memory (codes "281474976710655") ≡ Ok 281474976710655
greatest = refl

too_large : reading Memory (codes "281474976710656") ≡ Err TooLarge
too_large = refl

open_quote : words_of (codes "a 'b c") ≡ Err 2
open_quote = refl
