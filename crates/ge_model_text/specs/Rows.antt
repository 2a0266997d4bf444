-- Worked rows, each by computation.
use Rattle.std.specs.Prelude.{◌≡◌, codes, refl, true, false, Ok, Err, Some, [], ◌∷◌, ◌++◌}
use Rattle.ge_model_text.specs.Words.{words_of, texts_of}
use Rattle.ge_model_text.specs.Pattern.{pattern_covers}
use Rattle.ge_model_text.specs.Reading.{reading}
use Rattle.ge_model_text.specs.declared.Form.TheVariants.{Int, Time, Memory, Fixed}
use Rattle.ge_model_text.specs.declared.ValueFault.TheVariants.{Digit, TooLarge}

-- words

three_words : words_of (codes " a 'b c'  de") ≡ Ok (record { from = 1; to = 2 } ∷ record { from = 4; to = 7 } ∷ record { from = 10; to = 12 } ∷ [])
three_words = refl

quote_inside : texts_of (codes "-N=a'b' it's") ≡ Some (codes "-N=a'b'" ∷ codes "it's" ∷ [])
quote_inside = refl

word_behind_a_quote : words_of (codes "x 'a'b") ≡ Err 2
word_behind_a_quote = refl

other_quotes_inside : texts_of (34 ∷ codes "it's" ++ 34 ∷ []) ≡ Some (codes "it's" ∷ [])
other_quotes_inside = refl

empty_word : words_of (codes "''") ≡ Ok (record { from = 1; to = 1 } ∷ [])
empty_word = refl

no_word : words_of (codes "  ") ≡ Ok []
no_word = refl

-- patterns

any_bytes : pattern_covers (codes "*") (codes "") ≡ true
any_bytes = refl

two_stars : pattern_covers (codes "a*b*c") (codes "aXbYbZc") ≡ true
two_stars = refl

ranges : pattern_covers (codes "node[0-36]") (codes "node6") ≡ true
ranges = refl

outside_the_ranges : pattern_covers (codes "node[0-36]") (codes "node5") ≡ false
outside_the_ranges = refl

dash_at_the_end : pattern_covers (codes "[a-]") (codes "-") ≡ true
dash_at_the_end = refl

open_set : pattern_covers (codes "[ab") (codes "[ab") ≡ true
open_set = refl

empty_set : pattern_covers (codes "[]*") (codes "x") ≡ false
empty_set = refl

one_byte : pattern_covers (codes "?") (codes "") ≡ false
one_byte = refl

-- amounts

colons_alone : reading Time (codes "::") ≡ Ok 0
colons_alone = refl

half_a_clock : reading Time (codes "1:30") ≡ Err (Digit 4)
half_a_clock = refl

fourth_group : reading Time (codes "1:2:3:4") ≡ Err (Digit 5)
fourth_group = refl

short_infinity : reading Time (codes "INFINITE") ≡ Err (Digit 7)
short_infinity = refl

rounded_after_the_factor : reading Memory (codes "0.999999K") ≡ Ok 1023
rounded_after_the_factor = refl

point_at_the_end : reading Memory (codes "1.") ≡ Err (Digit 2)
point_at_the_end = refl

letter_behind_a_point : reading Memory (codes "1.K") ≡ Err (Digit 2)
letter_behind_a_point = refl

two_letters : reading Memory (codes "1KB") ≡ Err (Digit 2)
two_letters = refl

too_large_by_its_letter : reading Memory (codes "262144G") ≡ Err TooLarge
too_large_by_its_letter = refl

far_too_large : reading Int (codes "99999999999999999999999999") ≡ Err TooLarge
far_too_large = refl

zeros_in_front : reading Int (codes "0007") ≡ Ok 7
zeros_in_front = refl

no_infinite_int : reading Int (codes "INFINITY") ≡ Err (Digit 0)
no_infinite_int = refl

millionths : reading Fixed (codes "0.5") ≡ Ok 500000
millionths = refl

no_letter : reading Fixed (codes "1.25k") ≡ Err (Digit 4)
no_letter = refl
