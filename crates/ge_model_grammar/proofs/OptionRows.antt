-- Worked rows of the parts of options, each by computation.
use Rattle.std.specs.Prelude.{◌≡◌, refl, [], ◌∷◌, ◌++◌, replicate, Some, None, codes}
use Rattle.ge_model_grammar.specs.Options.{slot_range_of, command_name}

-- the name of a job that is made of its command

plain_name : command_name (codes "x") ≡ codes "x"
plain_name = refl

behind_the_last_slash : command_name (codes "/bin/sleep") ≡ codes "sleep"
behind_the_last_slash = refl

nothing_behind_a_slash : command_name (codes "/bin/") ≡ codes "STDIN"
nothing_behind_a_slash = refl

no_command : command_name ([]) ≡ codes "STDIN"
no_command = refl

digit_in_front : command_name (codes "/usr/1a") ≡ codes "J1a"
digit_in_front = refl

barred_bytes : command_name (codes "a b*" ++ (255 ∷ []) ++ codes "c") ≡ codes "a_b__c"
barred_bytes = refl

digit_and_127_more : command_name (57 ∷ replicate 130 122) ≡ 74 ∷ 57 ∷ replicate 126 122
digit_and_127_more = refl

too_long : command_name (replicate 130 97) ≡ replicate 128 97
too_long = refl

-- ranges of slots

one_number : slot_range_of (codes "4") ≡ Some (4, 4)
one_number = refl

two_numbers : slot_range_of (codes "4-8") ≡ Some (4, 8)
two_numbers = refl

from_one : slot_range_of (codes "-8") ≡ Some (1, 8)
from_one = refl

to_a_million : slot_range_of (codes "8-") ≡ Some (8, 1000000)
to_a_million = refl

dash_alone : slot_range_of (codes "-") ≡ None
dash_alone = refl

no_range : slot_range_of ([]) ≡ None
no_range = refl

two_dashes : slot_range_of (codes "1-2-3") ≡ None
two_dashes = refl

below : slot_range_of (codes "5-3") ≡ Some (5, 3)
below = refl

zero_and_zeros : slot_range_of (codes "000-007") ≡ Some (0, 7)
zero_and_zeros = refl

wide : slot_range_of (codes "99999999999999999999-") ≡ Some (99999999999999999999, 1000000)
wide = refl

letter : slot_range_of (codes "a") ≡ None
letter = refl
