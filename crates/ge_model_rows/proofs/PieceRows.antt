-- Worked rows of refusals and of texts in pieces, each by computation.
use Rattle.std.specs.Prelude.{◌≡◌, ◌^◌, [], ◌∷◌, ◌++◌, map, Some, None, true, false, replicate, length, codes, refl}
use Rattle.ge_base.specs.declared.refusal.Refusal.TheVariants.{Syntax, TooLong, TimeBack, NoSuchObject, InUse, BadValue, Cycle, NoMemory}
use Rattle.ge_model_rows.specs.Faults.{when, first_fault, after_faults, sooner}
use Rattle.ge_model_rows.specs.Pieces.{pieces_at, before_byte, behind_byte, has_byte, is_digits, greatest_number, number_of, trimmed, list_items, joined_by, list_text, is_one_of, each_once, each_number_once, lower_case}

-- refusals

too_long_before_syntax : first_fault (Syntax ∷ TooLong ∷ []) ≡ Some TooLong
too_long_before_syntax = refl

missing_before_bad : first_fault (when true BadValue ++ when true NoSuchObject ++ when false Syntax ++ when true Cycle) ≡ Some NoSuchObject
missing_before_bad = refl

doubles_change_nothing : first_fault (InUse ∷ NoMemory ∷ InUse ∷ []) ≡ Some InUse
doubles_change_nothing = refl

no_condition_holds : first_fault (when false TimeBack) ≡ None
no_condition_holds = refl

found_before_stays : after_faults (Some NoSuchObject) (BadValue ∷ NoMemory ∷ []) ≡ Some NoSuchObject
found_before_stays = refl

found_before_is_overtaken : after_faults (Some InUse) (BadValue ∷ NoSuchObject ∷ []) ≡ Some NoSuchObject
found_before_is_overtaken = refl

sooner_of_two : map (sooner (Some InUse)) (None ∷ Some TooLong ∷ Some BadValue ∷ []) ≡ Some InUse ∷ Some TooLong ∷ Some InUse ∷ []
sooner_of_two = refl

nothing_is_never_sooner : map (sooner None) (None ∷ Some NoMemory ∷ []) ≡ None ∷ Some NoMemory ∷ []
nothing_is_never_sooner = refl

-- pieces

pieces_of_nothing : pieces_at 44 [] ≡ [] ∷ []
pieces_of_nothing = refl

three_commas : pieces_at 44 (codes ",a,,b") ≡ [] ∷ codes "a" ∷ [] ∷ codes "b" ∷ []
three_commas = refl

first_byte_parts : map (before_byte 61) (codes "a=b=c" ∷ codes "=1" ∷ codes "abc" ∷ []) ≡ codes "a" ∷ [] ∷ codes "abc" ∷ []
first_byte_parts = refl

rest_is_behind : map (behind_byte 61) (codes "a=b=c" ∷ codes "a=" ∷ codes "abc" ∷ []) ≡ codes "b=c" ∷ [] ∷ [] ∷ []
rest_is_behind = refl

has_it : map (has_byte 61) (codes "a=" ∷ codes "abc" ∷ [] ∷ []) ≡ true ∷ false ∷ false ∷ []
has_it = refl

digits_alone : map is_digits (codes "007" ∷ [] ∷ codes "1a" ∷ codes "-1" ∷ []) ≡ true ∷ false ∷ false ∷ false ∷ []
digits_alone = refl

wide_number : number_of (codes "018446744073709551616") ≡ 2 ^ 64
wide_number = refl

greatest : number_of (codes "340282366920938463463374607431768211455") ≡ greatest_number
greatest = refl

past_the_greatest : number_of (codes "340282366920938463463374607431768211456") ≡ greatest_number
past_the_greatest = refl

blanks_at_the_ends : map trimmed (codes " a b\t " ∷ codes "  " ∷ codes "a" ∷ []) ≡ codes "a b" ∷ [] ∷ codes "a" ∷ []
blanks_at_the_ends = refl

-- lists in bodies

blanks_or_commas : map list_items (codes "h1 h2" ∷ codes "h1,h2" ∷ codes "h1, h2" ∷ codes "h1 \t,h2" ∷ codes " h1 \t h2 " ∷ [])
    ≡ (codes "h1" ∷ codes "h2" ∷ []) ∷ (codes "h1" ∷ codes "h2" ∷ []) ∷ (codes "h1" ∷ codes "h2" ∷ []) ∷ (codes "h1" ∷ codes "h2" ∷ []) ∷ (codes "h1" ∷ codes "h2" ∷ []) ∷ []
blanks_or_commas = refl

empty_items : map list_items (codes "a,,b" ∷ codes "a , , b" ∷ codes "a," ∷ codes "," ∷ [])
    ≡ (codes "a" ∷ [] ∷ codes "b" ∷ []) ∷ (codes "a" ∷ [] ∷ codes "b" ∷ []) ∷ (codes "a" ∷ [] ∷ []) ∷ ([] ∷ [] ∷ []) ∷ []
empty_items = refl

none_alone : map list_items (codes " NONE " ∷ codes "NONE," ∷ codes "none" ∷ []) ≡ [] ∷ (codes "NONE" ∷ [] ∷ []) ∷ (codes "none" ∷ []) ∷ []
none_alone = refl

blanks_alone_are_an_item : map list_items ([] ∷ codes "  " ∷ []) ≡ ([] ∷ []) ∷ ([] ∷ []) ∷ []
blanks_alone_are_an_item = refl

long_list : length (list_items (codes "h1 " ++ replicate 2000 44)) ≡ 2001
long_list = refl

printed_lists : map list_text ([] ∷ (codes "a" ∷ []) ∷ (codes "a" ∷ codes "b" ∷ []) ∷ []) ≡ codes "NONE" ∷ codes "a" ∷ codes "a,b" ∷ []
printed_lists = refl

joined_words : joined_by (codes ", ") (codes "a" ∷ [] ∷ codes "b" ∷ []) ≡ codes "a, , b"
joined_words = refl

first_places : each_once (codes "b" ∷ codes "a" ∷ codes "b" ∷ codes "c" ∷ codes "a" ∷ []) ≡ codes "b" ∷ codes "a" ∷ codes "c" ∷ []
first_places = refl

first_numbers : each_number_once (3 ∷ 1 ∷ 1 ∷ 3 ∷ 2 ∷ []) ≡ 3 ∷ 1 ∷ 2 ∷ []
first_numbers = refl

front_is_another_text : map (is_one_of (codes "a")) ((codes "ab" ∷ []) ∷ (codes "b" ∷ codes "a" ∷ []) ∷ []) ≡ false ∷ true ∷ []
front_is_another_text = refl

letters_alone_change : lower_case (codes "Az@[Z9") ≡ codes "az@[z9"
letters_alone_change = refl
