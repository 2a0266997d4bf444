-- What a daemon writes is read as it was meant: the request for its host's orders, and the report of an end.
use Rattle.std.proofs.Common.{◌≡◌, ℕ, ◌-◌, ◌^◌, ◌<◌, true, false, if◌then◌else◌, List, [], ◌∷◌, ◌++◌, map, min, decimal, Option, Some, None, refl, ap, ◌∙◌, arith, codes}
use Rattle.std.specs.Prelude.{option_map}
use Rattle.std.specs.List.{list_all}
use Rattle.std.proofs.lemmas.Bool.{and_parts}
use Rattle.ge_model_rows.specs.CommandRows.{Command}
use Rattle.ge_model_rows.specs.Pieces.{behind_byte, number_of}
use Rattle.ge_model_rows.proofs.Digits.{decimal_digits, decimal_worth}
use Rattle.ge_model_text.specs.Words.{is_quote}
use Rattle.ge_model_grammar.specs.Lines.{read_after, read_each}
use Rattle.ge_model_grammar.specs.Names.{is_name, is_name_byte}
use Rattle.ge_model_grammar.specs.Targets.{wide_number}
use Rattle.ge_model_grammar.specs.Commands.{command_in, orders_command, end_with, end_command, command_of}
use Rattle.ge_execd.specs.Daemons.{end_text}
use Rattle.ge_world_laws.specs.Product.{orders_text, IsHost}
use Rattle.ge_world_laws.proofs.PlainWords.{is_shown, IsPlain, ArePlain, line_of, weaker, line_behind, line_words_back, decimal_plain}

-- the command of a line of plain words is that of its words
command_back : (words : List (List ℕ)) → ArePlain words → command_of (line_of words) ≡ command_in words []
unfolding command_of
command_back words plain =
    ap (λ (read : Option (List (List ℕ))). elim read as (λ x. Option Command) [ None ↦ None | Some found ↦ command_in found (behind_byte 10 (line_of words)) ]) (line_words_back words plain)
    ∙ ap (λ text. command_in words text) (line_behind words plain)

-- ---- orders

name_shown : (b : ℕ) → is_name_byte b ≡ true → is_shown b ≡ true
name_shown b name = grind arith

name_no_quote : (b : ℕ) → is_name_byte b ≡ true → is_quote b ≡ false
name_no_quote b name = grind arith

-- a name is a plain word
name_plain : (host : List ℕ) → is_name host ≡ true → IsPlain host
name_plain [] name = absurd (grind arith)
name_plain (b ∷ bs) name =
    let all : list_all is_name_byte (b ∷ bs) ≡ true = grind arith in
    (name_no_quote b (and_parts (is_name_byte b) (list_all is_name_byte bs) all).0, weaker is_name_byte is_shown name_shown (b ∷ bs) all)

pub orders_back : (host : List ℕ) → IsHost host → command_of (orders_text host) ≡ Some (Command.Orders host)
unfolding orders_command
orders_back host name = command_back (codes "orders" ∷ host ∷ []) ((refl, refl), (name_plain host name, tt)) ∙ read
  where
    read : command_in (codes "orders" ∷ host ∷ []) [] ≡ Some (Command.Orders host)
    read = ap (λ b. if b then Some (Command.Orders host) else None) name

-- ---- reports

-- a number of 64 bits is read as it is
wide_back : (n : ℕ) → n < 2 ^ 64 → wide_number (decimal n) ≡ Some n
wide_back n small =
    ap (λ b. option_map (min (2 ^ 64 - 1)) (if b then Some (number_of (decimal n)) else None)) (decimal_digits n)
    ∙ ap (λ x. Some x) (ap (min (2 ^ 64 - 1)) (decimal_worth n small) ∙ omega (arith, small))

-- one more word of a list is read
read_one : {A B : Type 0} (read : A → Option B) (so_far : List B) (x : A) (y : B) (xs : List A) → read x ≡ Some y → read_after read so_far (x ∷ xs) ≡ read_after read (so_far ++ y ∷ []) xs
read_one {B = B} read so_far x y xs is = ap (λ (o : Option B). elim o as (λ z. Option (List B)) [ None ↦ None | Some y ↦ read_after read (so_far ++ y ∷ []) xs ]) is

pub end_back : (serial exit cpu mem io : ℕ) → serial < 2 ^ 64 → exit < 2 ^ 64 → cpu < 2 ^ 64 → mem < 2 ^ 64 → io < 2 ^ 64
    → command_of (end_text serial exit cpu mem io) ≡ Some (Command.End serial exit cpu mem io)
unfolding end_command
end_back serial exit cpu mem io p q r s t =
    command_back (codes "end" ∷ map decimal (serial ∷ exit ∷ cpu ∷ mem ∷ io ∷ []))
    ((refl, refl), (decimal_plain serial, (decimal_plain exit, (decimal_plain cpu, (decimal_plain mem, (decimal_plain io, tt))))))
    ∙ ap (λ (read : Option (List ℕ)). elim read as (λ x. Option Command) [ None ↦ None | Some numbers ↦ end_with numbers ]) five
  where
    five : read_each wide_number (decimal serial ∷ decimal exit ∷ decimal cpu ∷ decimal mem ∷ decimal io ∷ []) ≡ Some (serial ∷ exit ∷ cpu ∷ mem ∷ io ∷ [])
    five =
        read_one wide_number [] (decimal serial) serial (decimal exit ∷ decimal cpu ∷ decimal mem ∷ decimal io ∷ []) (wide_back serial p)
        ∙ read_one wide_number (serial ∷ []) (decimal exit) exit (decimal cpu ∷ decimal mem ∷ decimal io ∷ []) (wide_back exit q)
        ∙ read_one wide_number (serial ∷ exit ∷ []) (decimal cpu) cpu (decimal mem ∷ decimal io ∷ []) (wide_back cpu r)
        ∙ read_one wide_number (serial ∷ exit ∷ cpu ∷ []) (decimal mem) mem (decimal io ∷ []) (wide_back mem s)
        ∙ read_one wide_number (serial ∷ exit ∷ cpu ∷ mem ∷ []) (decimal io) io [] (wide_back io t)
