-- A question of a client: its words, what is sent, and whether the answer is an acceptance.
use Rattle.std.specs.Prelude.{ℕ, Bool, not, ◌&&◌, nat_eq, nat_le, if◌then◌else◌, List, [], ◌∷◌, ◌++◌, Option, Some, None, codes}
use Rattle.std.specs.List.{starts_with}
use Rattle.ge_model_rows.specs.Pieces.{is_digits, number_of}
use Rattle.ge_model_grammar.specs.Names.{is_name}

-- whether a text has no zero in front
abbrev pub is_without_zero : List ℕ → Bool
is_without_zero text = not (starts_with nat_eq text (codes "0"))

-- a number of a command line, from 1 to a greatest: digits, without a zero in front
abbrev pub is_number_up_to : ℕ → List ℕ → Bool
is_number_up_to greatest text = is_without_zero text && (is_digits text && nat_le (number_of text) greatest)

-- a port, as a word
abbrev pub is_port : List ℕ → Bool
is_port text = is_number_up_to 65535 text

-- a user and a group, where all three words are good
abbrev pub names_where : List ℕ → List ℕ → List ℕ → Option (List ℕ × List ℕ)
names_where port user group = if is_port port && (is_name user && is_name group) then Some (user, group) else None

-- the user and the group of the words PORT, USER and GROUP
abbrev pub names_of : List (List ℕ) → Option (List ℕ × List ℕ)
names_of [] = None
names_of (port ∷ []) = None
names_of (port ∷ user ∷ []) = None
names_of (port ∷ user ∷ group ∷ []) = names_where port user group
names_of (port ∷ user ∷ group ∷ word ∷ words) = None

-- the port that a word names, and that such words name; 0 where they name none
abbrev pub port_in : List ℕ → ℕ
port_in word = if is_port word then number_of word else 0

abbrev pub port_named : List (List ℕ) → ℕ
port_named [] = 0
port_named (port ∷ []) = 0
port_named (port ∷ user ∷ []) = 0
port_named (port ∷ user ∷ group ∷ []) = port_in port
port_named (port ∷ user ∷ group ∷ word ∷ words) = 0

-- what is sent: a line with the user and the group, and the whole text
abbrev pub payload_of : List ℕ → List ℕ → List ℕ → List ℕ
payload_of user group text = user ++ 32 ∷ group ++ 10 ∷ text

-- a reply accepts where its code is 0: it begins with `0` and a blank
abbrev pub is_acceptance : List ℕ → Bool
is_acceptance reply = starts_with nat_eq reply (codes "0 ")
