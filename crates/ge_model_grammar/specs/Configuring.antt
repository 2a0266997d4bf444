-- The commands of qconf.
use Rattle.std.specs.Prelude.{ℕ, Bool, ◌&&◌, if◌then◌else◌, List, [], ◌∷◌, ◌++◌, length, drop, nat_le, is_some, Option, Some, None, codes}
use Rattle.ge_rows.specs.Keyed.{at_text, text_eq}
use Rattle.ge_model_rows.specs.CommandRows.{Command}
use Rattle.ge_model_rows.specs.EntryRows.{ObjectKind, Key}
use Rattle.ge_model_grammar.specs.Names.{is_name}
use Rattle.ge_model_rows.specs.Pieces.{is_empty}
use Rattle.ge_model_grammar.specs.Lines.{begins_with}
use Rattle.ge_model_grammar.specs.Bodies.{body_of}

-- the kinds of objects that have a name, by what stands behind -A, -M, -d and -s
abbrev pub named_kinds : List (List ℕ × ObjectKind)
named_kinds =
    (codes "q", ObjectKind.Queue) ∷ (codes "hgrp", ObjectKind.Group) ∷ (codes "e", ObjectKind.Host) ∷ (codes "p", ObjectKind.Pe) ∷ (codes "rqs", ObjectKind.Quota)
    ∷ (codes "prj", ObjectKind.Project) ∷ (codes "user", ObjectKind.User) ∷ []

-- the kinds that can be added by a body
abbrev pub added_kinds : List (List ℕ × ObjectKind)
added_kinds = (codes "u", ObjectKind.Set) ∷ (codes "stree", ObjectKind.Shares) ∷ (codes "c", ObjectKind.Complexes) ∷ named_kinds

-- those that can be replaced by a body
abbrev pub modified_kinds : List (List ℕ × ObjectKind)
modified_kinds = (codes "sconf", ObjectKind.Sched) ∷ added_kinds

-- the lists of names
abbrev pub list_kinds : List (List ℕ × ObjectKind)
list_kinds = (codes "m", ObjectKind.Managers) ∷ (codes "o", ObjectKind.Operators) ∷ []

-- the kinds that are removed by a name
abbrev pub removed_kinds : List (List ℕ × ObjectKind)
removed_kinds = (codes "ul", ObjectKind.Set) ∷ (list_kinds ++ named_kinds)

-- the kinds that are printed by a name
abbrev pub printed_kinds : List (List ℕ × ObjectKind)
printed_kinds = (codes "u", ObjectKind.Set) ∷ named_kinds

-- the kinds of which there is one alone, which are printed without a name
abbrev pub single_kinds : List (List ℕ × ObjectKind)
single_kinds = (codes "stree", ObjectKind.Shares) ∷ (codes "c", ObjectKind.Complexes) ∷ (codes "sconf", ObjectKind.Sched) ∷ list_kinds

-- the name of a group is @ and a name
abbrev pub is_group_name : List ℕ → Bool
is_group_name word = begins_with (codes "@") word && is_name (drop 1 word)

-- a name as an object of a kind has it
abbrev pub is_name_of : ObjectKind → List ℕ → Bool
is_name_of ObjectKind.Group word = is_group_name word
is_name_of _ word = is_name word

-- the command of a body that is in its grammar; one further word, the name of a file, is read without effect
abbrev pub with_body : (ObjectKind → List ℕ → Command) → Option ObjectKind → List (List ℕ) → List ℕ → Option Command
with_body make None words body = None
with_body make (Some kind) words body =
    if nat_le (length words) 1 && is_some (body_of kind body) then Some (make kind body) else None

-- the command of one name
abbrev pub with_name : (Key → Command) → Option ObjectKind → List (List ℕ) → Option Command
with_name make None words = None
with_name make (Some kind) [] = None
with_name make (Some kind) (word ∷ []) = if is_name_of kind word then Some (make (record { kind = kind; name = word })) else None
with_name make (Some kind) (word ∷ other ∷ words) = None

-- the command of an object that has no name
abbrev pub nameless_command : (Key → Command) → Option ObjectKind → Option Command
nameless_command make None = None
nameless_command make (Some kind) = Some (make (record { kind = kind; name = [] }))

-- a name is added to a list
abbrev pub add_name : Key → Command
add_name key = Command.Add key.kind key.name

-- -d with a name, or -dstree
abbrev pub removal : List ℕ → List (List ℕ) → Option Command
removal word [] = if text_eq word (codes "stree") then nameless_command Command.Remove (Some ObjectKind.Shares) else None
removal word (name ∷ words) = with_name Command.Remove (at_text removed_kinds word) (name ∷ words)

-- -s with a name, or of what there is one alone
abbrev pub printing : List ℕ → List (List ℕ) → Option Command
printing word [] = nameless_command Command.Print (at_text single_kinds word)
printing word (name ∷ words) = with_name Command.Print (at_text printed_kinds word) (name ∷ words)

-- -km
abbrev pub stopping : List (List ℕ) → Option Command
stopping words = if is_empty words then Some Command.Stop else None

-- the commands that have no body
abbrev pub bare_form : List ℕ → List (List ℕ) → Option Command
bare_form option words =
    if text_eq option (codes "-km") then stopping words
    else (if begins_with (codes "-d") option then removal (drop 2 option) words
    else (if begins_with (codes "-s") option then printing (drop 2 option) words
    else (if begins_with (codes "-a") option then with_name add_name (at_text list_kinds (drop 2 option)) words else None)))

-- the command of the words behind qconf and of the text behind the command line
unfoldable pub config_command : List (List ℕ) → List ℕ → Option Command
config_command [] body = None
config_command (option ∷ words) body =
    if begins_with (codes "-A") option then with_body Command.Add (at_text added_kinds (drop 2 option)) words body
    else (if begins_with (codes "-M") option then with_body Command.Modify (at_text modified_kinds (drop 2 option)) words body
    else (if is_empty body then bare_form option words else None))
