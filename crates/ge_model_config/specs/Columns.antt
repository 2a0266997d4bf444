-- The words in the columns of the table of complexes (complex).
use Rattle.std.specs.Prelude.{ℕ, Bool, ◌||◌, List, [], ◌∷◌, take, Option, find, codes}
use Rattle.ge_collections.specs.Keyed.{text_eq}
use Rattle.ge_model_rows.specs.ValueRows.{Kind, Relop, Requestable, Consumable}
use Rattle.ge_model_rows.specs.Pieces.{lower_case}

-- the column type
abbrev pub kind_text : Kind → List ℕ
kind_text Kind.Int = codes "INT"
kind_text Kind.Time = codes "TIME"
kind_text Kind.Memory = codes "MEMORY"
kind_text Kind.Double = codes "DOUBLE"
kind_text Kind.Bool = codes "BOOL"
kind_text Kind.Str = codes "STRING"
kind_text Kind.CStr = codes "CSTRING"
kind_text Kind.ReStr = codes "RESTRING"
kind_text Kind.Host = codes "HOST"

-- all types
abbrev pub kinds : List Kind
kinds = Kind.Int ∷ Kind.Time ∷ Kind.Memory ∷ Kind.Double ∷ Kind.Bool ∷ Kind.Str ∷ Kind.CStr ∷ Kind.ReStr ∷ Kind.Host ∷ []

-- the type that a word names
abbrev pub kind_of : List ℕ → Option Kind
kind_of word = find (λ k. text_eq word (kind_text k)) kinds

-- whether two types are the same
abbrev pub is_same_kind : Kind → Kind → Bool
is_same_kind k other = text_eq (kind_text k) (kind_text other)

-- the column relop
abbrev pub relop_text : Relop → List ℕ
relop_text Relop.Eq = codes "=="
relop_text Relop.Ne = codes "!="
relop_text Relop.Lt = codes "<"
relop_text Relop.Le = codes "<="
relop_text Relop.Gt = codes ">"
relop_text Relop.Ge = codes ">="

-- all operators
abbrev pub relops : List Relop
relops = Relop.Eq ∷ Relop.Ne ∷ Relop.Lt ∷ Relop.Le ∷ Relop.Gt ∷ Relop.Ge ∷ []

-- the operator that a word names
abbrev pub relop_of : List ℕ → Option Relop
relop_of word = find (λ r. text_eq word (relop_text r)) relops

-- whether two operators are the same
abbrev pub is_relop : Relop → Relop → Bool
is_relop r other = text_eq (relop_text r) (relop_text other)

-- a word in any case, whole or by its first letter
abbrev pub is_column_word : List ℕ → List ℕ → Bool
is_column_word word text = text_eq (lower_case word) (lower_case text) || text_eq (lower_case word) (take 1 (lower_case text))

-- the column requestable
abbrev pub requestable_text : Requestable → List ℕ
requestable_text Requestable.No = codes "NO"
requestable_text Requestable.Yes = codes "YES"
requestable_text Requestable.Forced = codes "FORCED"

-- what a word says of asking
abbrev pub requestable_of : List ℕ → Option Requestable
requestable_of word = find (λ r. is_column_word word (requestable_text r)) (Requestable.No ∷ Requestable.Yes ∷ Requestable.Forced ∷ [])

-- the column consumable
abbrev pub consumable_text : Consumable → List ℕ
consumable_text Consumable.No = codes "NO"
consumable_text Consumable.Yes = codes "YES"
consumable_text Consumable.Job = codes "JOB"

-- what a word says of consuming
abbrev pub consumable_of : List ℕ → Option Consumable
consumable_of word = find (λ r. is_column_word word (consumable_text r)) (Consumable.No ∷ Consumable.Yes ∷ Consumable.Job ∷ [])
