-- The relational operators (complex, relop).
use Rattle.std.specs.Prelude.{ℕ, ◌==◌, Bool, false, not, nat_lt, nat_le, List}
use Rattle.std.specs.Bool.{beq}
use Rattle.ge_collections.specs.Keyed.{text_eq}
use Rattle.ge_model_rows.specs.ValueRows.{Value, Amount, Flag, Word, Kind, Relop, Eq, Ne, Lt, Le}
use Rattle.ge_model_rows.specs.ValueRows.{Gt, Ge, ComplexDef}
use Rattle.ge_model_text.specs.Pattern.{pattern_covers}
use Rattle.ge_model_rows.specs.Pieces.{lower_case}

-- whether one number stands in a relation to another
abbrev pub numbers_hold : Relop → ℕ → ℕ → Bool
numbers_hold Eq left right = left == right
numbers_hold Ne left right = not (left == right)
numbers_hold Lt left right = nat_lt left right
numbers_hold Le left right = nat_le left right
numbers_hold Gt left right = nat_lt right left
numbers_hold Ge left right = nat_le right left

-- flags and words meet only == and !=, by whether they are the same
abbrev pub sameness_holds : Relop → Bool → Bool
sameness_holds Eq same = same
sameness_holds Ne same = not same
sameness_holds _ same = false

-- whether two words are the same for a kind: without regard to case, by the left one as a pattern, or byte by byte
abbrev pub same_words : Kind → List ℕ → List ℕ → Bool
same_words Kind.CStr left right = text_eq (lower_case left) (lower_case right)
same_words Kind.Host left right = text_eq (lower_case left) (lower_case right)
same_words Kind.ReStr left right = pattern_covers left right
same_words _ left right = text_eq left right

-- whether one value stands in a relation to another, as a kind compares them; values of different form never do
abbrev pub holds_between : Kind → Relop → Value → Value → Bool
holds_between kind relop (Amount left) (Amount right) = numbers_hold relop left right
holds_between kind relop (Flag left) (Flag right) = sameness_holds relop (beq left right)
holds_between kind relop (Word left) (Word right) = sameness_holds relop (same_words kind left right)
holds_between _ _ _ _ = false

-- whether an asked value is admitted where another one is there: asked relop there
abbrev pub admits : ComplexDef → Value → Value → Bool
admits complex asked there = holds_between complex.kind complex.relop asked there
