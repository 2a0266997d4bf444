-- The lines of a rule set (sge_resource_quota).
use Rattle.std.specs.Prelude.{ℕ, ◌-◌, Bool, true, false, not, ◌&&◌, if◌then◌else◌, List, [], ◌∷◌, length, drop, slice_range, map, filter, is_none, Option, Some, None, codes}
use Rattle.std.specs.List.{list_all}
use Rattle.ge_rows.specs.Keyed.{text_eq}
use Rattle.ge_model_rows.specs.QuotaRows.{Filter}
use Rattle.ge_model_grammar.specs.declared.RuleLine.{RuleLine}
use Rattle.ge_model_rows.specs.Pieces.{is_empty, blank_pieces, pieces_at, before_byte, behind_byte, has_byte, list_items, joined_by}
use Rattle.ge_model_grammar.specs.Lines.{begins_with, ends_in}

-- a rule without filters and resources
abbrev pub bare_rule : List ℕ → RuleLine
bare_rule name = record { name = name; users = None; projects = None; pes = None; queues = None; hosts = None; limits = [] }

-- ! stands before an element that is left out
abbrev pub is_without : List ℕ → Bool
is_without element = begins_with (codes "!") element

-- neither nothing nor ! alone
abbrev pub is_element : List ℕ → Bool
is_element element = not (is_empty element) && not (text_eq element (codes "!"))

-- the filter of these elements
abbrev pub filter_with : Bool → List (List ℕ) → Option Filter
filter_with braces elements =
    if list_all is_element elements then Some (record {
      braces = braces;
      plain = filter (λ element. not (is_without element)) elements;
      without = map (drop 1) (filter is_without elements);
    }) else None

-- what stands between braces
abbrev pub between_braces : List ℕ → List ℕ
between_braces text = slice_range text 1 (length text - 1)

-- a filter as it is written: elements joined by commas, perhaps in braces, which stand on both sides or on none
abbrev pub filter_of : List ℕ → Option Filter
filter_of text =
    if begins_with (codes "{") text then (if ends_in (codes "}") text then filter_with true (pieces_at 44 (between_braces text)) else None)
    else (if ends_in (codes "}") text then None else filter_with false (pieces_at 44 text))

-- a rule with one more filter: none where there is no such filter or the rule has it
abbrev pub with_filter : RuleLine → List ℕ → Filter → Option RuleLine
with_filter rule word f =
    if text_eq word (codes "users") && is_none rule.users then Some (record rule { users = Some f })
    else (if text_eq word (codes "projects") && is_none rule.projects then Some (record rule { projects = Some f })
    else (if text_eq word (codes "pes") && is_none rule.pes then Some (record rule { pes = Some f })
    else (if text_eq word (codes "queues") && is_none rule.queues then Some (record rule { queues = Some f })
    else (if text_eq word (codes "hosts") && is_none rule.hosts then Some (record rule { hosts = Some f }) else None))))

-- a rule with a filter as it is written
abbrev pub filtered_by : RuleLine → List ℕ → List ℕ → Option RuleLine
filtered_by rule word text = elim (filter_of text) [ None ↦ None | Some f ↦ with_filter rule word f ]

-- whether a resource has its =
abbrev pub has_equals : List ℕ → Bool
has_equals item = has_byte 61 item

-- a resource and its limit, as they are written
abbrev pub written_resource : List ℕ → List ℕ × List ℕ
written_resource item = (before_byte 61 item, behind_byte 61 item)

-- a rule with its resources: at least one, each with its =
abbrev pub with_resources : RuleLine → List (List ℕ) → Option RuleLine
with_resources rule items =
    if not (is_empty items) && list_all has_equals items then Some (record rule { limits = map written_resource items }) else None

-- the rest of a rule: filters in any order, each at most once, then `to` and resources
abbrev pub rule_with_rest : RuleLine → List (List ℕ) → Option RuleLine
rule_with_rest rule [] = None
rule_with_rest rule (word ∷ []) = None
rule_with_rest rule (word ∷ text ∷ words) =
    elim (text_eq word (codes "to")) [
      | true ↦ with_resources rule (list_items (joined_by (codes " ") (text ∷ words)))
      | false ↦ elim (filtered_by rule word text) [ None ↦ None | Some more ↦ rule_with_rest more words ]
    ]

-- a rule's words: its name, where it has one, stands before its filters
abbrev pub rule_in : List (List ℕ) → Option RuleLine
rule_in [] = None
rule_in (word ∷ []) = None
rule_in (word ∷ text ∷ words) =
    if text_eq word (codes "name") then rule_with_rest (bare_rule text) words else rule_with_rest (bare_rule []) (word ∷ text ∷ words)

-- a rule as it is written behind `limit`
unfoldable pub rule_line_of : List ℕ → Option RuleLine
rule_line_of text = rule_in (blank_pieces text)
