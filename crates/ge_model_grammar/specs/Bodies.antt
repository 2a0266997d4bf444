-- The grammar of bodies.
use Rattle.std.specs.Prelude.{ℕ, ◌-◌, Bool, true, false, not, ◌&&◌, if◌then◌else◌, List, [], ◌∷◌, ◌++◌, length, take, drop, filter, is_some, zip, Option, Some, None, option_map, codes}
use Rattle.std.specs.List.{list_all, before_first, after_first}
use Rattle.ge_rows.specs.Keyed.{at_text, text_eq}
use Rattle.ge_model_rows.specs.EntryRows.{ObjectKind}
use Rattle.ge_model_text.specs.Words.{is_blank}
use Rattle.ge_model_rows.specs.Pieces.{is_empty, blank_pieces, trimmed, is_one_of}
use Rattle.ge_model_grammar.specs.Lines.{is_plain_line, text_lines, begins_with, ends_in, read_each}
use Rattle.ge_model_grammar.specs.Rules.{rule_line_of}
use Rattle.ge_model_grammar.specs.Attributes.{known_attributes, naming_attributes}
use Rattle.ge_model_grammar.specs.declared.RuleLine.{RuleLine}
use Rattle.ge_model_grammar.specs.declared.Body.{Body}
use Rattle.ge_model_grammar.specs.declared.Body.TheVariants.{Attributes, RuleSet, Nodes, ComplexRows}
use Rattle.ge_model_grammar.specs.declared.NodeLines.{NodeLines}
use Rattle.ge_model_grammar.specs.declared.ComplexLine.{ComplexLine}

-- lines

-- a line and those behind it: one that ends with \ is joined with the next, nothing stands in place of the \, and a last line's stays
abbrev pub joined_lines : List ℕ → List (List ℕ) → List (List ℕ)
joined_lines line [] = line ∷ []
joined_lines line (next ∷ lines) =
    elim (ends_in (codes "\\") line) [ true ↦ joined_lines (take (length line - 1) line ++ next) lines | false ↦ line ∷ joined_lines next lines ]

-- whether a line counts: blank lines and those whose first byte is # don't
abbrev pub counts : List ℕ → Bool
counts line = not (is_empty (trimmed line)) && not (begins_with (codes "#") line)

-- the lines of a body that count
abbrev pub body_lines : List ℕ → List (List ℕ)
body_lines body = filter counts (joined_lines [] (text_lines body))

-- attributes

-- the first word of a line, and the rest without the blanks at its ends
abbrev pub attribute_line : List ℕ → List ℕ × List ℕ
attribute_line line = (before_first is_blank (trimmed line), trimmed (after_first is_blank (trimmed line)))

-- what a body gives an attribute
abbrev pub attribute_in : List (List ℕ × List ℕ) → List ℕ → Option (List ℕ)
attribute_in values name = at_text values name

-- whether a body gives it one
abbrev pub has_attribute : List (List ℕ × List ℕ) → List ℕ → Bool
has_attribute values name = is_some (attribute_in values name)

-- attributes and one more: none where it isn't known, where it has come before and where it has no value
abbrev pub with_attribute : List (List ℕ) → List (List ℕ × List ℕ) → List ℕ × List ℕ → Option (List (List ℕ × List ℕ))
with_attribute known values attribute =
    if is_one_of attribute.0 known && not (has_attribute values attribute.0) && not (is_empty attribute.1) then Some (values ++ attribute ∷ [])
    else None

-- attributes and those of lines
abbrev pub attributes_after : List (List ℕ) → List (List ℕ × List ℕ) → List (List ℕ) → Option (List (List ℕ × List ℕ))
attributes_after known values [] = Some values
attributes_after known values (line ∷ lines) =
    elim (with_attribute known values (attribute_line line)) [ None ↦ None | Some more ↦ attributes_after known more lines ]

-- the attributes of a body that has those that it has to have
abbrev pub if_named : ObjectKind → List (List ℕ × List ℕ) → Option Body
if_named kind values = if list_all (has_attribute values) (naming_attributes kind) then Some (Attributes values) else None

-- a body of lines `attribute value`
unfoldable pub attribute_body : ObjectKind → List (List ℕ) → Option Body
attribute_body kind lines = elim (attributes_after (known_attributes kind) [] lines) [ None ↦ None | Some values ↦ if_named kind values ]

-- rule sets (sge_resource_quota)

-- the attributes of a rule set beside its rules
abbrev pub rule_set_attributes : List (List ℕ)
rule_set_attributes = codes "name" ∷ codes "description" ∷ codes "enabled" ∷ []

-- a rule set has a name and at least one rule
abbrev pub finished_rules : List (List ℕ × List ℕ) → List RuleLine → Option Body
finished_rules values rules = if has_attribute values (codes "name") && not (is_empty rules) then Some (RuleSet values rules) else None

-- whether a line is a rule
abbrev pub is_limit : List ℕ → Bool
is_limit line = text_eq (attribute_line line).0 (codes "limit")

-- a rule set of which these attributes and rules are read: the lines behind them, up to the } that ends it
abbrev pub rule_set_from : List (List ℕ × List ℕ) → List RuleLine → List (List ℕ) → Option Body
rule_set_from values rules [] = None
rule_set_from values rules (line ∷ lines) =
    elim (text_eq (trimmed line) (codes "}")) [
      | true ↦ if is_empty lines then finished_rules values rules else None
      | false ↦ elim (is_limit line) [
        | true ↦ elim (rule_line_of (attribute_line line).1) [ None ↦ None | Some rule ↦ rule_set_from values (rules ++ rule ∷ []) lines ]
        | false ↦ elim (with_attribute rule_set_attributes values (attribute_line line)) [ None ↦ None | Some more ↦ rule_set_from more rules lines ]
      ]
    ]

-- the body of a rule set: {, its lines, and }
unfoldable pub rule_set_body : List (List ℕ) → Option Body
rule_set_body [] = None
rule_set_body (line ∷ lines) = if text_eq (trimmed line) (codes "{") then rule_set_from [] [] lines else None

-- share trees (share_tree)

-- what stands behind a key and its = on a line
abbrev pub value_behind : List ℕ → List ℕ → Option (List ℕ)
value_behind key line = if begins_with key (trimmed line) then Some (drop (length key) (trimmed line)) else None

-- the node of its five values
abbrev pub node_with : List (List ℕ) → Option NodeLines
node_with (id ∷ name ∷ sort ∷ shares ∷ children ∷ []) =
    Some (record { id = id; name = name; sort = sort; shares = shares; children = children })
node_with _ = None

-- the lines of a node, in their order
abbrev pub node_keys : List (List ℕ)
node_keys = codes "id=" ∷ codes "name=" ∷ codes "type=" ∷ codes "shares=" ∷ codes "childnodes=" ∷ []

-- the value of a line, by its key and the line
abbrev pub keyed_value : List ℕ × List ℕ → Option (List ℕ)
keyed_value line = value_behind line.0 line.1

-- the node of five lines
abbrev pub node_lines_of : List (List ℕ) → Option NodeLines
node_lines_of lines = elim (read_each keyed_value (zip node_keys lines)) [ None ↦ None | Some values ↦ node_with values ]

-- nodes and those of lines, five for each
abbrev pub nodes_after : List NodeLines → List (List ℕ) → Option (List NodeLines)
nodes_after nodes [] = Some nodes
nodes_after nodes (id ∷ name ∷ sort ∷ shares ∷ children ∷ lines) =
    elim (node_lines_of (id ∷ name ∷ sort ∷ shares ∷ children ∷ [])) [ None ↦ None | Some node ↦ nodes_after (nodes ++ node ∷ []) lines ]
nodes_after nodes _ = None

-- the body of a share tree
unfoldable pub node_body : List (List ℕ) → Option Body
node_body lines = option_map Nodes (nodes_after [] lines)

-- complexes (complex)

-- the complex of its eight words
abbrev pub complex_with : List (List ℕ) → Option ComplexLine
complex_with (name ∷ shortcut ∷ kind ∷ relop ∷ requestable ∷ consumable ∷ fallback ∷ urgency ∷ []) =
    Some (record {
      name = name;
      shortcut = shortcut;
      kind = kind;
      relop = relop;
      requestable = requestable;
      consumable = consumable;
      fallback = fallback;
      urgency = urgency;
    })
complex_with _ = None

-- the complex of a line of eight words
abbrev pub complex_line : List ℕ → Option ComplexLine
complex_line line = complex_with (blank_pieces line)

-- the body of the table of complexes
unfoldable pub complex_body : List (List ℕ) → Option Body
complex_body lines = option_map ComplexRows (read_each complex_line lines)

-- bodies

-- the body that lines are; the lists of managers and operators have none
abbrev pub body_of_lines : ObjectKind → List (List ℕ) → Option Body
body_of_lines ObjectKind.Complexes lines = complex_body lines
body_of_lines ObjectKind.Shares lines = node_body lines
body_of_lines ObjectKind.Quota lines = rule_set_body lines
body_of_lines ObjectKind.Managers lines = None
body_of_lines ObjectKind.Operators lines = None
body_of_lines ObjectKind.Host lines = attribute_body ObjectKind.Host lines
body_of_lines ObjectKind.Group lines = attribute_body ObjectKind.Group lines
body_of_lines ObjectKind.Queue lines = attribute_body ObjectKind.Queue lines
body_of_lines ObjectKind.Pe lines = attribute_body ObjectKind.Pe lines
body_of_lines ObjectKind.Set lines = attribute_body ObjectKind.Set lines
body_of_lines ObjectKind.User lines = attribute_body ObjectKind.User lines
body_of_lines ObjectKind.Project lines = attribute_body ObjectKind.Project lines
body_of_lines ObjectKind.Sched lines = attribute_body ObjectKind.Sched lines

-- a body of a kind of object, if it is in its grammar: no attribute twice, none unknown, none missing that names the object
unfoldable pub body_of : ObjectKind → List ℕ → Option Body
body_of kind text = if list_all is_plain_line (text_lines text) then body_of_lines kind (body_lines text) else None

-- all that a row of bodies computes through
unfoldable pub grammar_of_bodies : Unit {0}
unfolding body_of attribute_body rule_line_of rule_set_body node_body complex_body
grammar_of_bodies = tt
