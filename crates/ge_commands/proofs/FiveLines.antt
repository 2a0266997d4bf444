-- The five lines of a node.
use Rattle.std.proofs.Common.{◌≡◌, ℕ, ◌≤◌, ◌<◌, List, [], ◌∷◌, ◌++◌, length, take, drop, Option, Some, None, refl, ap, sym, ◌∙◌, arith}
use Rattle.ge_model_grammar.specs.declared.NodeLines.{NodeLines}
use Rattle.ge_model_grammar.specs.Bodies.{node_lines_of, nodes_after}

-- what five lines or more give: their first node, and what the lines behind it add
pub one_node : (nodes : List NodeLines) (rest : List (List ℕ)) → 5 ≤ length rest
    → nodes_after nodes rest ≡ elim (node_lines_of (take 5 rest)) [ None ↦ None | Some node ↦ nodes_after (nodes ++ node ∷ []) (drop 5 rest) ]
one_node nodes (a ∷ b ∷ c ∷ d ∷ e ∷ rest) enough = refl
one_node nodes [] enough = absurd (omega arith)
one_node nodes (a ∷ []) enough = absurd (omega arith)
one_node nodes (a ∷ b ∷ []) enough = absurd (omega arith)
one_node nodes (a ∷ b ∷ c ∷ []) enough = absurd (omega arith)
one_node nodes (a ∷ b ∷ c ∷ d ∷ []) enough = absurd (omega arith)

-- fewer lines, but some, are none
pub too_few : (nodes : List NodeLines) (rest : List (List ℕ)) → length rest < 5 → (rest ≡ [] → ⊥) → nodes_after nodes rest ≡ None
too_few nodes [] few some = absurd (some refl)
too_few nodes (a ∷ []) few some = refl
too_few nodes (a ∷ b ∷ []) few some = refl
too_few nodes (a ∷ b ∷ c ∷ []) few some = refl
too_few nodes (a ∷ b ∷ c ∷ d ∷ []) few some = refl
too_few nodes (a ∷ b ∷ c ∷ d ∷ e ∷ rest) few some = absurd (omega arith)

-- one more node
pub node_turn : (nodes : List NodeLines) (rest after : List (List ℕ)) (node : NodeLines) (total : Option (List NodeLines)) → 5 ≤ length rest
    → node_lines_of (take 5 rest) ≡ Some node → after ≡ drop 5 rest → nodes_after nodes rest ≡ total → nodes_after (nodes ++ node ∷ []) after ≡ total
node_turn nodes rest after node total enough is behind so_far =
    let e : nodes_after nodes rest ≡ nodes_after (nodes ++ node ∷ []) (drop 5 rest) = rw (one_node nodes rest enough, is) refl in
    ap (nodes_after (nodes ++ node ∷ [])) behind ∙ sym e ∙ so_far
