-- One more line of orders.
use Rattle.std.proofs.Common.{◌≡◌, ℕ, ◌+◌, ◌<◌, List, [], ◌∷◌, ◌++◌, Option, Some, None, Result, Ok, Err, refl, ap, sym, ◌∙◌, append_assoc, length, drop, get_or, suc, drop-cons, arith}
use Rattle.ge_execd.specs.declared.rows.OrderLine.{OrderLine}
use Rattle.ge_execd.specs.Orders.{line_in, line_serial, line_above, onto_orders, orders_from}

-- orders before those of the lines behind them
abbrev pub onto_all : List OrderLine → Result (List OrderLine) ℕ → Result (List OrderLine) ℕ
onto_all orders (Ok more) = Ok (orders ++ more)
onto_all orders (Err place) = Err place

onto_more : (orders : List OrderLine) (o : OrderLine) (rest : Result (List OrderLine) ℕ)
    → onto_all orders (onto_orders o rest) ≡ onto_all (orders ++ o ∷ []) rest
onto_more orders o (Ok more) = ap (λ xs. Ok xs) (sym (append_assoc orders (o ∷ []) more))
onto_more orders o (Err place) = refl

-- the order of a line goes behind those so far
pub turn : (orders new : List OrderLine) (o : OrderLine) (last place serial : ℕ) (text : List ℕ) (texts : List (List ℕ))
    (all : Result (List OrderLine) ℕ) → line_above last (line_in text) ≡ Some o → new ≡ orders ++ o ∷ [] → serial ≡ line_serial o
    → onto_all orders (orders_from last place (text ∷ texts)) ≡ all → onto_all new (orders_from serial (place + 1) texts) ≡ all
turn orders new o last place serial text texts all is grown same so_far =
    (λ i. onto_all (grown i) (orders_from (same i) (place + 1) texts))
    ∙ sym (onto_more orders o (orders_from (line_serial o) (place + 1) texts))
    ∙ ap (λ (found : Option OrderLine). onto_all orders (elim found as (λ x. Result (List OrderLine) ℕ) [
      | None ↦ Err place
      | Some line ↦ onto_orders line (orders_from (line_serial line) (place + 1) texts)
    ])) (sym is)
    ∙ so_far

-- the lines from a place on are the one there and those behind it
pub line_here : (lines : List (List ℕ)) (i : ℕ) (item text : List ℕ) → i < length lines → item ≡ get_or lines i item → text ≡ item
    → drop i lines ≡ text ∷ drop (i + 1) lines
line_here lines i item text more is same =
    let next : suc i ≡ i + 1 = omega arith in
    drop-cons lines i item more ∙ (λ j. sym is j ∷ drop (next j) lines) ∙ ap (λ t. t ∷ drop (i + 1) lines) (sym same)
