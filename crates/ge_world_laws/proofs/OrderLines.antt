-- A line of orders is read to the serial that it was written for, and what is read of a reply is read of its lines.
use Rattle.std.proofs.Common.{◌≡◌, ⊎_elim, ℕ, ◌+◌, ◌^◌, ◌<◌, Bool, true, false, if◌then◌else◌, List, [], ◌∷◌, ◌++◌, decimal, codes, Option, Some, None, Ok, Err, Result, refl, ap, sym, ◌∙◌, subst, append-nil}
use Rattle.std.specs.Prelude.{◌&&◌, ◌==◌, nat_lt, nat_le, IfSome, option_map}
use Rattle.ge_limits.specs.Limits as limit
use Rattle.ge_model_text.specs.Value.{number}
use Rattle.ge_model_rows.specs.EventRows.{Reply}
use Rattle.ge_model_rows.proofs.Digits.{decimal_digits, decimal_number, all_digits, digits_without, before_it}
use Rattle.ge_model_grammar.specs.Header.{is_decimal}
use Rattle.ge_model_report.specs.Grants.{worded}
use Rattle.ge_execd.specs.declared.rows.OrderLine.{OrderLine}
use Rattle.ge_execd.specs.declared.rows.OrderLine.TheVariants.{Run, Kill}
use Rattle.ge_execd.specs.declared.rows.WorkFault.TheVariants.{Refused}
use Rattle.ge_execd.specs.Orders.{number_to, run_with, word_of, line_in, line_serial, line_above, onto_orders, orders_from, or_bad, orders_in}
use Rattle.ge_model_world.specs.Laws.{Has}
use Rattle.ge_model_world.specs.Laws.Has.{here, there}
use Rattle.ge_model_world.proofs.Lists.{first_or}

-- ---- the serial of a line

-- what is read of a number's text is that number
number_is : (greatest n : ℕ) → n < 2 ^ 64 → IfSome (number_to greatest (decimal n)) (λ m. m ≡ n)
number_is greatest n small = by (is_decimal (decimal n) && nat_le (number (decimal n)) greatest)
  where
    by : (b : Bool) → IfSome (if b then Some (number (decimal n)) else None) (λ m. m ≡ n)
    by true = decimal_number n small
    by false = tt

-- a number stands before the first blank behind it
word_is : (n : ℕ) (rest : List ℕ) → word_of (decimal n ++ 32 ∷ rest) ≡ decimal n
word_is n rest = before_it 32 (decimal n) rest (digits_without 32 (decimal n) refl (all_digits (decimal n) (decimal_digits n)))

run_serial : (n : ℕ) (a b c d : Option ℕ) → IfSome a (λ m. m ≡ n) → IfSome (option_map Run (run_with a b c d)) (λ o. line_serial o ≡ n)
run_serial n (Some serial) (Some job) (Some task) (Some slots) is = is
run_serial n (Some serial) (Some job) (Some task) None is = tt
run_serial n (Some serial) (Some job) None d is = tt
run_serial n (Some serial) None c d is = tt
run_serial n None b c d is = tt

kill_serial : (n : ℕ) (a : Option ℕ) → IfSome a (λ m. m ≡ n) → IfSome (option_map Kill a) (λ o. line_serial o ≡ n)
kill_serial n None is = tt
kill_serial n (Some serial) is = is

-- the lines that the master writes
abbrev pub run_line : ℕ → ℕ → ℕ → ℕ → List ℕ
run_line serial job task slots = worded (codes "run" ∷ decimal serial ∷ decimal job ∷ decimal task ∷ decimal slots ∷ [])

abbrev pub kill_line : ℕ → List ℕ
kill_line serial = worded (codes "kill" ∷ decimal serial ∷ [])

pub run_line_back : (serial job task slots : ℕ) → serial < 2 ^ 64 → IfSome (line_in (run_line serial job task slots)) (λ o. line_serial o ≡ serial)
run_line_back serial job task slots small =
    run_serial serial _ _ _ _
    (subst (λ text. IfSome (number_to limit.last_serial text) (λ m. m ≡ serial)) (sym (word_is serial (decimal job ++ 32 ∷ (decimal task ++ 32 ∷ (decimal slots ++ []))))) (number_is limit.last_serial serial small))

pub kill_line_back : (serial : ℕ) → serial < 2 ^ 64 → IfSome (line_in (kill_line serial)) (λ o. line_serial o ≡ serial)
kill_line_back serial small =
    kill_serial serial _ (subst (λ text. IfSome (number_to limit.last_serial text) (λ m. m ≡ serial)) (sym (append-nil (decimal serial))) (number_is limit.last_serial serial small))

-- ---- the lines of a reply

-- an order that is read is that of a line
order_line_of : (last place : ℕ) (texts : List (List ℕ)) (orders : List OrderLine) (o : OrderLine) → orders_from last place texts ≡ Ok orders → Has o orders
    → (text : List ℕ) × Has text texts × (line_in text ≡ Some o)
order_line_of last place [] orders o is h = let none : [] ≡ orders = cc in elim (subst (λ xs. Has o xs) (sym none) h) [ ]
order_line_of last place (text ∷ texts) orders o is h = by (line_in text) refl (λ n rest. order_line_of n (place + 1) texts rest o) is
  where
    more : (found : OrderLine) → line_in text ≡ Some found → (rest : Result (List OrderLine) ℕ)
        → ((xs : List OrderLine) → rest ≡ Ok xs → Has o xs → (one : List ℕ) × Has one texts × (line_in one ≡ Some o))
        → onto_orders found rest ≡ Ok orders → (one : List ℕ) × Has one (text ∷ texts) × (line_in one ≡ Some o)
    more found here_is (Err wrong) again is = cc
    more found here_is (Ok xs) again is =
        let all : found ∷ xs ≡ orders = cc in
        ⊎_elim (λ same. (text, here, here_is ∙ ap (λ x. Some x) (sym same))) (λ later. let r = again xs refl later in (r.0, there r.1, r.2)) (first_or (subst (λ ys. Has o ys) (sym all) h))

    by : (found : Option OrderLine) → line_in text ≡ found
        → ((n : ℕ) (rest : List OrderLine) → orders_from n (place + 1) texts ≡ Ok rest → Has o rest → (one : List ℕ) × Has one texts × (line_in one ≡ Some o))
        → elim (line_above last found) as (λ x. Result (List OrderLine) ℕ) [ None ↦ Err place | Some line ↦ onto_orders line (orders_from (line_serial line) (place + 1) texts) ] ≡ Ok orders
        → (one : List ℕ) × Has one (text ∷ texts) × (line_in one ≡ Some o)
    by None here_is again is = cc
    by (Some found) here_is again is = test (nat_lt last (line_serial found)) is
      where
        test : (b : Bool)
            → elim (if b then Some found else None) as (λ x. Result (List OrderLine) ℕ) [ None ↦ Err place | Some line ↦ onto_orders line (orders_from (line_serial line) (place + 1) texts) ] ≡ Ok orders
            → (one : List ℕ) × Has one (text ∷ texts) × (line_in one ≡ Some o)
        test true is = more found here_is (orders_from (line_serial found) (place + 1) texts) (again (line_serial found)) is
        test false is = cc

-- what a reply's orders are read of: its code is 0, and an order is that of a line
pub record IsRead (reply : Reply) (o : OrderLine) : Type 0 where
  pub accepted : (reply.code == 0) ≡ true
  pub text : List ℕ
  pub there : Has text reply.lines
  pub is : line_in text ≡ Some o

pub reply_line_of : (reply : Reply) (orders : List OrderLine) (o : OrderLine) → orders_in reply ≡ Ok orders → Has o orders → IsRead reply o
unfolding orders_in
reply_line_of reply orders o is h = by (reply.code == 0) refl (orders_from 0 0 reply.lines) (λ read. order_line_of 0 0 reply.lines orders o read h) is
  where
    by : (a : Bool) → (reply.code == 0) ≡ a → (read : Result (List OrderLine) ℕ) → (read ≡ Ok orders → (text : List ℕ) × Has text reply.lines × (line_in text ≡ Some o))
        → (if a then or_bad read else Err (Refused reply.code)) ≡ Ok orders → IsRead reply o
    by true code (Ok all) found is =
        let same : all ≡ orders = cc in
        let line = found (ap (λ xs. Ok xs) same) in
        record { accepted = code; text = line.0; there = line.1; is = line.2 }
    by true code (Err place) found is = cc
    by false code read found is = cc
