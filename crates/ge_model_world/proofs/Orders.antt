-- Orders as they are read: their serials rise. What a daemon has after them.
use Rattle.std.proofs.Common.{◌≡◌, ◌⊎◌, inl, inr, ⊎_elim, ℕ, ◌+◌, ◌<◌, ◌≤◌, Bool, true, false, if◌then◌else◌, List, [], ◌∷◌, map, fold, max, Option, Some, None, Ok, Err, Result, refl, ap, sym, ◌∙◌, subst, arith}
use Rattle.std.specs.Prelude.{◌&&◌, nat_eq, nat_lt, nat_le, IfSome, IfOk, option_map, codes}
use Rattle.std.specs.List.{IsDistinct, filter_map, cons_option}
use Rattle.std.proofs.lemmas.Bool.{ltb-true, leb-true}
use Rattle.ge_limits.specs.Limits as limit
use Rattle.ge_collections.specs.Keyed.{put_number, text_eq}
use Rattle.ge_model_text.specs.Value.{number}
use Rattle.ge_model_rows.specs.EventRows.{Reply}
use Rattle.ge_model_grammar.specs.Header.{is_decimal}
use Rattle.ge_model_jobs.specs.Orderly.{KeysFrom}
use Rattle.ge_model_jobs.proofs.Keys.{put_rises}
use Rattle.ge_execd.specs.declared.rows.Order.{Order}
use Rattle.ge_execd.specs.declared.rows.OrderLine.{OrderLine}
use Rattle.ge_execd.specs.declared.rows.OrderLine.TheVariants.{Run, Kill}
use Rattle.ge_execd.specs.declared.rows.Stage.{Stage}
use Rattle.ge_execd.specs.declared.rows.Stage.TheVariants.{Claimed, Ended}
use Rattle.ge_execd.specs.declared.rows.WorkFault.TheVariants.{Refused}
use Rattle.ge_execd.specs.Orders.{number_to, serial_number, short_number, run_with, word_of, behind_of, run_in, line_in, line_serial, line_above, onto_orders, orders_from, or_bad, orders_in}
use Rattle.ge_execd.specs.Daemons.{killed_exit, seen_with, obeyed, started}
use Rattle.ge_model_world.specs.Worlds.{order_serial}
use Rattle.ge_model_world.specs.Laws.{Has}
use Rattle.ge_model_world.specs.Laws.Has.{here, there}
use Rattle.ge_model_world.proofs.Lists.{has_put, first_or, no_other}

-- ---- serials in range

-- a number that is read is at most the greatest
within : (greatest : ℕ) (text : List ℕ) → IfSome (number_to greatest text) (λ n. n ≤ greatest)
within greatest text = by (is_decimal text) (nat_le (number text) greatest) refl
  where
    by : (a b : Bool) → nat_le (number text) greatest ≡ b → IfSome (if a && b then Some (number text) else None) (λ n. n ≤ greatest)
    by true true is = leb-true (number text) greatest is
    by true false is = tt
    by false b is = tt

run_within : (a b c d : Option ℕ) → IfSome a (λ n. n ≤ limit.last_serial)
    → IfSome (option_map Run (run_with a b c d)) (λ o. line_serial o ≤ limit.last_serial)
run_within (Some serial) (Some job) (Some task) (Some slots) fits = fits
run_within (Some serial) (Some job) (Some task) None fits = tt
run_within (Some serial) (Some job) None d fits = tt
run_within (Some serial) None c d fits = tt
run_within None b c d fits = tt

kill_within : (a : Option ℕ) → IfSome a (λ n. n ≤ limit.last_serial) → IfSome (option_map Kill a) (λ o. line_serial o ≤ limit.last_serial)
kill_within None fits = tt
kill_within (Some serial) fits = fits

order_within : (text : List ℕ) → IfSome (line_in text) (λ o. line_serial o ≤ limit.last_serial)
order_within text = by (text_eq (word_of text) (codes "run")) (text_eq (word_of text) (codes "kill"))
  where
    by : (a b : Bool) → IfSome (if a then option_map Run (run_in (behind_of text)) else (if b then option_map Kill (serial_number (behind_of text)) else None))
        (λ o. line_serial o ≤ limit.last_serial)
    by true b =
        let jobs = behind_of (behind_of text) in
        let tasks = behind_of jobs in
        run_within (serial_number (word_of (behind_of text))) (short_number (word_of jobs)) (short_number (word_of tasks)) (short_number (behind_of tasks))
        (within limit.last_serial (word_of (behind_of text)))
    by false true = kill_within (serial_number (behind_of text)) (within limit.last_serial (behind_of text))
    by false false = tt

-- orders whose serials rise from above one on, and are in range
pub data Rise : ℕ → List OrderLine → Type 0 where
  none : {last : ℕ} → Rise last []
  next : {last : ℕ} {order : OrderLine} {orders : List OrderLine} → last < line_serial order → line_serial order ≤ limit.last_serial → Rise (line_serial order) orders → Rise last (order ∷ orders)

from_rise : (last place : ℕ) (lines : List (List ℕ)) → IfOk (orders_from last place lines) (λ orders. Rise last orders)
from_rise last place [] = none
from_rise last place (line ∷ lines) = by (line_in line) (order_within line) (λ o. from_rise (line_serial o) (place + 1) lines)
  where
    onto : (o : OrderLine) (rest : Result (List OrderLine) ℕ) → last < line_serial o → line_serial o ≤ limit.last_serial → IfOk rest (λ orders. Rise (line_serial o) orders) → IfOk (onto_orders o rest) (λ orders. Rise last orders)
    onto o (Ok orders) above below rise = next above below rise
    onto o (Err place) above below rise = tt

    by : (read : Option OrderLine) → IfSome read (λ o. line_serial o ≤ limit.last_serial) → ((o : OrderLine) → IfOk (orders_from (line_serial o) (place + 1) lines) (λ orders. Rise (line_serial o) orders))
        → IfOk (elim (line_above last read) as (λ x. Result (List OrderLine) ℕ) [ None ↦ Err place | Some order ↦ onto_orders order (orders_from (line_serial order) (place + 1) lines) ]) (λ orders. Rise last orders)
    by None below rest = tt
    by (Some o) below rest = test (nat_lt last (line_serial o)) refl
      where
        test : (b : Bool) → nat_lt last (line_serial o) ≡ b
            → IfOk (elim (if b then Some o else None) as (λ x. Result (List OrderLine) ℕ) [ None ↦ Err place | Some order ↦ onto_orders order (orders_from (line_serial order) (place + 1) lines) ]) (λ orders. Rise last orders)
        test true is = onto o (orders_from (line_serial o) (place + 1) lines) (ltb-true last (line_serial o) is) below (rest o)
        test false is = tt

-- the serials of a reply's orders rise
pub read_rise : (reply : Reply) (orders : List OrderLine) → orders_in reply ≡ Ok orders → Rise 0 orders
unfolding orders_in
read_rise reply orders is = by _ (orders_from 0 0 reply.lines) (from_rise 0 0 reply.lines) is
  where
    by : (a : Bool) (read : Result (List OrderLine) ℕ) → IfOk read (λ orders. Rise 0 orders) → (if a then or_bad read else Err (Refused reply.code)) ≡ Ok orders → Rise 0 orders
    by true (Ok all) rise is = let same : all ≡ orders = cc in subst (λ xs. Rise 0 xs) same rise
    by true (Err place) rise is = cc
    by false read rise is = cc

pub rise_has : {last : ℕ} {orders : List OrderLine} (o : OrderLine) → Rise last orders → Has o orders → (last < line_serial o) × (line_serial o ≤ limit.last_serial)
rise_has o none h = elim h [ ]
rise_has o (next {last = last} {order = order} {orders = orders} above below rise) h = by (first_or h) (λ h. rise_has o rise h)
  where
    by : (o ≡ order) ⊎ Has o orders → (Has o orders → (line_serial order < line_serial o) × (line_serial o ≤ limit.last_serial)) → (last < line_serial o) × (line_serial o ≤ limit.last_serial)
    by (inl same) rest = subst (λ x. (last < line_serial x) × (line_serial x ≤ limit.last_serial)) (sym same) (above, below)
    by (inr h) rest = let r = rest h in (omega (arith, r.0), r.1)

-- ---- what a daemon has after orders

-- a stage that orders make: claimed, or ended before it began
abbrev pub IsMade : Stage → Type 0
IsMade stage = (stage ≡ Claimed) ⊎ (stage ≡ Ended killed_exit 0 0 0)

-- a row after orders stood before them, or is that of one of them, above what was seen
pub record IsNewRow (seen : ℕ) (orders : List OrderLine) (serial : ℕ) (stage : Stage) : Type 0 where
  pub order : OrderLine
  pub in_it : Has order orders
  pub same : line_serial order ≡ serial
  pub above : seen < serial
  pub made : IsMade stage

obeyed_row : (seen : ℕ) (tasks : List (ℕ × Stage)) (order : OrderLine) (serial : ℕ) (stage : Stage) → Has (serial, stage) (obeyed seen tasks order)
    → Has (serial, stage) tasks ⊎ ((line_serial order ≡ serial) × (seen < serial) × IsMade stage)
obeyed_row seen tasks (Run order) serial stage h = by (nat_lt seen order.serial) refl h
  where
    put : (seen < order.serial) → Has (serial, stage) tasks ⊎ (◌≡◌ {A = ℕ × Stage} (serial, stage) (order.serial, Claimed)) → Has (serial, stage) tasks ⊎ ((order.serial ≡ serial) × (seen < serial) × IsMade stage)
    put above (inl h) = inl h
    put above (inr is) = let key : serial ≡ order.serial = ap (λ r. r.0) is in inr (sym key, omega arith, inl (ap (λ r. r.1) is))

    by : (b : Bool) → nat_lt seen order.serial ≡ b → Has (serial, stage) (if b then put_number tasks order.serial Claimed else tasks) → Has (serial, stage) tasks ⊎ ((order.serial ≡ serial) × (seen < serial) × IsMade stage)
    by true is h = put (ltb-true seen order.serial is) (has_put tasks order.serial Claimed h)
    by false is h = inl h
obeyed_row seen tasks (Kill n) serial stage h = by (nat_lt seen n) refl h
  where
    put : (seen < n) → Has (serial, stage) tasks ⊎ (◌≡◌ {A = ℕ × Stage} (serial, stage) (n, Ended killed_exit 0 0 0)) → Has (serial, stage) tasks ⊎ ((n ≡ serial) × (seen < serial) × IsMade stage)
    put above (inl h) = inl h
    put above (inr is) = let key : serial ≡ n = ap (λ r. r.0) is in inr (sym key, omega arith, inr (ap (λ r. r.1) is))

    by : (b : Bool) → nat_lt seen n ≡ b → Has (serial, stage) (if b then put_number tasks n (Ended killed_exit 0 0 0) else tasks) → Has (serial, stage) tasks ⊎ ((n ≡ serial) × (seen < serial) × IsMade stage)
    by true is h = put (ltb-true seen n is) (has_put tasks n (Ended killed_exit 0 0 0) h)
    by false is h = inl h

pub orders_row : (seen : ℕ) (tasks : List (ℕ × Stage)) (orders : List OrderLine) (serial : ℕ) (stage : Stage) → Has (serial, stage) (fold (obeyed seen) tasks orders)
    → Has (serial, stage) tasks ⊎ IsNewRow seen orders serial stage
orders_row seen tasks [] serial stage h = inl h
orders_row seen tasks (order ∷ orders) serial stage h = by (orders_row seen (obeyed seen tasks order) orders serial stage h)
  where
    first : Has (serial, stage) tasks ⊎ ((line_serial order ≡ serial) × (seen < serial) × IsMade stage) → Has (serial, stage) tasks ⊎ IsNewRow seen (order ∷ orders) serial stage
    first (inl h) = inl h
    first (inr new) = inr (record { order = order; in_it = here; same = new.0; above = new.1; made = new.2 })

    by : Has (serial, stage) (obeyed seen tasks order) ⊎ IsNewRow seen orders serial stage → Has (serial, stage) tasks ⊎ IsNewRow seen (order ∷ orders) serial stage
    by (inl h) = first (obeyed_row seen tasks order serial stage h)
    by (inr new) = inr (record { order = new.order; in_it = there new.in_it; same = new.same; above = new.above; made = new.made })

-- tables keep rising keys
obeyed_rises : (seen : ℕ) (tasks : List (ℕ × Stage)) (order : OrderLine) → KeysFrom 0 tasks → KeysFrom 0 (obeyed seen tasks order)
obeyed_rises seen tasks (Run order) keys = by (nat_lt seen order.serial)
  where
    by : (b : Bool) → KeysFrom 0 (if b then put_number tasks order.serial Claimed else tasks)
    by true = put_rises 0 order.serial tasks Claimed (omega arith) keys
    by false = keys
obeyed_rises seen tasks (Kill n) keys = by (nat_lt seen n)
  where
    by : (b : Bool) → KeysFrom 0 (if b then put_number tasks n (Ended killed_exit 0 0 0) else tasks)
    by true = put_rises 0 n tasks (Ended killed_exit 0 0 0) (omega arith) keys
    by false = keys

pub orders_rise : (seen : ℕ) (tasks : List (ℕ × Stage)) (orders : List OrderLine) → KeysFrom 0 tasks → KeysFrom 0 (fold (obeyed seen) tasks orders)
orders_rise seen tasks [] keys = keys
orders_rise seen tasks (order ∷ orders) keys = orders_rise seen (obeyed seen tasks order) orders (obeyed_rises seen tasks order keys)

-- what was seen only grows, and is at least each order's serial
pub seen_grows : (seen : ℕ) (orders : List OrderLine) → seen ≤ fold seen_with seen orders
seen_grows seen [] = omega arith
seen_grows seen (order ∷ orders) = let rest = seen_grows (max seen (line_serial order)) orders in omega (arith, rest)

pub seen_has : (seen : ℕ) (orders : List OrderLine) (o : OrderLine) → Has o orders → line_serial o ≤ fold seen_with seen orders
seen_has seen [] o h = elim h [ ]
seen_has seen (order ∷ orders) o h = by (first_or h) (λ h. seen_has (max seen (line_serial order)) orders o h)
  where
    by : (o ≡ order) ⊎ Has o orders → (Has o orders → line_serial o ≤ fold seen_with (max seen (line_serial order)) orders) → line_serial o ≤ fold seen_with (max seen (line_serial order)) orders
    by (inl same) rest =
        let grows : max seen (line_serial order) ≤ fold seen_with (max seen (line_serial order)) orders = seen_grows (max seen (line_serial order)) orders in
        let is : line_serial o ≡ line_serial order = ap line_serial same in
        omega arith
    by (inr h) rest = rest h

-- ---- starts

-- a task that an order starts is that of the order, with a serial above what was seen
start_is : (seen : ℕ) (o : OrderLine) (order : Order) → started seen o ≡ Some order → (line_serial o ≡ order.serial) × (seen < order.serial)
start_is seen (Run order) found is = by (nat_lt seen order.serial) refl is
  where
    by : (b : Bool) → nat_lt seen order.serial ≡ b → (if b then Some order else None) ≡ Some found → (order.serial ≡ found.serial) × (seen < found.serial)
    by true above is =
        let same : order ≡ found = cc in
        (ap order_serial same, subst (λ x. seen < x.serial) same (ltb-true seen order.serial above))
    by false above is = cc
start_is seen (Kill serial) found is = cc

-- a serial that is started: that of an order, above what was seen
pub started_order : (seen : ℕ) (orders : List OrderLine) (serial : ℕ) → Has serial (map order_serial (filter_map (started seen) orders))
    → (o : OrderLine) × Has o orders × (line_serial o ≡ serial) × (seen < serial)
started_order seen [] serial h = elim h [ ]
started_order seen (o ∷ orders) serial h = by (started seen o) refl (λ h. started_order seen orders serial h) h
  where
    later : (p : OrderLine) × Has p orders × (line_serial p ≡ serial) × (seen < serial) → (p : OrderLine) × Has p (o ∷ orders) × (line_serial p ≡ serial) × (seen < serial)
    later found = (found.0, there found.1, found.2, found.3)

    by : (start : Option Order) → started seen o ≡ start
        → (Has serial (map order_serial (filter_map (started seen) orders)) → (p : OrderLine) × Has p orders × (line_serial p ≡ serial) × (seen < serial))
        → Has serial (map order_serial (cons_option start (filter_map (started seen) orders))) → (p : OrderLine) × Has p (o ∷ orders) × (line_serial p ≡ serial) × (seen < serial)
    by None is rest h = later (rest h)
    by (Some order) is rest h = ⊎_elim
        (λ same. let one = start_is seen o order is in (o, here, one.0 ∙ sym same, subst (λ n. seen < n) (sym same) one.1))
        (λ more. later (rest more)) (first_or h)

-- serials that rise differ
pub starts_distinct : (seen : ℕ) {last : ℕ} (orders : List OrderLine) → Rise last orders → IsDistinct nat_eq (map order_serial (filter_map (started seen) orders))
unfolding IsDistinct
starts_distinct seen [] rise = tt
starts_distinct seen (o ∷ orders) (next above below rise) = by (started seen o) refl (starts_distinct seen orders rise)
  where
    never : (serial : ℕ) → line_serial o ≡ serial → Has serial (map order_serial (filter_map (started seen) orders)) → ⊥
    never serial is h =
        let found = started_order seen orders serial h in
        let more = rise_has found.0 rise found.1 in
        let same : line_serial found.0 ≡ serial = found.2 in
        absurd (omega (arith, more.0, same, is))

    by : (start : Option Order) → started seen o ≡ start → IsDistinct nat_eq (map order_serial (filter_map (started seen) orders))
        → IsDistinct nat_eq (map order_serial (cons_option start (filter_map (started seen) orders)))
    by None is rest = rest
    by (Some order) is rest = (no_other order.serial (map order_serial (filter_map (started seen) orders)) (never order.serial (start_is seen o order is).0), rest)
