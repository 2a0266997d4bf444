-- Serials that a reply to orders named, by the daemon that it was sent to.
use Rattle.std.proofs.Common.{◌≡◌, ◌⊎◌, inl, inr, ℕ, List, [], ◌∷◌, ◌++◌, Ok, ap, subst}
use Rattle.ge_model_rows.specs.EventRows.{Reply}
use Rattle.ge_execd.specs.declared.rows.OrderLine.{OrderLine}
use Rattle.ge_execd.specs.Orders.{orders_in, line_serial}
use Rattle.ge_model_world.specs.declared.rows.Message.{Message}
use Rattle.ge_model_world.specs.declared.rows.Message.TheVariants.{Orders, Answer}
use Rattle.ge_model_world.specs.Laws.{Has}
use Rattle.ge_model_world.proofs.Lists.{has_append, has_left, first_or, has_none}

-- a reply that was sent to a daemon names a serial, to run it or to kill it
pub record Got (sent : List (ℕ × Message)) (daemon serial : ℕ) : Type 0 where
  pub reply : Reply
  pub orders : List OrderLine
  pub order : OrderLine
  pub was : Has (daemon, Orders reply) sent
  pub read : orders_in reply ≡ Ok orders
  pub in_it : Has order orders
  pub same : line_serial order ≡ serial

pub got_more : {sent : List (ℕ × Message)} {daemon serial : ℕ} (more : List (ℕ × Message)) → Got sent daemon serial → Got (sent ++ more) daemon serial
got_more {sent = sent} more got = record { reply = got.reply; orders = got.orders; order = got.order; was = has_left sent more got.was; read = got.read; in_it = got.in_it; same = got.same }

-- what is named by messages was named by the first of them, or by those behind
pub got_where : {daemon serial : ℕ} (sent more : List (ℕ × Message)) → Got (sent ++ more) daemon serial → Got sent daemon serial ⊎ Got more daemon serial
got_where {daemon = daemon} {serial = serial} sent more got = by (has_append sent more got.was)
  where
    by : Has (daemon, Orders got.reply) sent ⊎ Has (daemon, Orders got.reply) more → Got sent daemon serial ⊎ Got more daemon serial
    by (inl was) = inl (record { reply = got.reply; orders = got.orders; order = got.order; was = was; read = got.read; in_it = got.in_it; same = got.same })
    by (inr was) = inr (record { reply = got.reply; orders = got.orders; order = got.order; was = was; read = got.read; in_it = got.in_it; same = got.same })

-- what one reply to orders names
pub got_one : {daemon serial place : ℕ} {reply : Reply} → Got ((place, Orders reply) ∷ []) daemon serial
    → (daemon ≡ place) × ((orders : List OrderLine) × (o : OrderLine) × (orders_in reply ≡ Ok orders) × Has o orders × (line_serial o ≡ serial))
got_one {daemon = daemon} {serial = serial} {place = place} {reply = reply} got = by (first_or got.was)
  where
    by : (◌≡◌ {A = ℕ × Message} (daemon, Orders got.reply) (place, Orders reply)) ⊎ Has {X = ℕ × Message} (daemon, Orders got.reply) []
        → (daemon ≡ place) × ((orders : List OrderLine) × (o : OrderLine) × (orders_in reply ≡ Ok orders) × Has o orders × (line_serial o ≡ serial))
    by (inl is) =
        let message : Orders got.reply ≡ Orders reply = ap (λ m. m.1) is in
        let same : got.reply ≡ reply = cc in
        (ap (λ m. m.0) is, (got.orders, got.order, subst (λ r. orders_in r ≡ Ok got.orders) same got.read, got.in_it, got.same))
    by (inr none) = absurd (has_none none)

-- an answer names none
pub got_none : {daemon serial : ℕ} → Got [] daemon serial → ⊥
got_none got = has_none got.was

pub got_answer : {daemon serial place number : ℕ} {reply : Reply} → Got ((place, Answer number reply) ∷ []) daemon serial → ⊥
got_answer {daemon = daemon} {place = place} {number = number} {reply = reply} got = by (first_or got.was)
  where
    by : (◌≡◌ {A = ℕ × Message} (daemon, Orders got.reply) (place, Answer number reply)) ⊎ Has {X = ℕ × Message} (daemon, Orders got.reply) [] → ⊥
    by (inl is) = let message : Orders got.reply ≡ Answer number reply = ap (λ m. m.1) is in cc
    by (inr none) = has_none none
