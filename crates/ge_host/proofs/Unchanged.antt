-- What leaves a daemon as it is.
use Rattle.std.proofs.Common.{◌≡◌, ℕ, ◌≤◌, max, Bool, true, false, cond, List, [], ◌∷◌, fold, Option, Some, None, refl, ap, ◌∙◌, arith}
use Rattle.std.specs.Prelude.{nat_lt, not, ◌==◌, ◌&&◌, if◌then◌else◌}
use Rattle.std.specs.BTreeMap.{is_at}
use Rattle.std.specs.Map.{lookup}
use Rattle.std.specs.Ordering.{nat_cmp}
use Rattle.std.proofs.lemmas.Bool.{le-ltb, eqb-true}
use Rattle.ge_collections.specs.Changed.{change_value}
use Rattle.ge_collections.specs.Keyed.{at_number, put_number, drop_number}
use Rattle.ge_model_rows.specs.EventRows.{Reply}
use Rattle.ge_execd.specs.Orders.{line_serial}
use Rattle.ge_execd.specs.Daemons.{seen_with, obeyed, after_orders, is_claimed, end_with, after_end, settles, is_ended, after_answer, killed_exit}
use Rattle.ge_execd.specs.declared.daemon.Daemon.{Daemon}
use Rattle.ge_execd.specs.declared.rows.OrderLine.{OrderLine}
use Rattle.ge_execd.specs.declared.rows.OrderLine.TheVariants.{Run, Kill}
use Rattle.ge_execd.specs.declared.rows.Stage.{Stage}
use Rattle.ge_execd.specs.declared.rows.Stage.TheVariants.{Claimed, Ended}
use Rattle.ge_host.specs.Hosts.{rises}

-- ---- orders that name nothing above what was seen

seen-grows : (seen : ℕ) (lines : List OrderLine) → seen ≤ fold seen_with seen lines
seen-grows seen [] = omega arith
seen-grows seen (line ∷ lines) = omega (arith, seen-grows (max seen (line_serial line)) lines)

obeyed-same : (seen : ℕ) (tasks : List (ℕ × Stage)) (line : OrderLine) → line_serial line ≤ seen → obeyed seen tasks line ≡ tasks
obeyed-same seen tasks (Run order) low = ap (λ t. if t then put_number tasks order.serial Claimed else tasks) (le-ltb seen order.serial low)
obeyed-same seen tasks (Kill serial) low = ap (λ t. if t then put_number tasks serial (Ended killed_exit 0 0 0) else tasks) (le-ltb seen serial low)

all-same : (seen last : ℕ) (tasks : List (ℕ × Stage)) (lines : List OrderLine) → fold seen_with last lines ≤ seen → fold (obeyed seen) tasks lines ≡ tasks
all-same seen last tasks [] low = refl
all-same seen last tasks (line ∷ lines) low =
    let step : line_serial line ≤ seen = omega (arith, seen-grows (max last (line_serial line)) lines, low) in
    ap (λ t. fold (obeyed seen) t lines) (obeyed-same seen tasks line step) ∙ all-same seen (max last (line_serial line)) tasks lines low

orders-same : (d : Daemon) (lines : List OrderLine) → fold seen_with d.seen lines ≡ d.seen → after_orders d lines ≡ d
orders-same d lines same =
    let tasks : fold (obeyed d.seen) d.tasks lines ≡ d.tasks = all-same d.seen d.seen d.tasks lines (omega (arith, same)) in
    λ i. record { host = d.host; seen = same i; tasks = tasks i }

true-of : (t : Bool) → not t ≡ false → t ≡ true
true-of true lacks = refl
true-of false lacks = cc

pub orders-unchanged : (d : Daemon) (lines : List OrderLine) → rises d lines ≡ false → after_orders d lines ≡ d
orders-unchanged d lines lacks =
    orders-same d lines (eqb-true (fold seen_with d.seen lines) d.seen (true-of (fold seen_with d.seen lines == d.seen) lacks))

-- ---- an end of what isn't claimed

end-at : (stage end : Stage) → is_claimed (Some stage) ≡ false → end_with end stage ≡ stage
end-at Claimed end lacks = cc
end-at (Ended exit cpu mem io) end lacks = refl

end-by : (here : Bool) (key : ℕ) (stage end : Stage) (es changed : List (ℕ × Stage)) (later : Option Stage)
    → is_claimed (cond here (Some stage) later) ≡ false → (is_claimed later ≡ false → changed ≡ es)
    → cond here ((key, end_with end stage) ∷ es) ((key, stage) ∷ changed) ≡ (key, stage) ∷ es
end-by true key stage end es changed later lacks same = ap (λ s. (key, s) ∷ es) (end-at stage end lacks)
end-by false key stage end es changed later lacks same = ap (λ xs. (key, stage) ∷ xs) (same lacks)

end-all : (test : ℕ → Bool) (end : Stage) (rows : List (ℕ × Stage)) → is_claimed (lookup test rows) ≡ false → change_value test (end_with end) rows ≡ rows
end-all test end [] lacks = refl
end-all test end (e ∷ es) lacks =
    end-by (test e.0) e.0 e.1 end es (change_value test (end_with end) es) (lookup test es) lacks (end-all test end es)

pub end-unchanged : (d : Daemon) (serial : ℕ) (end : Stage) → is_claimed (at_number d.tasks serial) ≡ false → after_end d serial end ≡ d
end-unchanged d serial end lacks = ap (λ (tasks : List (ℕ × Stage)). record d { tasks = tasks }) (end-all (is_at (nat_cmp serial)) end d.tasks lacks)

-- ---- an answer that settles nothing

pub answer-unchanged : (d : Daemon) (serial : ℕ) (reply : Reply) → (settles reply.code && is_ended (at_number d.tasks serial)) ≡ false → after_answer d serial reply ≡ d
answer-unchanged d serial reply lacks = ap (λ t. if t then record d { tasks = drop_number d.tasks serial } else d) lacks

-- a daemon stays one of its host
host-by : (settled : Bool) (d : Daemon) (tasks : List (ℕ × Stage)) → (if settled then record d { tasks = tasks } else d).host ≡ d.host
host-by true d tasks = refl
host-by false d tasks = refl

pub answer-host : (d : Daemon) (serial : ℕ) (reply : Reply) → (after_answer d serial reply).host ≡ d.host
answer-host d serial reply = host-by (settles reply.code && is_ended (at_number d.tasks serial)) d (drop_number d.tasks serial)
