-- Worlds of gridmaster and a daemon, worked out.
use Rattle.std.specs.Prelude.{◌≡◌, ℕ, true, List, [], ◌∷◌, ◌++◌, flat_map, codes, refl}
use Rattle.ge_model_rows.specs.EventRows.{Event, Good}
use Rattle.ge_model_core.specs.Scripts.{model_in_full}
use Rattle.ge_execd.specs.Orders.{orders_in}
use Rattle.ge_model_world.specs.declared.rows.Message.{Message}
use Rattle.ge_model_world.specs.declared.rows.Message.TheVariants.{Orders, Answer}
use Rattle.ge_model_world.specs.declared.rows.Finished.{Finished}
use Rattle.ge_model_world.specs.declared.rows.Finished.TheVariants.{Reported, Forced}
use Rattle.ge_model_world.specs.declared.rows.World.{World}
use Rattle.ge_model_world.specs.declared.rows.Arrival.TheVariants.{Command, Report}
use Rattle.ge_model_world.specs.declared.rows.Act.TheVariants.{Deliver, Finish}
use Rattle.ge_model_world.specs.declared.rows.Step.{Step}
use Rattle.ge_model_world.specs.declared.rows.Step.TheVariants.{Handle, Ask, Daemon, Send, Cut}
use Rattle.ge_model_world.specs.Worlds.{root_event, world_of}
use Rattle.ge_world_laws.specs.Product.{product}

-- the codes of the answers to reports
abbrev answer_codes : ℕ × Message → List ℕ
answer_codes (d, Orders reply) = []
answer_codes (d, Answer serial reply) = reply.code ∷ []

-- what was started, what was accounted, and the answers
abbrev Seen : Type 0
Seen = List (ℕ × ℕ) × List Finished × List ℕ

abbrev seen : World → Seen
seen w = (w.started, w.finished, flat_map answer_codes w.sent)

-- ann submits a job, it is dispatched, and the host asks for its orders
abbrev submitted : Event
submitted = record { moment = 10; user = codes "ann"; group = codes "staff"; text = codes "qsub -N one x"; form = Good }

abbrev begins : List Step
begins = Handle (Command submitted) ∷ Handle (Command (root_event 20 (codes "sched"))) ∷ Ask 0 21 ∷ []

-- the orders come twice, the task ends, and its end is reported twice
abbrev ends_twice : List Step
ends_twice =
    Daemon 0 (Deliver 0) ∷ Daemon 0 (Deliver 0) ∷ Daemon 0 (Finish 1 0 12 0 0) ∷ Send 0 1 ∷ Send 0 1 ∷ Handle (Report 0 50) ∷ Handle (Report 1 51) ∷ []

-- a task that is ordered twice starts once, and an end that is reported twice is accounted once
once : seen (world_of product (codes "local" ∷ []) (begins ++ ends_twice)) ≡ ((0, 1) ∷ [], Reported 1 0 ∷ [], 0 ∷ 22 ∷ [])
unfolding world_of orders_in model_in_full
once = refl

-- a task that is deleted by force may start still, and its reports are stale
by_force : seen (world_of product (codes "local" ∷ []) (begins ++ Handle (Command (root_event 22 (codes "qdel -f 1"))) ∷ ends_twice)) ≡ ((0, 1) ∷ [], Forced 1 ∷ [], 22 ∷ 22 ∷ [])
unfolding world_of orders_in model_in_full
by_force = refl

-- a task that its daemon claimed, and stopped before it started it, isn't started later; its end is accounted once
never_started : seen (world_of product (codes "local" ∷ []) (begins ++ Cut 0 (Deliver 0) true 0 ∷ ends_twice)) ≡ ([], Reported 1 0 ∷ [], 0 ∷ 22 ∷ [])
unfolding world_of orders_in model_in_full
never_started = refl
