-- What a call comes to that moves a master and its world together.
use Rattle.std.specs.Prelude.{◌≡◌, ◌≢◌, ◌⊎◌, Bool, true, false, Option, None, Some, Result, Ok, Err, IfSome}
use Rattle.ge_model_rows.specs.ClusterRows.{Cluster}
use Rattle.ge_model_rows.specs.EventRows.{Event, Reply}
use Rattle.ge_model_core.specs.Plan.{plan_of}
use Rattle.ge_model_core.specs.Trace.{answer_of}
use Rattle.ge_model_journal.specs.Disk.{read_bytes}
use Rattle.ge_model_program.specs.StandsFor.{StandsForOneOf}
use Rattle.ge_model_program.specs.Traced.{single}
use Rattle.ge_spool.specs.Opening.{Tells}
use Rattle.ge_master.specs.Areas.{Areas, HasFailed, EachSince}
use Rattle.ge_master.specs.Handling.{RepliesAs, as_batch}
use Rattle.ge_master.specs.Homes.{Parts, IsHome}
use Rattle.ge_master.specs.Masters.{parts_of, cluster_of, is_gone}
use Rattle.ge_master.specs.declared.faults.Stop.{Stop}
use Rattle.ge_master.specs.declared.faults.Stop.TheVariants.{Disk, Full, Spent, Dead}
use Rattle.ge_master.specs.declared.master.Master.{Master}
use Rattle.ge_model_world.specs.declared.rows.World.{World}
use Rattle.ge_model_world.specs.declared.rows.Arrival.{Arrival}
use Rattle.ge_model_world.specs.declared.rows.Step.TheVariants as step
use Rattle.ge_model_world.specs.Worlds.{arrival_event, step_of}
use Rattle.ge_world_laws.specs.Product.{product}

-- the world where the master handles what comes, and where it stops in that with its change
abbrev pub handled_in : World → Arrival → World
handled_in w x = step_of product w (step.Handle x)

abbrev pub stopped_in : World → Arrival → World
stopped_in w x = step_of product w (step.Stop x true)

-- The reply is that of the event's plan and the world took the step, or the reply tells of want of memory and the world is as it was.
abbrev pub Answers : Reply → World → World → Arrival → Type 0
Answers reply old new x =
    ((reply.code ≡ 99) × (new ≡ old))
    ⊎ ((reply.code ≢ 99) × IfSome (arrival_event product old.reports x) (λ e. reply ≡ (plan_of old.cluster e).reply) × (new ≡ handled_in old x))

-- The result has the cause that the master's own has: there was room for what the event changed, or none, and the area would end at
-- that place, or a disk failed. The event is answered by its plan (true), or by want of memory (false). What has no event is answered
-- as want of memory is.
abbrev pub IsCaused : Option Event → Parts → Result Reply Stop → Areas → Areas → Type 0
IsCaused None m result before after = result ≡ Err Spent
IsCaused (Some e) m result before after =
    (mark : Bool) × RepliesAs (single m.cluster (answer_of plan_of m.cluster e mark)) m.spool (as_batch result) (HasFailed before after)

-- an answer, and a master at home with the world's cluster
pub record AnswersIn (reply : Reply) (old new : World) (x : Arrival) (m_old m_new : Parts) (before after : Areas) : Type 0 where
  pub answer : Answers reply old new x
  pub cause : IsCaused (arrival_event product old.reports x) m_old (Ok reply) before after
  pub cluster : m_new.cluster ≡ new.cluster
  pub home : IsHome m_old before → IsHome m_new after

-- a stop for a reason, after which every pair of images stands for the world's cluster or for that after the event
pub record StopsIn (stop : Stop) (old : World) (x : Arrival) (m_old : Parts) (before after : Areas) : Type 0 where
  pub cause : IsCaused (arrival_event product old.reports x) m_old (Err stop) before after
  pub any_moment : IsHome m_old before → EachSince before after (StandsForOneOf old.cluster (handled_in old x).cluster)

-- what handling in a world comes to
abbrev pub HandlesIn : Result Reply Stop → World → World → Arrival → Parts → Parts → Areas → Areas → Type 0
HandlesIn (Ok reply) old new x m_old m_new before after = AnswersIn reply old new x m_old m_new before after
HandlesIn (Err stop) old new x m_old m_new before after = StopsIn stop old x m_old before after

-- Whether the master is gone behind it: after each stop, but for a want of memory before it is asked, which leaves it as it was. `Dead`
-- comes of one that was gone.
abbrev pub LeavesMaster : Result Reply Stop → Master → Master → Type 0
LeavesMaster (Ok reply) old new = is_gone new ≡ false
LeavesMaster (Err Disk) old new = is_gone new ≡ true
LeavesMaster (Err (Full place)) old new = is_gone new ≡ true
LeavesMaster (Err Spent) old new = (is_gone new ≡ true) ⊎ (new ≡ old)
LeavesMaster (Err Dead) old new = (is_gone old ≡ true) × (new ≡ old)

-- a world stays where it has a cluster, and else goes on to where the change of what came was kept
abbrev pub CatchesUp : Cluster → World → World → Arrival → Type 0
CatchesUp c old new x = ((c ≡ old.cluster) × (new ≡ old)) ⊎ ((c ≢ old.cluster) × (new ≡ stopped_in old x))

-- What opening in a world comes to: the world goes on to the master's cluster. Where the areas as they read stand for the world's
-- cluster or for that after the event, it is the master's then, which is at home: the world took the stop, with the event's change or
-- without.
abbrev pub ReopensIn : Master → World → World → Arrival → Areas → Areas → Type 0
ReopensIn m old new x before after =
    CatchesUp (cluster_of m) old new x
    × (Tells before.a → Tells before.b → StandsForOneOf old.cluster (stopped_in old x).cluster (read_bytes before.a) (read_bytes before.b)
    → IsHome (parts_of m) after × (cluster_of m ≡ new.cluster))
