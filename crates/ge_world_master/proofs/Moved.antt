-- What a master does is a step of its world.
use Rattle.std.proofs.Common.{◌≡◌, ◌≢◌, ℕ, Bool, true, false, List, [], ◌∷◌, Option, Some, None, IfSome, Result, Ok, Err, refl, ap, sym, ◌∙◌, subst, inl, inr, ⊎_elim}
use Rattle.ge_model_rows.specs.ClusterRows.{Cluster}
use Rattle.ge_model_rows.specs.EntryRows.{Entry}
use Rattle.ge_model_rows.specs.EventRows.{Event, Reply}
use Rattle.ge_model_core.specs.Plan.{plan_of}
use Rattle.ge_model_core.specs.Trace.{after_entries, answer_of}
use Rattle.ge_model_program.specs.StandsFor.{StandsForOneOf}
use Rattle.ge_model_program.specs.Traced.{single}
use Rattle.ge_spool.proofs.Settling.{still-moments}
use Rattle.ge_spool.specs.declared.faults.OpenFault.TheVariants.{Memory}
use Rattle.ge_master.specs.Areas.{Areas}
use Rattle.ge_master.specs.Handling.{Handles, HandlesEvent}
use Rattle.ge_master.specs.Homes.{Parts}
use Rattle.ge_master.specs.OpeningMasters.{OpensMaster}
use Rattle.ge_master.specs.Masters.{parts_of, is_gone}
use Rattle.ge_master.specs.declared.faults.Stop.{Stop}
use Rattle.ge_master.specs.declared.faults.Stop.TheVariants.{Disk, Full, Spent, Dead}
use Rattle.ge_master.specs.declared.master.Master.{Master}
use Rattle.ge_master.proofs.Standing.{stands-for}
use Rattle.ge_model_world.specs.declared.rows.World.{World}
use Rattle.ge_model_world.specs.declared.rows.Arrival.{Arrival}
use Rattle.ge_model_world.specs.Worlds.{arrival_event, handling, with_entry}
use Rattle.ge_world_laws.specs.Product.{product}
use Rattle.ge_world_master.specs.Moving.{handled_in, IsCaused, AnswersIn, HandlesIn, LeavesMaster, CatchesUp, ReopensIn}

-- the cluster of a world after what may be an entry
entered : (w : World) (entry : Option Entry) → (with_entry product w entry).cluster ≡ after_entries w.cluster entry
entered w None = refl
entered w (Some entry) = refl

module _ (w : World) (x : Arrival) (e : Event) (is : arrival_event product w.reports x ≡ Some e) (old new : Parts) (same : old.cluster ≡ w.cluster) (before after : Areas) where
  -- the cluster after the event
  later : (handled_in w x).cluster ≡ after_entries old.cluster (plan_of old.cluster e).entry
  later = ap (λ o. (handling product w x o).cluster) is ∙ entered w (plan_of w.cluster e).entry ∙ ap (λ c. after_entries c (plan_of c e).entry) (sym same)

  -- its causes are the master's
  caused : (result : Result Reply Stop) → HandlesEvent plan_of old new e result before after → IsCaused (arrival_event product w.reports x) old result before after
  caused result event = subst (λ o. IsCaused o old result before after) (sym is) (event.mark, event.handled.answer)

  first_is : (a b : Reply) → a ∷ [] ≡ b ∷ [] → a ≡ b
  first_is a b h = cc

  -- a reply that doesn't tell of want of memory is that of the plan
  pub took : (reply : Reply) (next : World) → next ≡ handling product w x (arrival_event product w.reports x) → reply.code ≢ 99
      → HandlesEvent plan_of old new e (Ok reply) before after → HandlesIn (Ok reply) w next x old new before after
  took reply next is_next other event = by event.mark event.handled
    where
      by : (mark : Bool) → Handles (single old.cluster (answer_of plan_of old.cluster e mark)) old new (Ok (reply ∷ [])) before after → AnswersIn reply w next x old new before after
      by true h =
          let told : reply ≡ (plan_of w.cluster e).reply = first_is reply (plan_of old.cluster e).reply h.answer.0 ∙ ap (λ c. (plan_of c e).reply) same in
          record {
            answer = inr (other, subst (λ o. IfSome o (λ one. reply ≡ (plan_of w.cluster one).reply)) (sym is) told, is_next);
            cause = caused (Ok reply) event;
            cluster = h.left.cluster ∙ sym later ∙ ap (λ v. v.cluster) (sym is_next);
            home = h.home;
          }
      by false h = absurd (other (ap (λ r. r.code) (first_is reply _ h.answer.0)))

  -- one that does leaves all as it was
  pub wanted : ((c : Cluster) (event : Event) → (plan_of c event).reply.code ≢ 99) → (reply : Reply) → reply.code ≡ 99
      → HandlesEvent plan_of old new e (Ok reply) before after → HandlesIn (Ok reply) w w x old new before after
  wanted never reply tells event = by event.mark event.handled
    where
      by : (mark : Bool) → Handles (single old.cluster (answer_of plan_of old.cluster e mark)) old new (Ok (reply ∷ [])) before after → AnswersIn reply w w x old new before after
      by true h = absurd (never old.cluster e (sym (ap (λ r. r.code) (first_is reply (plan_of old.cluster e).reply h.answer.0)) ∙ tells))
      by false h = record { answer = inl (tells, refl); cause = caused (Ok reply) event; cluster = h.left.cluster ∙ same; home = h.home }

  -- after a stop the areas stand for one of two clusters
  pub stopped : (stop : Stop) → HandlesEvent plan_of old new e (Err stop) before after → HandlesIn (Err stop) w w x old new before after
  stopped stop event = record { cause = caused (Err stop) event; any_moment = λ home c d of_c of_d. by event.mark c d (event.handled.any_moment home c d of_c of_d) }
    where
      by : (mark : Bool) (c d : List ℕ) → StandsForOneOf old.cluster (after_entries old.cluster (answer_of plan_of old.cluster e mark).entry) c d
          → StandsForOneOf w.cluster (handled_in w x).cluster c d
      by true c d one = ⊎_elim (λ h. inl (h ∙ ap Ok same)) (λ h. inr (h ∙ ap Ok (sym later))) one
      by false c d one = ⊎_elim (λ h. inl (h ∙ ap Ok same)) (λ h. inl (h ∙ ap Ok same)) one

-- a master that lived is gone after its own stop
pub leaves : (m new : Master) (e : Event) (stop : Stop) (before after : Areas) → HandlesEvent plan_of (parts_of m) (parts_of new) e (Err stop) before after → is_gone new ≡ true
    → LeavesMaster (Err stop) m new
leaves m new e Disk before after event gone = gone
leaves m new e (Full place) before after event gone = gone
leaves m new e Spent before after event gone = inl gone
leaves m new e Dead before after event gone = absurd event.handled.answer

-- want of memory is free
spent : (o : Option Event) (m : Parts) (now : Areas) → IsCaused o m (Err Spent) now now
spent None m now = refl
spent (Some e) m now = (true, tt)

-- where nothing was done yet the areas stand for the world's cluster
pub untouched : (w : World) (x : Arrival) (old new : Parts) (now : Areas) → old.cluster ≡ w.cluster → HandlesIn (Err Spent) w w x old new now now
untouched w x old new now same = record {
  cause = spent (arrival_event product w.reports x) old now;
  any_moment = λ home c d of_c of_d.
      inl (stands-for c d home.state old.cluster (still-moments old.spool now.a now.b home.state home.settled c d of_c of_d) home.holds ∙ ap Ok same);
}

-- ---- opening again

ok_is : {E : Type 0} (c d : Cluster) → ◌≡◌ {A = Result Cluster E} (Ok c) (Ok d) → c ≡ d
ok_is c d h = cc

pub reopened : (m : Master) (old new : World) (x : Arrival) (before after : Areas) → OpensMaster (Ok m) before after → CatchesUp m.cluster old new x → ReopensIn m old new x before after
reopened m old new x before after opens up = (
  up,
  λ tells_a tells_b one.
      let opened = opens.opened tells_a tells_b in
      let both : m.cluster ≡ new.cluster =
      ⊎_elim
      (λ h. h.0 ∙ ap (λ v. v.cluster) (sym h.1))
      (λ h. ⊎_elim (λ first. absurd (h.0 (ok_is _ _ (sym opened.stood ∙ first)))) (λ second. ok_is _ _ (sym opened.stood ∙ second) ∙ ap (λ v. v.cluster) (sym h.1)) one)
      up in
      (opened.home, both),
)

-- a master that was opened is let go for want of memory
pub let_go : (m : Master) (before after : Areas) → OpensMaster (Ok m) before after → OpensMaster (Err Memory) before after
let_go m before after opens = record {
  opened = λ tells_a tells_b. tt;
  any_moment = opens.any_moment;
  unwritten = tt;
  blames = tt;
  grows = opens.grows;
  syncs = opens.syncs;
}
