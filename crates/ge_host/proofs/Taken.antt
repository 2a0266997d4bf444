-- What a change of a host's daemon comes to.
use Rattle.std.proofs.Common.{◌≡◌, ℕ, ◌+◌, ◌≤◌, Bool, true, false, List, length, Result, Ok, Err, refl, sym, ap, subst, ◌∙◌, inl, inr, arith}
use Rattle.std.specs.Prelude.{OnOk}
use Rattle.ge_execd.specs.Daemons.{new_daemon, after_orders}
use Rattle.ge_execd.specs.declared.rows.OrderLine.{OrderLine}
use Rattle.ge_execd.specs.declared.rows.WorkFault.{WorkFault}
use Rattle.ge_execd.specs.declared.daemon.Daemon.{Daemon}
use Rattle.ge_keeping.specs.Areas.{Areas, HasFailed}
use Rattle.ge_keeping.specs.Changing.{Changes}
use Rattle.ge_keeping.specs.Keeping.{compacts, kept_end, IsStored, Keeps, OnUnwritten as KeptUnwritten}
use Rattle.ge_keeping.specs.Homes.{IsHome}
use Rattle.ge_keeping.specs.declared.faults.KeepFault.{KeepFault}
use Rattle.ge_keeping.specs.declared.faults.KeepFault.TheVariants as keeping
use Rattle.ge_keeping.proofs.Standing.{stays}
use Rattle.ge_spool.specs.declared.faults.OpenFault.TheVariants.{Frame, Bad as WrongPart}
use Rattle.ge_spool.specs.Settled.{Grows}
use Rattle.ge_spool.specs.declared.spool.Spool.{Spool}
use Rattle.ge_host.specs.Standing.{daemon_in, daemon_bytes, held_of, StandsSince}
use Rattle.ge_host.specs.Hosts.{Parts, IsAtHome, StopsAs, AnswersAs, OnUnwritten, KeepsJournal, Takes, rises, ObeysAs}
use Rattle.ge_host.specs.declared.faults.HostStop.{HostStop}
use Rattle.ge_host.specs.declared.faults.HostStop.TheVariants.{Disk, Full, Bad, Refused, Memory, Dead}

unchanged : (t : Bool) → t ≡ false → t ≡ true → ⊥
unchanged t lacks holds = cc

kept-journal : (changed : Bool) (old new : Spool) (size : ℕ) → changed ≡ true → IsStored (compacts old size) old new size size → KeepsJournal changed old new size
kept-journal true old new size holds is = is
kept-journal false old new size holds is = cc

same-journal : (changed : Bool) (old : Spool) (size : ℕ) → changed ≡ false → KeepsJournal changed old old size
same-journal true old size lacks = cc
same-journal false old size lacks = refl

module _ (changed : Bool) (spool : Spool) (old next : Daemon) where
  abbrev before_parts : Parts
  before_parts = record { spool = spool; daemon = old }

  -- nothing changed, and nothing was written
  pub taken-none : (now : Areas) → changed ≡ false → next ≡ old → Grows now.a now.a now.b now.b
      → Takes changed next before_parts (record { spool = spool; daemon = next }) (Ok tt) now now
  taken-none now lacks same grows = record {
    answer = λ holds. absurd (unchanged changed lacks holds);
    left = refl;
    journal = same-journal changed spool (length (daemon_bytes next)) lacks;
    home = λ home. subst (λ d. IsAtHome (record { spool = spool; daemon = d }) now) (sym same) home;
    idle = λ lacks. (refl, λ i. record { spool = spool; daemon = same i });
    any_moment = λ home c d of_c of_d. inl (stays Frame WrongPart (held_of old.host) spool old now now home refl refl c d of_c of_d);
    unwritten = λ home. tt;
    grows = grows;
    syncs = omega arith;
  }

  -- what is said of the next daemon's host is said of the one before, which is the same
  moved : {new_spool : Spool} {result : Result (Unit {0}) KeepFault} {before after : Areas} → next.host ≡ old.host
      → Changes (daemon_in next.host) (new_daemon next.host) (daemon_bytes next) spool new_spool old next result before after
      → Changes (daemon_in old.host) (new_daemon old.host) (daemon_bytes next) spool new_spool old next result before after
  moved {new_spool} {result} {before} {after} host h =
      subst (λ name. Changes (daemon_in name) (new_daemon name) (daemon_bytes next) spool new_spool old next result before after) host h

  module _ (new_spool : Spool) (before after : Areas) (holds : changed ≡ true) (host : next.host ≡ old.host) where
    abbrev after_parts : Parts
    after_parts = record { spool = new_spool; daemon = next }

    -- the next daemon was kept
    pub taken-kept : Changes (daemon_in next.host) (new_daemon next.host) (daemon_bytes next) spool new_spool old next (Ok tt) before after
        → Takes changed next before_parts after_parts (Ok tt) before after
    taken-kept changes = let h = moved host changes in record {
      answer = λ holds. h.answer;
      left = refl;
      journal = kept-journal changed spool new_spool (length (daemon_bytes next)) holds h.journal;
      home = λ home. subst (λ name. IsHome (held_of name) new_spool next after) (sym host) (h.home home);
      idle = λ lacks. absurd (unchanged changed lacks holds);
      any_moment = λ home. h.any_moment home;
      unwritten = λ home. tt;
      grows = h.grows;
      syncs = h.syncs;
    }

    answer-as : (f : KeepFault) (stop : HostStop) (end : ℕ) (reason : Type 0) → StopsAs f stop → Keeps (Err f) end reason → AnswersAs changed end (Err stop) reason
    answer-as keeping.Disk stop end reason is h = subst (λ s. AnswersAs changed end (Err s) reason) (sym is) (holds, h.0, h.1)
    answer-as (keeping.Full place) stop end reason is h = subst (λ s. AnswersAs changed end (Err s) reason) (sym is) (holds, h.0, h.1)
    answer-as keeping.Memory stop end reason is h = subst (λ s. AnswersAs changed end (Err s) reason) (sym is) tt
    answer-as keeping.Dead stop end reason is h = absurd h

    unwritten-as : (f : KeepFault) (stop : HostStop) (P : Type 0) → StopsAs f stop → KeptUnwritten {T = Unit {0}} (Err f) P → OnUnwritten (Err stop) P
    unwritten-as keeping.Disk stop P is h = subst (λ s. OnUnwritten (Err s) P) (sym is) tt
    unwritten-as (keeping.Full place) stop P is h = subst (λ s. OnUnwritten (Err s) P) (sym is) h
    unwritten-as keeping.Memory stop P is h = subst (λ s. OnUnwritten (Err s) P) (sym is) h
    unwritten-as keeping.Dead stop P is h = subst (λ s. OnUnwritten (Err s) P) (sym is) h

    -- it was not kept
    pub taken-fault : (f : KeepFault) (stop : HostStop) → StopsAs f stop
        → Changes (daemon_in next.host) (new_daemon next.host) (daemon_bytes next) spool new_spool old next (Err f) before after
        → Takes changed next before_parts after_parts (Err stop) before after
    taken-fault f stop is changes = let h = moved host changes in record {
      answer = answer-as f stop (kept_end spool (length (daemon_bytes next)) (length (daemon_bytes next))) (HasFailed before after) is h.answer;
      left = tt;
      journal = tt;
      home = λ home. tt;
      idle = λ lacks. absurd (unchanged changed lacks holds);
      any_moment = λ home. h.any_moment home;
      unwritten = λ home. unwritten-as f stop (StandsSince old.host before after old) is (h.unwritten home);
      grows = h.grows;
      syncs = h.syncs;
    }

-- a change that was tested, and a daemon that was made, as they are said
pub taken-as : (changed test : Bool) (mid next : Daemon) (old new : Parts) (result : Result (Unit {0}) HostStop) (before after : Areas)
    → mid ≡ next → changed ≡ test → next.host ≡ old.daemon.host → (test ≡ false → next ≡ old.daemon)
    → ((d : Daemon) → mid.host ≡ d.host → (changed ≡ false → mid ≡ d) → Takes changed mid (record { spool = old.spool; daemon = d }) new result before after)
    → Takes test next old new result before after
taken-as changed test mid next old new result before after is test_is host same takes =
    subst (λ d. Takes test d old new result before after) is
    (subst (λ t. Takes t mid old new result before after) test_is
    (takes old.daemon (ap (λ (d : Daemon). d.host) is ∙ host) (λ lacks. is ∙ same (sym test_is ∙ lacks))))

-- orders were obeyed and not kept
pub obeys-fault : (stop : HostStop) (all : Result (List OrderLine) WorkFault) (old new : Parts) (before after : Areas) (lines : List OrderLine) → all ≡ Ok lines
    → Takes (rises old.daemon lines) (after_orders old.daemon lines) old new (Err stop) before after → ObeysAs (Err stop) all old new before after
obeys-fault Disk all old new before after lines is takes = (lines, is, takes)
obeys-fault (Full place) all old new before after lines is takes = (lines, is, takes)
obeys-fault (Bad place) all old new before after lines is takes = absurd takes.answer
obeys-fault (Refused code) all old new before after lines is takes = absurd takes.answer
obeys-fault Memory all old new before after lines is takes = inr (lines, is, takes)
obeys-fault Dead all old new before after lines is takes = absurd takes.answer
