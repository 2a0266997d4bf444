-- What keeping another value comes to.
use Rattle.std.proofs.Common.{◌≡◌, ℕ, ◌+◌, ◌<◌, ◌≤◌, Bool, List, length, Option, Some, Result, Ok, Err, ap, inl, arith}
use Rattle.std.specs.Prelude.{OnOk}
use Rattle.std.proofs.lemmas.Result.{on_ok_weaker}
use Rattle.ge_model_journal.specs.Disk.{IsImageSince}
use Rattle.ge_model_journal.specs.Journal.{State, IsOneOf}
use Rattle.ge_model_keeping.specs.Wholes.{held}
use Rattle.ge_spool.specs.Settled.{IsSettled, Grows}
use Rattle.ge_spool.specs.declared.faults.OpenFault.TheVariants as wrong
use Rattle.ge_spool.specs.declared.spool.Spool.{Spool}
use Rattle.ge_keeping.specs.Areas.{Areas, HasFailed}
use Rattle.ge_keeping.specs.Keeping.{compacts, kept_end, stored, IsStored, stored_syncs, Keeps, OnUnwritten}
use Rattle.ge_keeping.specs.Homes.{StandsSince}
use Rattle.ge_keeping.specs.Changing.{Changes}
use Rattle.ge_keeping.specs.declared.faults.KeepFault.{KeepFault}
use Rattle.ge_keeping.specs.declared.faults.KeepFault.TheVariants.{Disk, Full, Memory, Dead}
use Rattle.ge_keeping.proofs.Standing.{stays, held-stored, stands-for-one}

-- what follows from a fact where nothing was written
pub on-unwritten : {T : Type 0} (r : Result T KeepFault) (P Q : Type 0) → (P → Q) → OnUnwritten r P → OnUnwritten r Q
on-unwritten (Ok done) P Q f h = tt
on-unwritten (Err Disk) P Q f h = tt
on-unwritten (Err (Full place)) P Q f h = f h
on-unwritten (Err Memory) P Q f h = f h
on-unwritten (Err Dead) P Q f h = f h

module _ {T : Type 0} (part : List ℕ → Option T) (first : T) (spool : Spool) (old next : T) (bytes : List ℕ) (before after : Areas) where
  -- there was no memory for the bytes
  pub changes-spent : (new_spool : Spool) → after ≡ before → Grows before.a after.a before.b after.b
      → Changes part first bytes spool new_spool old next (Err Memory) before after
  changes-spent new_spool same grows =
      let same_a : after.a ≡ before.a = ap (λ (now : Areas). now.a) same in
      let same_b : after.b ≡ before.b = ap (λ (now : Areas). now.b) same in
      let same_syncs : after.syncs ≡ before.syncs = ap (λ (now : Areas). now.syncs) same in
      record {
        answer = tt;
        journal = tt;
        home = λ home. tt;
        any_moment = λ home c d of_c of_d. inl (stays wrong.Frame wrong.Bad (held part first) spool old before after home same_a same_b c d of_c of_d);
        unwritten = λ home. stays wrong.Frame wrong.Bad (held part first) spool old before after home same_a same_b;
        grows = grows;
        syncs = omega (arith, same_syncs);
      }

  abbrev compacting : Bool
  compacting = compacts spool (length bytes)

  -- the bytes were kept, or not
  pub changes-kept : (new_spool : Spool) (result : Result (Unit {0}) KeepFault) → part bytes ≡ Some next → 0 < length bytes
      → ((state : State) → IsSettled spool before.a before.b state → OnOk result (IsSettled new_spool after.a after.b (stored (compacts spool (length bytes)) state bytes bytes)))
      → ((state : State) → IsSettled spool before.a before.b state → (c d : List ℕ) → IsImageSince (length before.a) after.a c → IsImageSince (length before.b) after.b d
      → IsOneOf state (stored (compacts spool (length bytes)) state bytes bytes) c d)
      → Keeps result (kept_end spool (length bytes) (length bytes)) (HasFailed before after) → OnUnwritten result ((after.a ≡ before.a) × (after.b ≡ before.b))
      → OnOk result (IsStored (compacts spool (length bytes)) spool new_spool (length bytes) (length bytes)) → Grows before.a after.a before.b after.b
      → after.syncs ≤ before.syncs + stored_syncs (compacts spool (length bytes))
      → Changes part first bytes spool new_spool old next result before after
  changes-kept new_spool result reads some done moments answer untouched is grows syncs =
      record {
        answer = answer;
        journal = is;
        home = λ home. on_ok_weaker result (λ settled. record {
          state = stored compacting home.state bytes bytes;
          settled = settled;
          holds = held-stored part first compacting home.state bytes old next home.holds reads some;
        }) (done home.state home.settled);
        any_moment = λ home c d of_c of_d. stands-for-one wrong.Frame wrong.Bad (held part first) home.state (stored compacting home.state bytes bytes) old next c d home.holds
            (held-stored part first compacting home.state bytes old next home.holds reads some) (moments home.state home.settled c d of_c of_d);
        unwritten = λ home. on-unwritten result ((after.a ≡ before.a) × (after.b ≡ before.b)) (StandsSince wrong.Frame wrong.Bad (held part first) before after old)
            (λ h. stays wrong.Frame wrong.Bad (held part first) spool old before after home h.0 h.1) untouched;
        grows = grows;
        syncs = syncs;
      }
