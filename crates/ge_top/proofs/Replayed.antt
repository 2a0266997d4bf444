-- A replay at each of its exits.
use Rattle.std.proofs.Common.{◌≡◌, ◌⊎◌, ℕ, ◌-◌, ◌<◌, ◌≤◌, List, Option, Some, None, Err, IfSome, refl, sym, subst, inl, inr, ⊎_elim, arith}
use Rattle.ge_limits.specs.Limits as limit
use Rattle.ge_outside.specs.Faults.{Rose}
use Rattle.ge_model_rows.specs.ClusterRows.{Cluster}
use Rattle.ge_model_grammar.specs.Events.{events_of}
use Rattle.ge_model_grammar.specs.Sources.{IsReadToEnd}
use Rattle.ge_model_core.specs.Plan.{plan_of}
use Rattle.ge_model_program.specs.Simulating.{IfRead}
use Rattle.ge_model_program.specs.View.{View, DiskRose}
use Rattle.ge_model_program.specs.Keeping.{Ledger}
use Rattle.ge_model_program.specs.Runs.{EachStandsFor, RanTo, RanCut, RanAll, RanFull}
use Rattle.ge_model_program.specs.Replaying.{EndsOrStops, Replays}
use Rattle.ge_serve.specs.Stop.{Stop}
use Rattle.ge_serve.specs.Stop.TheVariants as stop
use Rattle.ge_top.specs.Ends.{StopsAs, OnFull, Blames}
use Rattle.ge_top.specs.declared.replaying.ReplayFault.TheVariants.{Stopped}
use Rattle.ge_top.proofs.Opened.{none-begun}
use Rattle.ge_top.proofs.Runs.{all-to, full-to}
use Rattle.ge_top.proofs.Told.{on-some}

module _ (script rest : Option (List ℕ)) (reads_before reads_after : ℕ) (x y : View) (start : Cluster) (home : Type 0) (ledger : Ledger) (batch : ℕ) where
  abbrev Part : List ℕ → Type 0
  Part bytes = RanTo plan_of start (events_of bytes) home x.output y.output y.a y.b batch x.syncs y.syncs ledger

  abbrev Whole : List ℕ → Type 0
  Whole bytes = RanAll plan_of start (events_of bytes) home x.output y.output y.a y.b batch x.syncs y.syncs ledger (IsReadToEnd rest)

  abbrev Cut : List ℕ → Type 0
  Cut bytes = RanCut plan_of start (events_of bytes) home x.output y.output y.a y.b batch x.syncs y.syncs ledger

  abbrev Full : List ℕ → Type 0
  Full bytes = RanFull plan_of start (events_of bytes) home x.output y.output y.a y.b batch x.syncs y.syncs ledger

  -- how much was read
  abbrev Below : Type 0
  Below = IfRead script rest (λ count. count < limit.script_bytes)

  abbrev pub Ends : ℕ → Type 0
  Ends status = Replays status script rest reads_before reads_after x y start home ledger batch

  whole-part : (bytes : List ℕ) → Whole bytes → Part bytes
  whole-part bytes ran = all-to plan_of start (events_of bytes) home x.output y.output y.a y.b batch x.syncs y.syncs ledger (IsReadToEnd rest) ran

  full-part : (bytes : List ℕ) → Full bytes → Part bytes
  full-part bytes ran = full-to plan_of start (events_of bytes) home x.output y.output y.a y.b batch x.syncs y.syncs ledger ran

  -- what is answered whole was read to its end, or stops the master
  whole-ended : IfSome script Whole → EndsOrStops script rest
  whole-ended ran = ended-of script ran
    where
      ended-of : (o : Option (List ℕ)) → IfSome o Whole → EndsOrStops o rest
      ended-of None ran = inr tt
      ended-of (Some bytes) ran = ⊎_elim (λ all. inl all.1) (λ stopped. inr (start, ran.marks, stopped)) ran.all

  pub replay-done : IfSome script Whole → Below → Ends 0
  replay-done ran below = record {
    statuses = refl;
    whole = λ is. ran;
    part = λ is. on-some Whole Part script whole-part ran;
    cut = λ is. absurd (omega (arith, is));
    full = λ is. absurd (omega (arith, is));
    causes = record {
      ended = λ is. whole-ended ran;
      long = λ is. absurd (omega (arith, is));
      below = λ is. below;
      read = λ is. absurd (omega (arith, is));
      written = λ is. absurd (omega (arith, is));
      disk = λ is. absurd (omega (arith, is));
    };
  }

  pub replay-cut : IfSome script Cut → Below → Rose x.writes y.writes → Ends 7
  replay-cut ran below rose = record {
    statuses = refl;
    whole = λ is. absurd (omega (arith, is));
    part = λ is. absurd (is refl);
    cut = λ is. ran;
    full = λ is. absurd (omega (arith, is));
    causes = record {
      ended = λ is. absurd (omega (arith, is));
      long = λ is. absurd (omega (arith, is));
      below = λ is. below;
      read = λ is. absurd (omega (arith, is));
      written = λ is. rose;
      disk = λ is. absurd (omega (arith, is));
    };
  }

  replay-full : IfSome script Full → Below → Ends 5
  replay-full ran below = record {
    statuses = refl;
    whole = λ is. absurd (omega (arith, is));
    part = λ is. on-some Full Part script full-part ran;
    cut = λ is. absurd (omega (arith, is));
    full = λ is. ran;
    causes = record {
      ended = λ is. absurd (omega (arith, is));
      long = λ is. absurd (omega (arith, is));
      below = λ is. below;
      read = λ is. absurd (omega (arith, is));
      written = λ is. absurd (omega (arith, is));
      disk = λ is. absurd (omega (arith, is));
    };
  }

  pub replay-disk : IfSome script Part → DiskRose x y → Ends 8
  replay-disk ran rose = record {
    statuses = refl;
    whole = λ is. absurd (omega (arith, is));
    part = λ is. ran;
    cut = λ is. absurd (omega (arith, is));
    full = λ is. absurd (omega (arith, is));
    causes = record {
      ended = λ is. absurd (omega (arith, is));
      long = λ is. absurd (omega (arith, is));
      below = λ is. absurd (⊎_elim (λ h. omega (arith, h)) (λ others. ⊎_elim (λ h. omega (arith, h)) (λ h. omega (arith, h)) others) is);
      read = λ is. absurd (omega (arith, is));
      written = λ is. absurd (omega (arith, is));
      disk = λ is. rose;
    };
  }

  pub replay-no-memory : IfSome script Part → Ends 10
  replay-no-memory ran = record {
    statuses = refl;
    whole = λ is. absurd (omega (arith, is));
    part = λ is. ran;
    cut = λ is. absurd (omega (arith, is));
    full = λ is. absurd (omega (arith, is));
    causes = record {
      ended = λ is. absurd (omega (arith, is));
      long = λ is. absurd (omega (arith, is));
      below = λ is. absurd (⊎_elim (λ h. omega (arith, h)) (λ others. ⊎_elim (λ h. omega (arith, h)) (λ h. omega (arith, h)) others) is);
      read = λ is. absurd (omega (arith, is));
      written = λ is. absurd (omega (arith, is));
      disk = λ is. absurd (omega (arith, is));
    };
  }

  pub replay-long : IfSome script Part → IfRead script rest (λ count. limit.script_bytes ≤ count) → Ends 3
  replay-long ran long = record {
    statuses = refl;
    whole = λ is. absurd (omega (arith, is));
    part = λ is. ran;
    cut = λ is. absurd (omega (arith, is));
    full = λ is. absurd (omega (arith, is));
    causes = record {
      ended = λ is. absurd (omega (arith, is));
      long = λ is. long;
      below = λ is. absurd (⊎_elim (λ h. omega (arith, h)) (λ others. ⊎_elim (λ h. omega (arith, h)) (λ h. omega (arith, h)) others) is);
      read = λ is. absurd (omega (arith, is));
      written = λ is. absurd (omega (arith, is));
      disk = λ is. absurd (omega (arith, is));
    };
  }

  pub replay-unread : IfSome script Part → Rose reads_before reads_after → Ends 6
  replay-unread ran rose = record {
    statuses = refl;
    whole = λ is. absurd (omega (arith, is));
    part = λ is. ran;
    cut = λ is. absurd (omega (arith, is));
    full = λ is. absurd (omega (arith, is));
    causes = record {
      ended = λ is. absurd (omega (arith, is));
      long = λ is. absurd (omega (arith, is));
      below = λ is. absurd (⊎_elim (λ h. omega (arith, h)) (λ others. ⊎_elim (λ h. omega (arith, h)) (λ h. omega (arith, h)) others) is);
      read = λ is. rose;
      written = λ is. absurd (omega (arith, is));
      disk = λ is. absurd (omega (arith, is));
    };
  }

  -- the master stopped
  pub replay-stopped : (s : Stop) (status : ℕ) → StopsAs s status → IfSome script Part → Below → OnFull (Err (Stopped s)) (IfSome script Full)
      → (reads writes : Type 0) → Blames (Err (Stopped s)) (DiskRose x y) reads writes → Ends status
  replay-stopped stop.Disk status is ran below full reads writes blames = subst Ends (sym is) (replay-disk ran blames)
  replay-stopped (stop.Full place) status is ran below full reads writes blames = subst Ends (sym is) (replay-full full below)
  replay-stopped stop.Spent status is ran below full reads writes blames = subst Ends (sym is) (replay-no-memory ran)
  replay-stopped stop.Dead status is ran below full reads writes blames = absurd blames

-- where no event was begun
module _ (script rest : Option (List ℕ)) (reads_before reads_after : ℕ) (x y : View) (start : Cluster) (home : Type 0) (ledger : Ledger) (batch : ℕ)
    (some : 0 < batch) (images : home → EachStandsFor y.a y.b start) (written : y.output ≡ x.output) (syncs : y.syncs ≤ x.syncs) where
  begun-none : IfSome script (λ bytes. RanTo plan_of start (events_of bytes) home x.output y.output y.a y.b batch x.syncs y.syncs ledger)
  begun-none = begun-none-of script
    where
      begun-none-of : (o : Option (List ℕ)) → IfSome o (λ bytes. RanTo plan_of start (events_of bytes) home x.output y.output y.a y.b batch x.syncs y.syncs ledger)
      begun-none-of None = tt
      begun-none-of (Some bytes) = subst (λ out. RanTo plan_of start (events_of bytes) home x.output out y.a y.b batch x.syncs y.syncs ledger) (sym written)
          (none-begun start (events_of bytes) home x.output y.a y.b batch x.syncs y.syncs ledger some syncs images)

  pub unopened-no-memory : Ends script rest reads_before reads_after x y start home ledger batch 10
  unopened-no-memory = replay-no-memory script rest reads_before reads_after x y start home ledger batch begun-none

  pub unopened-disk : DiskRose x y → Ends script rest reads_before reads_after x y start home ledger batch 8
  unopened-disk rose = replay-disk script rest reads_before reads_after x y start home ledger batch begun-none rose
