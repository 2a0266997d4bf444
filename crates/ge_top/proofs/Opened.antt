-- A replay over a master that was opened, and a run where no master was opened.
use Rattle.std.proofs.Common.{◌≡◌, ℕ, ◌+◌, ◌-◌, ◌<◌, ◌≤◌, List, [], ◌∷◌, ◌++◌, length, Option, Some, IfSome, inl, inr, ⊎_elim, arith}
use Rattle.ge_outside.specs.Faults.{Rose}
use Rattle.ge_model_rows.specs.ClusterRows.{Cluster}
use Rattle.ge_model_rows.specs.EventRows.{Event}
use Rattle.ge_model_journal.specs.Disk.{Content, read_bytes}
use Rattle.ge_model_grammar.specs.Events.{events_of}
use Rattle.ge_model_grammar.specs.Sources.{IsReadToEnd}
use Rattle.ge_model_core.specs.Plan.{plan_of}
use Rattle.ge_model_program.specs.View.{View, said_of, IsStill}
use Rattle.ge_model_program.specs.Keeping.{Ledger}
use Rattle.ge_model_program.specs.Runs.{EachStandsFor, Syncs, RanTo, RanCut, RanAll, RanFull}
use Rattle.ge_model_program.specs.Replaying.{HasCauses, Replays, opened_view}
use Rattle.ge_spool.specs.Moments.{IsQuiet}
use Rattle.ge_spool.specs.Opening.{Tells}
use Rattle.ge_serve.specs.Areas.{Areas}
use Rattle.ge_top.proofs.Fitting.{nothing-fits}
use Rattle.ge_top.proofs.Told.{no_some, same_some, on-some}
use Rattle.ge_top.proofs.Held.{Gains-nothing}

-- the areas of a view
abbrev pub areas_in : View → Areas
areas_in x = record { a = x.a; b = x.b; syncs = x.syncs; faults_a = x.faults_a; faults_b = x.faults_b }

-- what is said of areas as they read, where both tell
pub said : {R : Type 0} (say : List ℕ → List ℕ → R) (a b : List Content) (r : R) → said_of say a b ≡ Some r → Tells a × Tells b × (say (read_bytes a) (read_bytes b) ≡ r)
said say [] b r is = absurd (no_some r is)
said say (now ∷ earlier) [] r is = absurd (no_some r is)
said say (now ∷ earlier) (other ∷ others) r is = (tt, tt, same_some (say now.bytes other.bytes) r is)

-- a fact of what is said, where both areas tell
pub if_said : {R : Type 0} (say : List ℕ → List ℕ → R) (a b : List Content) (P : R → Type 0) → (Tells a → Tells b → P (say (read_bytes a) (read_bytes b))) → IfSome (said_of say a b) P
if_said say [] b P holds = tt
if_said say (now ∷ earlier) [] P holds = tt
if_said say (now ∷ earlier) (other ∷ others) P holds = holds tt tt

-- an area with nothing pending is as it reads
pub still-quiet : (told : List Content) → IsStill told → IsQuiet told (read_bytes told)
still-quiet [] still = absurd still
still-quiet (now ∷ earlier) still = still

-- a count that rose later rose
pub rose-before : (first mid last : ℕ) → first ≤ mid → Rose mid last → Rose first last
rose-before first mid last later rose = omega (arith, later, rose)

-- syncs of batches, with those before them
syncs-before : (batch m first mid last : ℕ) → mid ≤ first → Syncs batch m mid last → Syncs batch m first last
syncs-before batch m first mid last later syncs = record { batches = syncs.batches; begun = syncs.begun; few = omega (arith, syncs.few, later) }

-- How far a replay has come, seen from before the areas were opened.
module _ (start : Cluster) (events : List Event) (home at_rest : Type 0) (old new : Option (List ℕ)) (a b : List Content) (batch first before later : ℕ)
    (ledger : Ledger) (opened : before ≤ first) (brings : at_rest → home) where
  all-before : (ended : Type 0) → RanAll plan_of start events home old new a b batch before later ledger ended → RanAll plan_of start events at_rest old new a b batch first later ledger ended
  all-before ended ran = record {
    marks = ran.marks;
    within = ran.within;
    all = ran.all;
    wrote = ran.wrote;
    fits = ran.fits;
    images = λ rest. ran.images (brings rest);
    syncs = syncs-before batch (length ran.marks) first before later opened ran.syncs;
  }

  to-before : RanTo plan_of start events home old new a b batch before later ledger → RanTo plan_of start events at_rest old new a b batch first later ledger
  to-before ran = record {
    marks = ran.marks;
    n = ran.n;
    answered = ran.answered;
    in_hand = ran.in_hand;
    within = ran.within;
    wrote = ran.wrote;
    fits = ran.fits;
    images = λ rest. ran.images (brings rest);
    syncs = syncs-before batch (length ran.marks) first before later opened ran.syncs;
  }

  cut-before : RanCut plan_of start events home old new a b batch before later ledger → RanCut plan_of start events at_rest old new a b batch first later ledger
  cut-before ran = record {
    marks = ran.marks;
    n = ran.n;
    answered = ran.answered;
    in_hand = ran.in_hand;
    within = ran.within;
    size = ran.size;
    least = ran.least;
    most = ran.most;
    wrote = ran.wrote;
    fits = ran.fits;
    images = λ rest. ran.images (brings rest);
    syncs = syncs-before batch (length ran.marks) first before later opened ran.syncs;
  }

  full-before : RanFull plan_of start events home old new a b batch before later ledger → RanFull plan_of start events at_rest old new a b batch first later ledger
  full-before ran = record {
    next = ran.next;
    place = ran.place;
    room = ran.room;
    images = λ rest. ran.images (brings rest);
    syncs = syncs-before batch (length (ran.next.marks ++ ran.next.more)) first before later opened ran.syncs;
  }

-- A replay over areas that were opened, seen from before that.
module _ (status : ℕ) (script rest : Option (List ℕ)) (reads_before reads_after : ℕ) (x y : View) (a b : List Content) (syncs faults_a faults_b : ℕ)
    (opened : syncs ≤ x.syncs + 6) (later_a : x.faults_a ≤ faults_a) (later_b : x.faults_b ≤ faults_b) where
  pub causes-before : HasCauses status script rest reads_before reads_after (record { output = x.output; writes = x.writes; a = a; b = b; syncs = syncs; faults_a = faults_a; faults_b = faults_b }) y
      → HasCauses status script rest reads_before reads_after x y
  causes-before causes = record {
    ended = causes.ended;
    long = causes.long;
    below = causes.below;
    read = causes.read;
    written = causes.written;
    disk = λ is. ⊎_elim (λ h. inl (rose-before x.faults_a faults_a y.faults_a later_a h)) (λ h. inr (rose-before x.faults_b faults_b y.faults_b later_b h)) (causes.disk is);
  }

  pub replays-before : (start : Cluster) (home at_rest : Type 0) (ledger : Ledger) (batch : ℕ) → (at_rest → home)
      → Replays status script rest reads_before reads_after (record { output = x.output; writes = x.writes; a = a; b = b; syncs = syncs; faults_a = faults_a; faults_b = faults_b }) y start home ledger batch
      → Replays status script rest reads_before reads_after (opened_view x) y start at_rest ledger batch
  replays-before start home at_rest ledger batch brings ran = record {
    statuses = ran.statuses;
    whole = λ is. on-some _ _ script (λ bytes. all-before start (events_of bytes) home at_rest x.output y.output y.a y.b batch (x.syncs + 6) syncs y.syncs ledger opened brings (IsReadToEnd rest)) (ran.whole is);
    part = λ is. on-some _ _ script (λ bytes. to-before start (events_of bytes) home at_rest x.output y.output y.a y.b batch (x.syncs + 6) syncs y.syncs ledger opened brings) (ran.part is);
    cut = λ is. on-some _ _ script (λ bytes. cut-before start (events_of bytes) home at_rest x.output y.output y.a y.b batch (x.syncs + 6) syncs y.syncs ledger opened brings) (ran.cut is);
    full = λ is. on-some _ _ script
        (λ bytes. full-before start (events_of bytes) home at_rest x.output y.output y.a y.b batch (x.syncs + 6) syncs y.syncs ledger opened brings) (ran.full is);
    causes = record {
      ended = ran.causes.ended;
      long = ran.causes.long;
      below = ran.causes.below;
      read = ran.causes.read;
      written = ran.causes.written;
      disk = λ is. ⊎_elim (λ h. inl (rose-before x.faults_a faults_a y.faults_a later_a h)) (λ h. inr (rose-before x.faults_b faults_b y.faults_b later_b h)) (ran.causes.disk is);
    };
  }

-- where no event was begun
module _ (start : Cluster) (events : List Event) (home : Type 0) (old : Option (List ℕ)) (a b : List Content) (batch before later : ℕ) (ledger : Ledger) where
  pub none-begun : 0 < batch → later ≤ before → (home → EachStandsFor a b start) → RanTo plan_of start events home old old a b batch before later ledger
  none-begun some few images = record {
    marks = [];
    n = 0;
    answered = omega arith;
    in_hand = omega arith;
    within = omega arith;
    wrote = Gains-nothing old;
    fits = λ k. nothing-fits plan_of batch k ledger start events;
    images = λ at_home. λ c d of_c of_d. inr (images at_home c d of_c of_d);
    syncs = record { batches = 0; begun = omega (arith, some); few = omega (arith, few) };
  }
