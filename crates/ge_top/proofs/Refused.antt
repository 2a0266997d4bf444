-- What areas are left as that stand for nothing.
use Rattle.std.proofs.Common.{◌≡◌, ℕ, List, [], ◌∷◌, Result, Ok, Err, refl, ap, inl, inr}
use Rattle.ge_model_rows.specs.ClusterRows.{Cluster, opening_cluster}
use Rattle.ge_model_journal.specs.Disk.{Content, read_bytes, told_synced}
use Rattle.ge_model_journal.specs.Area.{head}
use Rattle.ge_model_journal.specs.Journal.{first_state, choice, meaning, meaning_by}
use Rattle.ge_model_journal.specs.Writing.{first_opened, second_opened}
use Rattle.ge_model_journal.specs.declared.Choice.{Choice}
use Rattle.ge_model_journal.specs.declared.Choice.TheVariants.{Neither, Chosen, Wrong as WrongHeader}
use Rattle.ge_model_program.specs.StandsFor.{held, stands_for}
use Rattle.ge_model_program.specs.declared.Wrong.{Wrong}
use Rattle.ge_model_program.specs.View.{View, IsKept, AreKept, both_bytes}
use Rattle.ge_spool.specs.declared.faults.OpenFault.TheVariants as fault
use Rattle.ge_serve.specs.OpeningMasters.{OpensMaster}
use Rattle.ge_serve.proofs.Standing.{stands-for}
use Rattle.ge_top.proofs.Opened.{areas_in, if_said}

-- nothing stands for the cluster before the first command
first-held : held first_state ≡ Ok opening_cluster
unfolding held
first-held = refl

none-means : (a b : List ℕ) → choice (head a) (head b) ≡ Neither → meaning a b ≡ Ok first_state
unfolding meaning
none-means a b is = ap (λ c. meaning_by c a b) is

none-stands : (a b : List ℕ) → choice (head a) (head b) ≡ Neither → stands_for a b ≡ Ok opening_cluster
none-stands a b is = stands-for a b first_state opening_cluster (none-means a b is) first-held

no-refusal : (r : Result Cluster Wrong) (c : Cluster) (wrong : Wrong) → r ≡ Ok c → r ≡ Err wrong → ⊥
no-refusal r c wrong stands refused = cc

first-kept : (c : Choice) (bytes new : List ℕ) → (c ≡ Neither → ⊥) → new ≡ first_opened c bytes → IsKept bytes new
first-kept Neither bytes new some is = absurd (some refl)
first-kept (Chosen second header) bytes new some is = inr is
first-kept (WrongHeader area place) bytes new some is = inl is

second-kept : (c : Choice) (bytes new : List ℕ) → new ≡ second_opened c bytes → IsKept bytes new
second-kept Neither bytes new is = inr is
second-kept (Chosen second header) bytes new is = inr is
second-kept (WrongHeader area place) bytes new is = inl is

synced-kept : (told new : List Content) → new ≡ told_synced told → IsKept (read_bytes told) (read_bytes new)
synced-kept [] new is = inl (ap read_bytes is)
synced-kept (now ∷ earlier) new is = inl (ap read_bytes is)

-- a frame that is wrong
pub frame-kept : (x y : View) (area place : ℕ) → OpensMaster (Err (fault.Frame area place)) (areas_in x) (areas_in y) → AreKept x y
frame-kept x y area place opens =
    if_said both_bytes x.a x.b (λ read. IsKept read.0 (read_bytes y.a) × IsKept read.1 (read_bytes y.b))
    (λ tells_a tells_b. (synced-kept x.a y.a opens.unwritten.0, synced-kept x.b y.b opens.unwritten.1))

-- a snapshot or a record that can't be read
pub body-kept : (x y : View) (area place : ℕ) → OpensMaster (Err (fault.Bad area place)) (areas_in x) (areas_in y) → AreKept x y
body-kept x y area place opens =
    if_said both_bytes x.a x.b (λ read. IsKept read.0 (read_bytes y.a) × IsKept read.1 (read_bytes y.b))
    (λ tells_a tells_b.
    let opened = opens.opened tells_a tells_b in
    let some : choice (head (read_bytes x.a)) (head (read_bytes x.b)) ≡ Neither → ⊥ =
    λ is. no-refusal (stands_for (read_bytes x.a) (read_bytes x.b)) opening_cluster _ (none-stands (read_bytes x.a) (read_bytes x.b) is) opened.0 in (
      first-kept (choice (head (read_bytes x.a)) (head (read_bytes x.b))) (read_bytes x.a) (read_bytes y.a) some opened.1.first,
      second-kept (choice (head (read_bytes x.a)) (head (read_bytes x.b))) (read_bytes x.b) (read_bytes y.b) opened.1.second,
    ))
