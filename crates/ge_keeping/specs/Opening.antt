-- What opening a value that is kept in a journal answers and leaves.
use Rattle.std.specs.Prelude.{◌≡◌, ℕ, ◌+◌, ◌≤◌, List, Result, Ok, Err}
use Rattle.ge_model_journal.specs.Disk.{read_bytes, told_synced}
use Rattle.ge_model_journal.specs.Area.{head}
use Rattle.ge_model_journal.specs.Journal.{State, choice, meaning}
use Rattle.ge_model_journal.specs.Writing.{first_opened, second_opened}
use Rattle.ge_model_keeping.specs.Standing.{stands_for}
use Rattle.ge_spool.specs.Moments.{IsQuiet}
use Rattle.ge_spool.specs.Opening.{Tells, OnFrame}
use Rattle.ge_spool.specs.Settled.{Grows}
use Rattle.ge_spool.specs.declared.spool.Spool.{Spool}
use Rattle.ge_spool.specs.declared.faults.OpenFault.{OpenFault}
use Rattle.ge_spool.specs.declared.faults.OpenFault.TheVariants.{Disk, Frame, Bad, Memory}
use Rattle.ge_keeping.specs.Areas.{Areas, HasFailed}
use Rattle.ge_keeping.specs.Homes.{StandsSince, IsHome}

-- what the areas read after opening: an area below 19 bytes got a closed gate, and where none was open the first was made
pub record AreOpened (read_a read_b : List ℕ) (now : Areas) : Type 0 where
  pub first : read_bytes now.a ≡ first_opened (choice (head read_a) (head read_b)) read_a
  pub second : read_bytes now.b ≡ second_opened (choice (head read_a) (head read_b)) read_b

-- a disk is blamed for a reason
abbrev pub BlamesFor : {T : Type 0} → Result T OpenFault → Type 0 → Type 0
BlamesFor (Ok t) reason = Unit {0}
BlamesFor (Err Disk) reason = reason
BlamesFor (Err (Frame area place)) reason = Unit {0}
BlamesFor (Err (Bad area place)) reason = Unit {0}
BlamesFor (Err Memory) reason = Unit {0}

-- X: what was opened, over a journal and with a value
module _ {T W X : Type 0} (frame bad : ℕ → ℕ → W) (held : State → Result T ℕ) (spool_of : X → Spool) (value_of : X → T) where
  -- it is at home with the value that the areas stood for, over the journal that they were
  pub record IsOpened (x : X) (read_a read_b : List ℕ) (now : Areas) : Type 0 where
    pub home : IsHome held (spool_of x) (value_of x) now
    pub journal : meaning read_a read_b ≡ Ok home.state
    pub stood : stands_for frame bad held read_a read_b ≡ Ok (value_of x)
    pub areas : AreOpened read_a read_b now

  -- the answer where the areas read as these bytes: what was opened, or the first of what is wrong in them
  abbrev pub OpensAs : Result X OpenFault → List ℕ → List ℕ → Areas → Type 0
  OpensAs (Ok x) read_a read_b now = IsOpened x read_a read_b now
  OpensAs (Err Disk) read_a read_b now = Unit {0}
  OpensAs (Err (Frame area place)) read_a read_b now = stands_for frame bad held read_a read_b ≡ Err (frame area place)
  OpensAs (Err (Bad area place)) read_a read_b now =
      (stands_for frame bad held read_a read_b ≡ Err (bad area place)) × AreOpened read_a read_b now
  OpensAs (Err Memory) read_a read_b now = Unit {0}

  -- What opening comes to.
  pub record Opens (result : Result X OpenFault) (before after : Areas) : Type 0 where
    -- for areas that tell: what they stand for as they read
    pub opened : Tells before.a → Tells before.b → OpensAs result (read_bytes before.a) (read_bytes before.b) after
    -- where nothing was pending, every pair of images since then stands for what the areas stood for
    pub any_moment : (bytes_a bytes_b : List ℕ) → IsQuiet before.a bytes_a → IsQuiet before.b bytes_b
        → (start : T) → stands_for frame bad held bytes_a bytes_b ≡ Ok start → StandsSince frame bad held before after start
    -- where a frame is wrong, nothing was written
    pub unwritten : OnFrame result ((after.a ≡ told_synced before.a) × (after.b ≡ told_synced before.b))
    pub blames : BlamesFor result (HasFailed before after)
    pub grows : Grows before.a after.a before.b after.b
    pub syncs : after.syncs ≤ before.syncs + 6
