-- What opening comes to.
use Rattle.std.proofs.Common.{◌≡◌, ℕ, List, length, Result, Ok, Err, ap, ◌∙◌, sym, subst}
use Rattle.ge_model_journal.specs.Disk.{IsImageSince}
use Rattle.ge_model_journal.specs.Area.{head}
use Rattle.ge_model_journal.specs.Journal.{State, choice, meaning, counted_area}
use Rattle.ge_model_keeping.specs.Standing.{or_bad, or_frame, stands_for}
use Rattle.ge_spool.specs.Moments.{IsQuiet}
use Rattle.ge_spool.specs.Opening as journal
use Rattle.ge_spool.specs.Opening.{HasOpened, Blames, OnFrame, raw_state}
use Rattle.ge_spool.specs.Settled.{IsSettled}
use Rattle.ge_spool.specs.declared.faults.OpenFault.{OpenFault}
use Rattle.ge_spool.specs.declared.faults.OpenFault.TheVariants.{Disk, Frame, Bad, Memory}
use Rattle.ge_spool.specs.declared.raw.Raw.{Raw}
use Rattle.ge_spool.specs.declared.spool.Spool.{Spool}
use Rattle.ge_keeping.specs.Areas.{Areas}
use Rattle.ge_keeping.specs.Homes.{StandsSince}
use Rattle.ge_keeping.specs.Reading.{ReadsBack}
use Rattle.ge_keeping.specs.Opening.{BlamesFor, IsOpened, OpensAs}
use Rattle.ge_keeping.proofs.Standing.{stands-for}

module _ {T W : Type 0} (frame bad : ℕ → ℕ → W) (held : State → Result T ℕ) where
  -- what can't be read is bad in the area that counts
  stands-bad : (a b : List ℕ) (s : State) (place : ℕ) → meaning a b ≡ Ok s → held s ≡ Err place
      → stands_for frame bad held a b ≡ Err (bad (counted_area (choice (head a) (head b))) place)
  stands-bad a b s place is wrong =
      ap (or_frame frame bad held (counted_area (choice (head a) (head b)))) is ∙ ap (or_bad frame bad held (counted_area (choice (head a) (head b)))) wrong

  -- a frame that is wrong is told as it is
  stands-frame : (a b : List ℕ) (area place : ℕ) → meaning a b ≡ Err (area, place) → stands_for frame bad held a b ≡ Err (frame area place)
  stands-frame a b area place is = ap (or_frame frame bad held (counted_area (choice (head a) (head b)))) is

  -- areas of one meaning stand for one value, whichever of them counts
  or_bad-same : (n k : ℕ) (r : Result T ℕ) (t : T) → or_bad frame bad held n r ≡ Ok t → or_bad frame bad held k r ≡ Ok t
  or_bad-same n k (Ok d) t h = h
  or_bad-same n k (Err place) t h = cc

  or_frame-same : (n k : ℕ) (m : Result State (ℕ × ℕ)) (t : T) → or_frame frame bad held n m ≡ Ok t → or_frame frame bad held k m ≡ Ok t
  or_frame-same n k (Ok s) t h = or_bad-same n k (held s) t h
  or_frame-same n k (Err wrong) t h = cc

  -- what every pair of images means it stands for
  pub opened-moments : (before after : Areas)
      → ((bytes_a bytes_b : List ℕ) → IsQuiet before.a bytes_a → IsQuiet before.b bytes_b
      → (c d : List ℕ) → IsImageSince (length before.a) after.a c → IsImageSince (length before.b) after.b d → meaning c d ≡ meaning bytes_a bytes_b)
      → (bytes_a bytes_b : List ℕ) → IsQuiet before.a bytes_a → IsQuiet before.b bytes_b
      → (start : T) → stands_for frame bad held bytes_a bytes_b ≡ Ok start → StandsSince frame bad held before after start
  opened-moments before after moments bytes_a bytes_b quiet_a quiet_b start stood c d of_c of_d =
      or_frame-same (counted_area (choice (head bytes_a) (head bytes_b))) (counted_area (choice (head c) (head d))) (meaning c d) start
      (ap (or_frame frame bad held (counted_area (choice (head bytes_a) (head bytes_b)))) (moments bytes_a bytes_b quiet_a quiet_b c d of_c of_d) ∙ stood)

  module _ {X : Type 0} (spool_of : X → Spool) (value_of : X → T) (read_a read_b : List ℕ) (now : Areas) where
    -- the journal wasn't opened
    pub opened-fault : (fault : OpenFault) → journal.Opens (Err fault) read_a read_b now.a now.b → OpensAs frame bad held spool_of value_of (Err fault) read_a read_b now
    opened-fault Disk h = tt
    opened-fault (Frame area place) h = stands-frame read_a read_b area place h
    opened-fault (Bad area place) h = absurd h
    opened-fault Memory h = tt

    module _ (spool : Spool) (raw : Raw) (h : HasOpened spool raw read_a read_b now.a now.b) where
      -- what it holds was read
      pub opened-good : (x : X) → spool_of x ≡ spool → held (raw_state raw) ≡ Ok (value_of x) → IsOpened frame bad held spool_of value_of x read_a read_b now
      opened-good x over holds = record {
        home = record { state = raw_state raw; settled = subst (λ s. IsSettled s now.a now.b (raw_state raw)) (sym over) h.settled; holds = holds };
        journal = h.stands;
        stood = stands-for frame bad held read_a read_b (raw_state raw) (value_of x) h.stands holds;
        areas = record { first = h.first; second = h.second };
      }

      -- what it holds can't be read
      pub opened-bad : (fault : OpenFault) → ReadsBack {T = T} (Err fault) raw.area (held (raw_state raw)) → OpensAs frame bad held spool_of value_of (Err fault) read_a read_b now
      opened-bad Disk read = tt
      opened-bad (Frame area place) read = absurd read
      opened-bad (Bad area place) read = (
        stands-bad read_a read_b (raw_state raw) place h.stands read.1 ∙ ap (λ (n : ℕ). Err (bad n place)) (sym (read.0 ∙ h.area)),
        record { first = h.first; second = h.second },
      )
      opened-bad Memory read = tt

-- T: what was opened or read; X: what the call answers
module _ (T X : Type 0) where
  -- reading back blames no frame and no disk
  pub no-frame : (fault : OpenFault) (area : ℕ) (want : Result T ℕ) (P : Type 0) → ReadsBack {T = T} (Err fault) area want → OnFrame {T = X} (Err fault) P
  no-frame Disk area want P read = tt
  no-frame (Frame number place) area want P read = absurd read
  no-frame (Bad number place) area want P read = tt
  no-frame Memory area want P read = tt

  pub no-blame : (fault : OpenFault) (area : ℕ) (want : Result T ℕ) (reason : Type 0) → ReadsBack {T = T} (Err fault) area want → BlamesFor {T = X} (Err fault) reason
  no-blame Disk area want reason read = absurd read
  no-blame (Frame number place) area want reason read = tt
  no-blame (Bad number place) area want reason read = tt
  no-blame Memory area want reason read = tt

  -- a journal that wasn't opened blames as its fault does
  pub same-blame : (fault : OpenFault) (reason : Type 0) → Blames {T = T} (Err fault) reason → BlamesFor {T = X} (Err fault) reason
  same-blame Disk reason h = h
  same-blame (Frame area place) reason h = tt
  same-blame (Bad area place) reason h = absurd h
  same-blame Memory reason h = tt

  pub same-frame : (fault : OpenFault) (P : Type 0) → OnFrame {T = T} (Err fault) P → OnFrame {T = X} (Err fault) P
  same-frame Disk P h = h
  same-frame (Frame area place) P h = h
  same-frame (Bad area place) P h = h
  same-frame Memory P h = h
