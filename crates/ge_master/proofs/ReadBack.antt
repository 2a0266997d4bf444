-- How far a record has been read, and what it comes to.
use Rattle.std.proofs.Common.{◌≡◌, ℕ, suc, ◌+◌, ◌-◌, ◌^◌, ◌<◌, ◌≤◌, List, [], ◌∷◌, length, Option, Some, None, Result, Ok, Err, refl, sym, ap, ◌∙◌, arith}
use Rattle.ge_model_rows.specs.ClusterRows.{Cluster, opening_cluster}
use Rattle.ge_model_rows.specs.EntryRows.{Entry}
use Rattle.ge_model_codec.specs.Canonical.{AreBytes}
use Rattle.ge_model_codec.specs.declared.TakeFault.{TakeFault}
use Rattle.ge_model_jobs.specs.Applying.{after_entry}
use Rattle.ge_model_journal.specs.Journal.{State}
use Rattle.ge_model_keeping.specs.Reading.{held_in}
use Rattle.ge_model_program.specs.Reading.{after_from}
use Rattle.ge_model_program.specs.StandsFor.{snapshot_code, body_code, entry_reading, cluster_from, cluster_after_record, cluster_in_snapshot, held}
use Rattle.ge_master.proofs.ReadAgain.{last_applies, next_applies, none_applies}
use Rattle.ge_master.proofs.Standing.{some_body, body_canonical}

pub smaller : (n at end : ℕ) → at < end → end ≤ n → n - end < n - at
smaller n at end on within = omega arith

module _ (format : ℕ) where
  step-last : (steps : ℕ) (bytes : List ℕ) (at : ℕ) (c d : Cluster) (e : Entry) (end : ℕ) → entry_reading format bytes at ≡ Ok (e, end) → d ≡ after_entry c e → end ≡ length bytes
      → cluster_from format (suc steps) bytes at c ≡ Some d
  unfolding entry_reading cluster_from
  step-last steps bytes at c d e end read is last =
      last_applies (snapshot_code format) (body_code format) after_entry opening_cluster ((body_code format).read bytes at) e end (length bytes) c
      (after_from (snapshot_code format) (body_code format) after_entry opening_cluster steps bytes) read last
      ∙ ap Some (sym is)

  step-next : (steps : ℕ) (bytes : List ℕ) (at : ℕ) (c d : Cluster) (e : Entry) (end : ℕ) → entry_reading format bytes at ≡ Ok (e, end) → d ≡ after_entry c e
      → (end ≡ length bytes → ⊥) → cluster_from format (suc steps) bytes at c ≡ cluster_from format steps bytes end d
  unfolding entry_reading cluster_from
  step-next steps bytes at c d e end read is apart =
      next_applies (snapshot_code format) (body_code format) after_entry opening_cluster ((body_code format).read bytes at) e end (length bytes) c
      (after_from (snapshot_code format) (body_code format) after_entry opening_cluster steps bytes) read apart
      ∙ ap (after_from (snapshot_code format) (body_code format) after_entry opening_cluster steps bytes end) (sym is)

  step-none : (steps : ℕ) (bytes : List ℕ) (at : ℕ) (c : Cluster) (fault : TakeFault) → entry_reading format bytes at ≡ Err fault
      → cluster_from format (suc steps) bytes at c ≡ None
  unfolding entry_reading cluster_from
  step-none steps bytes at c fault read =
      none_applies (snapshot_code format) (body_code format) after_entry opening_cluster ((body_code format).read bytes at) fault (length bytes) c
      (after_from (snapshot_code format) (body_code format) after_entry opening_cluster steps bytes) read

  -- an entry takes a byte at least
  pub reads-on : (bytes : List ℕ) (at : ℕ) (e : Entry) (end : ℕ) → AreBytes bytes → at ≤ length bytes → entry_reading format bytes at ≡ Ok (e, end) → at < end
  unfolding entry_reading
  reads-on bytes at e end are inside read = omega (arith, ((body_canonical format).writes_back bytes at e end are inside read).ends, some_body format e)

  -- the entries up to a place are applied
  pub record HasApplied (start : Cluster) (bytes : List ℕ) (at : ℕ) (reached : Cluster) : Type 0 where
    pub steps : ℕ
    pub enough : length bytes < steps + at
    pub left : cluster_from format steps bytes at reached ≡ cluster_after_record format start bytes

  whole-from : (c : Cluster) (bytes : List ℕ) → cluster_from format (suc (length bytes)) bytes 0 c ≡ cluster_after_record format c bytes
  unfolding cluster_from cluster_after_record
  whole-from c bytes = refl

  pub HasApplied-none : (c : Cluster) (bytes : List ℕ) → HasApplied c bytes 0 c
  HasApplied-none c bytes = record { steps = suc (length bytes); enough = omega arith; left = whole-from c bytes }

  -- there is a step left
  one-left : (start : Cluster) (bytes : List ℕ) (at : ℕ) (c : Cluster) (h : HasApplied start bytes at c) → at ≤ length bytes → (n : ℕ) × (h.steps ≡ suc n)
  one-left start bytes at c h inside = (h.steps - 1, omega (arith, h.enough))

  pub HasApplied-last : (start : Cluster) (bytes : List ℕ) (at : ℕ) (c d : Cluster) (e : Entry) (end : ℕ) → HasApplied start bytes at c → at ≤ length bytes
      → entry_reading format bytes at ≡ Ok (e, end) → d ≡ after_entry c e → end ≡ length bytes → cluster_after_record format start bytes ≡ Some d
  HasApplied-last start bytes at c d e end h inside read is last =
      let n = one-left start bytes at c h inside in
      sym h.left ∙ ap (λ k. cluster_from format k bytes at c) n.1 ∙ step-last n.0 bytes at c d e end read is last

  pub HasApplied-next : (start : Cluster) (bytes : List ℕ) (at : ℕ) (c d : Cluster) (e : Entry) (end : ℕ) → HasApplied start bytes at c → AreBytes bytes → at ≤ length bytes
      → entry_reading format bytes at ≡ Ok (e, end) → d ≡ after_entry c e → (end ≡ length bytes → ⊥) → HasApplied start bytes end d
  HasApplied-next start bytes at c d e end h are inside read is apart =
      let n = one-left start bytes at c h inside in
      let on : at < end = reads-on bytes at e end are inside read in
      record {
        steps = n.0;
        enough = omega (arith, h.enough, n.1, on);
        left = sym (step-next n.0 bytes at c d e end read is apart) ∙ ap (λ k. cluster_from format k bytes at c) (sym n.1) ∙ h.left;
      }

  pub HasApplied-bad : (start : Cluster) (bytes : List ℕ) (at : ℕ) (c : Cluster) (fault : TakeFault) → HasApplied start bytes at c → at ≤ length bytes
      → entry_reading format bytes at ≡ Err fault → cluster_after_record format start bytes ≡ None
  HasApplied-bad start bytes at c fault h inside read =
      let n = one-left start bytes at c h inside in
      sym h.left ∙ ap (λ k. cluster_from format k bytes at c) n.1 ∙ step-none n.0 bytes at c fault read

-- a journal holds what is read of it part by part
pub held-walked : (state : State) → held_in (cluster_in_snapshot state.format) (cluster_after_record state.format) state ≡ held state
unfolding cluster_in_snapshot cluster_after_record held
held-walked state = refl
