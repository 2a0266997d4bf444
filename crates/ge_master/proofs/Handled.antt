-- What handling a batch comes to, at each exit.
use Rattle.std.proofs.Common.{◌≡◌, ℕ, ◌+◌, ◌<◌, ◌≤◌, Bool, true, false, List, [], ◌∷◌, length, replicate, Result, Ok, Err, refl, ap, ◌∙◌, sym, subst, inl, inr, arith, fold}
use Rattle.std.specs.Prelude.{IsTrue, ◌↔◌, ◌||◌}
use Rattle.std.proofs.lemmas.List.{length-replicate}
use Rattle.ge_limits.specs.Limits as limit
use Rattle.ge_model_rows.specs.ClusterRows.{Cluster}
use Rattle.ge_model_rows.specs.EventRows.{Event, Reply, Planned}
use Rattle.ge_model_journal.specs.Disk.{IsImageSince}
use Rattle.ge_model_journal.specs.Journal.{State, IsOneOf}
use Rattle.ge_model_jobs.specs.Applying.{after_entry}
use Rattle.ge_model_program.specs.StandsFor.{cluster_bytes, cluster_fits, held, StandsForOneOf}
use Rattle.ge_model_program.specs.Traced.{Traced, traced}
use Rattle.ge_spool.specs.Settled.{IsSettled, Grows, format_of}
use Rattle.ge_spool.specs.declared.spool.Spool.{Spool}
use Rattle.ge_model_program.specs.declared.Wrong.TheVariants.{Frame, Bad}
use Rattle.ge_keeping.specs.Keeping.{Keeps, OnUnwritten as KeptUnwritten, OnWritten}
use Rattle.ge_keeping.specs.declared.faults.KeepFault.{KeepFault}
use Rattle.ge_keeping.specs.declared.faults.KeepFault.TheVariants as fault
use Rattle.ge_keeping.proofs.Standing as keeping
use Rattle.ge_master.specs.declared.faults.Stop.{Stop}
use Rattle.ge_master.specs.declared.faults.Stop.TheVariants.{Disk, Full, Spent, Dead}
use Rattle.ge_master.specs.declared.staging.Staged.{Staged}
use Rattle.ge_master.specs.Areas.{Areas, HasFailed, EachSince, StandsSince}
use Rattle.ge_master.specs.Storing.{compacts, written_end, stored, IsStored, stored_syncs, StopsAs, OnUnwritten}
use Rattle.ge_master.specs.Staging.{IsStaged}
use Rattle.ge_master.specs.Homes.{Parts, IsHome}
use Rattle.ge_master.specs.Ledgers.{ledger_of}
use Rattle.ge_master.specs.Handling.{traced_size, traced_end, RepliesAs, HandlesBatch}
use Rattle.ge_master.proofs.Standing.{holds-stored, no_entries}
use Rattle.ge_master.proofs.Staged.{traced-applied}
use Rattle.ge_master.proofs.Bounds.{few-stored, compacts-full}
use Rattle.ge_master.proofs.KeptOn.{has-entries, ledger-same, ledger-next}

-- what isn't empty has something
pub not_empty : {X : Type 0} (t : Bool) (xs : List X) → (IsTrue t ↔ (xs ≡ [])) → t ≡ false → 0 < length xs
not_empty t [] is lacks = absurd (never t (is.1 refl) lacks)
  where
    never : (t : Bool) → t ≡ true → t ≡ false → ⊥
    never t holds lacks = cc
not_empty t (x ∷ xs) is lacks = omega arith

-- while nothing is written every pair of images stands for the cluster
stays : (old : Parts) (before after : Areas) → IsHome old before → after.a ≡ before.a → after.b ≡ before.b → StandsSince before after old.cluster
stays old before after home same_a same_b = keeping.stays Frame Bad held old.spool old.cluster before after home same_a same_b

module _ (plan : Cluster → Event → Planned) (old : Parts) (events : List Event) (before after : Areas) where
  -- there is no memory, and nothing was written
  pub handled-spent : (new : Parts) → after ≡ before → Grows before.a after.a before.b after.b → HandlesBatch plan old new events (Err Spent) before after
  handled-spent new same grows =
      let same_a : after.a ≡ before.a = ap (λ (now : Areas). now.a) same in
      let same_b : after.b ≡ before.b = ap (λ (now : Areas). now.b) same in
      let same_syncs : after.syncs ≡ before.syncs = ap (λ (now : Areas). now.syncs) same in
      record {
        marks = replicate (length events) false;
        counted = length-replicate (length events) false;
        handled = record {
          answer = tt;
          left = tt;
          home = λ home. tt;
          idle = λ none. same;
          any_moment = λ home c d of_c of_d. inl (stays old before after home same_a same_b c d of_c of_d);
          unwritten = λ home. stays old before after home same_a same_b;
          grows = grows;
          syncs = omega (arith, same_syncs);
        };
      }

  module _ (cluster : Cluster) (staged : Staged) (is : IsStaged plan old.cluster events staged cluster) where
    abbrev trace : Traced
    trace = traced plan old.cluster events is.marks

    made : cluster ≡ fold after_entry old.cluster trace.entries
    made = is.cluster ∙ traced-applied plan old.cluster events is.marks

    -- there was nothing to write
    pub handled-nothing : (stopping : Bool) → stopping ≡ (old.stopping || staged.stop) → staged.body ≡ [] → after ≡ before → Grows before.a after.a before.b after.b
        → HandlesBatch plan old (record { spool = old.spool; cluster = cluster; stopping = stopping }) events (Ok staged.replies) before after
    handled-nothing stopping asks empty same_areas grows =
        let same_a : after.a ≡ before.a = ap (λ (now : Areas). now.a) same_areas in
        let same_b : after.b ≡ before.b = ap (λ (now : Areas). now.b) same_areas in
        let same_syncs : after.syncs ≡ before.syncs = ap (λ (now : Areas). now.syncs) same_areas in
        let none : trace.entries ≡ [] = no_entries trace.entries staged.body is.bytes empty in
        let same : old.cluster ≡ cluster = sym (made ∙ ap (fold after_entry old.cluster) none) in
        record {
          marks = is.marks;
          counted = is.counted;
          handled = record {
            answer = (is.replies, inl none);
            left = record {
              cluster = is.cluster;
              stopping = asks ∙ ap (λ s. old.stopping || s) is.stop;
              journal = inl (none, refl);
              ledger = ledger-same trace (ledger_of old.spool) _ none;
              few = λ low. inl none;
            };
            home = λ home. record {
              state = home.state;
              settled = subst (λ told. IsSettled old.spool told after.b home.state) (sym same_a) (subst (λ told. IsSettled old.spool before.a told home.state) (sym same_b) home.settled);
              holds = home.holds ∙ ap (λ x. Ok x) same;
            };
            idle = λ none. same_areas;
            any_moment = λ home c d of_c of_d. inl (stays old before after home same_a same_b c d of_c of_d);
            unwritten = λ home. tt;
            grows = grows;
            syncs = omega (arith, same_syncs);
          };
        }

    abbrev compacting : Bool
    compacting = compacts old.spool (length staged.body)

    module _ (later : Spool) (some : 0 < length staged.body) (format : compacting ≡ false → format_of old.spool ≡ 2) (grows : Grows before.a after.a before.b after.b)
        (syncs : after.syncs ≤ before.syncs + stored_syncs compacting)
        (moments : (state : State) → IsSettled old.spool before.a before.b state → (c d : List ℕ) → IsImageSince (length before.a) after.a c
        → IsImageSince (length before.b) after.b d → IsOneOf state (stored compacting state staged.body (cluster_bytes cluster)) c d) where
      -- where the area ends that is written
      the_end : written_end old.spool cluster (length staged.body) ≡ traced_end old.spool trace
      the_end = λ i. written_end old.spool (is.cluster i) (length (is.bytes i))

      the_syncs : after.syncs ≤ before.syncs + stored_syncs (compacts old.spool (traced_size trace))
      the_syncs = subst (λ body. after.syncs ≤ before.syncs + stored_syncs (compacts old.spool (length body))) is.bytes syncs

      -- there is something to write
      some-entries : 0 < length trace.entries
      some-entries = has-entries trace.entries staged.body is.bytes some

      never-idle : trace.entries ≡ [] → after ≡ before
      never-idle none = absurd (omega (arith, some-entries, ap length none))

      -- what was written stands for the cluster after the batch
      written-holds : (compacting ≡ true → IsTrue (cluster_fits cluster)) → (home : IsHome old before)
          → held (stored compacting home.state staged.body (cluster_bytes cluster)) ≡ Ok cluster
      written-holds fits home =
          holds-stored compacting home.state staged.body old.cluster cluster trace.entries home.holds is.bytes some is.fits made fits
          (λ records. sym home.settled.format ∙ format records)

      each-moment : (compacting ≡ true → IsTrue (cluster_fits cluster)) → IsHome old before → EachSince before after (StandsForOneOf old.cluster trace.cluster)
      each-moment fits home c d of_c of_d =
          subst (λ x. StandsForOneOf old.cluster x c d) is.cluster
          (keeping.stands-for-one Frame Bad held home.state (stored compacting home.state staged.body (cluster_bytes cluster)) old.cluster cluster c d home.holds (written-holds fits home)
          (moments home.state home.settled c d of_c of_d))

      -- it was not kept
      fault-as : (stop : Stop) (new : Parts) → RepliesAs trace old.spool (Err stop) (HasFailed before after)
          → (IsHome old before → EachSince before after (StandsForOneOf old.cluster trace.cluster))
          → (IsHome old before → OnUnwritten {T = List Reply} (Err stop) (StandsSince before after old.cluster)) → HandlesBatch plan old new events (Err stop) before after
      fault-as stop new answer any_moment unwritten = record {
        marks = is.marks;
        counted = is.counted;
        handled = record {
          answer = answer;
          left = tt;
          home = λ home. tt;
          idle = never-idle;
          any_moment = any_moment;
          unwritten = unwritten;
          grows = grows;
          syncs = the_syncs;
        };
      }

      still : (stop : Stop) (new : Parts) → RepliesAs trace old.spool (Err stop) (HasFailed before after) → after.a ≡ before.a → after.b ≡ before.b
          → (StandsSince before after old.cluster → OnUnwritten {T = List Reply} (Err stop) (StandsSince before after old.cluster)) → HandlesBatch plan old new events (Err stop) before after
      still stop new answer same_a same_b unwritten =
          fault-as stop new answer (λ home c d of_c of_d. inl (stays old before after home same_a same_b c d of_c of_d))
          (λ home. unwritten (stays old before after home same_a same_b))

      pub handled-fault : (f : KeepFault) (stop : Stop) (new : Parts) → StopsAs f stop → Keeps (Err f) (written_end old.spool cluster (length staged.body)) (HasFailed before after)
          → (compacting ≡ true → OnWritten {T = Unit {0}} (Err f) (IsTrue (cluster_fits cluster)))
          → KeptUnwritten {T = Unit {0}} (Err f) ((after.a ≡ before.a) × (after.b ≡ before.b)) → HandlesBatch plan old new events (Err stop) before after
      handled-fault fault.Disk stop new stops answer fits same =
          subst (λ s. HandlesBatch plan old new events (Err s) before after) (sym stops)
          (fault-as Disk new (answer.1, subst (λ end. end ≤ limit.area_bytes) the_end answer.0) (each-moment fits) (λ home. tt))
      handled-fault (fault.Full place) stop new stops answer fits same =
          let past : limit.area_bytes < place = omega (arith, answer.0, answer.1) in
          let end : place ≡ traced_end old.spool trace = answer.1 ∙ the_end in
          subst (λ s. HandlesBatch plan old new events (Err s) before after) (sym stops)
          (still (Full place) new (record {
            some = some-entries;
            end = end;
            past = past;
            compacting = compacts-full old.spool (traced_size trace) (19 + length (cluster_bytes trace.cluster)) place past end;
          }) same.0 same.1 (λ stands. stands))
      handled-fault fault.Memory stop new stops answer fits same =
          subst (λ s. HandlesBatch plan old new events (Err s) before after) (sym stops) (still Spent new tt same.0 same.1 (λ stands. stands))
      handled-fault fault.Dead stop new stops answer fits same = absurd answer

      -- it was kept
      pub handled-kept : (stopping : Bool) → stopping ≡ (old.stopping || staged.stop) → (compacting ≡ true → IsTrue (cluster_fits cluster))
          → ((state : State) → IsSettled old.spool before.a before.b state → IsSettled later after.a after.b (stored compacting state staged.body (cluster_bytes cluster)))
          → written_end old.spool cluster (length staged.body) ≤ limit.area_bytes
          → IsStored compacting old.spool later (length staged.body) (length (cluster_bytes cluster))
          → HandlesBatch plan old (record { spool = later; cluster = cluster; stopping = stopping }) events (Ok staged.replies) before after
      handled-kept stopping asks fits done room is_stored =
          let journal : IsStored (compacts old.spool (traced_size trace)) old.spool later (traced_size trace) (length (cluster_bytes trace.cluster)) =
          subst (λ body. IsStored (compacts old.spool (length body)) old.spool later (length body) (length (cluster_bytes trace.cluster))) is.bytes
          (subst (λ c. IsStored compacting old.spool later (length staged.body) (length (cluster_bytes c))) is.cluster is_stored) in
          record {
            marks = is.marks;
            counted = is.counted;
            handled = record {
              answer = (is.replies, inr (subst (λ end. end ≤ limit.area_bytes) the_end room));
              left = record {
                cluster = is.cluster;
                stopping = asks ∙ ap (λ s. old.stopping || s) is.stop;
                journal = inr journal;
                ledger = ledger-next trace old.spool later some-entries journal;
                few = λ low. inr (few-stored old.spool later (traced_size trace) (length (cluster_bytes trace.cluster)) journal low);
              };
              home = λ home. record {
                state = stored compacting home.state staged.body (cluster_bytes cluster);
                settled = done home.state home.settled;
                holds = written-holds fits home;
              };
              idle = never-idle;
              any_moment = each-moment fits;
              unwritten = λ home. tt;
              grows = grows;
              syncs = the_syncs;
            };
          }
