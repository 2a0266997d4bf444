-- One event as a batch of one.
use Rattle.std.proofs.Common.{◌≡◌, Bool, true, false, List, [], ◌∷◌, length, Result, Ok, Err, refl, ap, ◌∙◌, subst, arith}
use Rattle.std.specs.Prelude.{slice_get, Some}
use Rattle.std.specs.Option.{option_to_list}
use Rattle.std.proofs.lemmas.List.{append-nil}
use Rattle.ge_model_rows.specs.ClusterRows.{Cluster}
use Rattle.ge_model_rows.specs.EntryRows.{Entry}
use Rattle.ge_model_rows.specs.EventRows.{Event, Reply, Planned}
use Rattle.ge_model_core.specs.Trace.{answer_of, after_entries}
use Rattle.ge_model_program.specs.Traced.{Traced, onto, ends_at, traced, single}
use Rattle.ge_master.specs.declared.faults.Stop.{Stop}
use Rattle.ge_master.specs.declared.faults.Stop.TheVariants.{Dead}
use Rattle.ge_master.specs.Areas.{Areas}
use Rattle.ge_master.specs.Homes.{Parts}
use Rattle.ge_master.specs.Handling.{Handles, HandlesBatch, HandlesEvent, as_batch}

-- a call that answers is one of a master that lives
pub lives-at-ok : (gone : Bool) (replies : List Reply) (P : Type 0) → (gone ≡ true → ◌≡◌ {A = Result (List Reply) Stop} (Ok replies) (Err Dead) × P) → gone ≡ false
lives-at-ok false replies P h = refl
lives-at-ok true replies P h = absurd (never replies (h refl).0)
  where
    never : (replies : List Reply) → ◌≡◌ {A = Result (List Reply) Stop} (Ok replies) (Err Dead) → ⊥
    never replies e = cc

-- the only one of replies
pub only-reply : (replies : List Reply) (reply : Reply) → length replies ≡ 1 → slice_get replies 0 ≡ Some reply → replies ≡ reply ∷ []
only-reply [] reply one is = absurd (omega (arith, one))
only-reply (first ∷ []) reply one is = let e : first ≡ reply = cc in ap (λ r. r ∷ []) e
only-reply (first ∷ other ∷ replies) reply one is = absurd (omega (arith, one))

-- one mark for one event
one-mark : (marks : List Bool) → length marks ≡ 1 → (mark : Bool) × (marks ≡ mark ∷ [])
one-mark [] h = absurd (omega (arith, h))
one-mark (mark ∷ []) h = (mark, refl)
one-mark (mark ∷ other ∷ marks) h = absurd (omega (arith, h))

-- the trace of one event, whether it stops the master or not
ends-there : (stop : Bool) (replies : List Reply) (entries : List Entry) (d : Cluster)
    → onto replies entries (elim stop as (λ s. Traced) [ true ↦ ends_at true d | false ↦ ends_at false d ])
    ≡ record { replies = replies; entries = entries; cluster = d; stopped = stop }
ends-there true replies entries d =
    λ i. record { replies = append-nil replies i; entries = append-nil entries i; cluster = d; stopped = true }
ends-there false replies entries d =
    λ i. record { replies = append-nil replies i; entries = append-nil entries i; cluster = d; stopped = false }

module _ (plan : Cluster → Event → Planned) where
  traced-one : (c : Cluster) (e : Event) (mark : Bool) → traced plan c (e ∷ []) (mark ∷ []) ≡ single c (answer_of plan c e mark)
  traced-one c e mark =
      let p : Planned = answer_of plan c e mark in
      ends-there p.stop (p.reply ∷ []) (option_to_list p.entry) (after_entries c p.entry)

  -- what a batch of one comes to
  pub handled-one : (old new : Parts) (event : Event) (batch : Result (List Reply) Stop) (result : Result Reply Stop) (before after : Areas)
      → HandlesBatch plan old new (event ∷ []) batch before after → batch ≡ as_batch result → HandlesEvent plan old new event result before after
  handled-one old new event batch result before after h is =
      let one = one-mark h.marks h.counted in
      record {
        mark = one.0;
        handled = subst (λ r. Handles (single old.cluster (answer_of plan old.cluster event one.0)) old new r before after) is
            (subst (λ t. Handles t old new batch before after)
            (ap (traced plan old.cluster (event ∷ [])) one.1 ∙ traced-one old.cluster event one.0) h.handled);
      }

  -- and its replies are one
  pub one-reply : (old new : Parts) (event : Event) (replies : List Reply) (before after : Areas)
      → HandlesBatch plan old new (event ∷ []) (Ok replies) before after → length replies ≡ 1
  one-reply old new event replies before after h =
      let one = one-mark h.marks h.counted in
      ap length (h.handled.answer.0 ∙ ap (λ marks. (traced plan old.cluster (event ∷ []) marks).replies) one.1
      ∙ ap (λ (t : Traced). t.replies) (traced-one old.cluster event one.0))
