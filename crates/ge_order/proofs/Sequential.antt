-- What the request of a sequential job adds, told by its short row.
use Rattle.std.proofs.Common.{◌≡◌, ℕ, Bool, false, List, Option, Some, None, refl, sym, ap, ◌∙◌, true≢false}
use Rattle.std.specs.Prelude.{IfSome, is_some, refl as same}
use Rattle.std.specs.List.Sorted.{IsStrictlySortedBy}
use Rattle.std.specs.Map.{keys_of}
use Rattle.std.specs.Option.{option_map, option_copied}
use Rattle.ge_base.specs.Fixed.{cut_sum}
use Rattle.ge_collections.specs.Keyed.{at_number, text_cmp}
use Rattle.ge_job_index.specs.declared.short_row.ShortRow.{ShortRow}
use Rattle.ge_model_rows.specs.ClusterRows.{Cluster}
use Rattle.ge_model_rows.specs.JobRows.{Job, PeRequest}
use Rattle.ge_model_order.specs.Amounts.{cut_total}
use Rattle.ge_model_order.specs.Urgency.{resources_urgency, resource_urgency, slots_assumed, with_slots}
use Rattle.ge_rows.specs.JobShort.{job_facts}
use Rattle.ge_rows.specs.declared.labels.JobFacts.{JobFacts}
use Rattle.ge_order.specs.Kinds.{asked_of, TellJobs}
use Rattle.ge_order.specs.Standings.{AreUnits, slot_urgency, sequential_urgency}
use Rattle.ge_order.specs.declared.asked.Units.{Units}
use Rattle.ge_order.proofs.Beside.{nothing_beside}
use Rattle.ge_order.proofs.Slots.{slots_apart}

no_pe : (pe : Option PeRequest) → is_some pe ≡ false → pe ≡ None
no_pe None alone = refl
no_pe (Some pe) alone = absurd (true≢false alone)

module _ (c : Cluster) (units : Units) (are : AreUnits c units) (none : units.others ≡ false) where
  -- of a job without a parallel environment
  of_job : (job : Job) → is_some job.request.pe ≡ false → IsStrictlySortedBy text_cmp (keys_of job.request.asked)
      → sequential_urgency (option_copied units.slots) ≡ resources_urgency c job.request
  of_job job alone sorted =
      ap (λ others. cut_sum others (slot_urgency 1 (option_copied units.slots))) (nothing_beside c units 1 job.request.asked none are)
      ∙ slots_apart c 1 job.request.asked units sorted are
      ∙ ap (λ pe. cut_total (resource_urgency c (slots_assumed c pe)) (with_slots job.request.asked)) (sym (no_pe job.request.pe alone))

  pub sequential_asked : (rows : List (ℕ × ShortRow JobFacts)) (number : ℕ) (row : ShortRow JobFacts) → at_number rows number ≡ Some row → TellJobs c rows
      → row.facts.parallel ≡ false → sequential_urgency (option_copied units.slots) ≡ asked_of c number
  sequential_asked rows number row there tell alone =
      by (at_number c.jobs number) same (ap (λ found. option_map (λ r. r.facts) found) (sym there) ∙ tell.facts number) (tell.named number)
    where
      by : (found : Option Job) → at_number c.jobs number ≡ found → ◌≡◌ {A = Option JobFacts} (Some row.facts) (option_map job_facts found)
          → IfSome found (λ job. IsStrictlySortedBy text_cmp (keys_of job.request.asked))
          → sequential_urgency (option_copied units.slots) ≡ asked_of c number
      by None is facts sorted = absurd (let never : ◌≡◌ {A = Option JobFacts} (Some row.facts) None = facts in cc)
      by (Some job) is facts sorted =
          of_job job (ap (λ o. elim o as (λ (o : Option JobFacts). Bool) [ None ↦ false | Some f ↦ f.parallel ]) (sym facts) ∙ alone) sorted
          ∙ ap (λ o. elim o as (λ (o : Option Job). ℕ) [ None ↦ 0 | Some found ↦ resources_urgency c found.request ]) (sym is)
