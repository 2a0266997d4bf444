-- The trace of a batch, and what follows it.
use Rattle.std.proofs.Common.{◌≡◌, Bool, true, false, List, [], ◌∷◌, ◌++◌, length, refl, ap, ◌∙◌, arith}
use Rattle.std.specs.Option.{option_to_list}
use Rattle.ge_model_rows.specs.ClusterRows.{Cluster}
use Rattle.ge_model_rows.specs.EntryRows.{Entry}
use Rattle.ge_model_rows.specs.EventRows.{Event, Reply, Planned}
use Rattle.ge_model_core.specs.Trace.{answer_of, after_entries}
use Rattle.ge_model_program.specs.Traced.{Traced, onto, ends_at, traced}
use Rattle.ge_serve.proofs.Staged.{onto-onto}

-- what follows an event that doesn't stop the master
then-batch : (stop : Bool) (rs : List Reply) (es : List Entry) (d : Cluster) (part whole : Traced) (rest : Cluster → Traced)
    → (elim stop as (λ s. Traced) [ true ↦ ends_at true d | false ↦ part ]).stopped ≡ false → (part.stopped ≡ false → whole ≡ onto part.replies part.entries (rest part.cluster))
    → onto rs es (elim stop as (λ s. Traced) [ true ↦ ends_at true d | false ↦ whole ])
    ≡ onto (rs ++ (elim stop as (λ s. Traced) [ true ↦ ends_at true d | false ↦ part ]).replies) (es ++ (elim stop as (λ s. Traced) [ true ↦ ends_at true d | false ↦ part ]).entries)
    (rest (elim stop as (λ s. Traced) [ true ↦ ends_at true d | false ↦ part ]).cluster)
then-batch true rs es d part whole rest going goes_on = cc
then-batch false rs es d part whole rest going goes_on = ap (onto rs es) (goes_on going) ∙ onto-onto rs part.replies es part.entries (rest part.cluster)

module _ (plan : Cluster → Event → Planned) where
  -- a batch that doesn't stop the master, and what follows it
  pub traced-batch : (c : Cluster) (batch rest : List Event) (ms more : List Bool) → length ms ≡ length batch → (traced plan c batch ms).stopped ≡ false
      → traced plan c (batch ++ rest) (ms ++ more) ≡ onto (traced plan c batch ms).replies (traced plan c batch ms).entries (traced plan (traced plan c batch ms).cluster rest more)
  traced-batch c [] rest [] more counted going = refl
  traced-batch c [] rest (m ∷ ms) more counted going = absurd (omega (arith, counted))
  traced-batch c (e ∷ batch) rest [] more counted going = absurd (omega (arith, counted))
  traced-batch c (e ∷ batch) rest (m ∷ ms) more counted going =
      let p : Planned = answer_of plan c e m in
      let d : Cluster = after_entries c p.entry in
      then-batch p.stop (p.reply ∷ []) (option_to_list p.entry) d (traced plan d batch ms) (traced plan d (batch ++ rest) (ms ++ more)) (λ x. traced plan x rest more) going
      (λ goes. traced-batch d batch rest ms more (omega (arith, counted)) goes)

  -- with the marks of a batch alone nothing follows it
  pub traced-alone : (c : Cluster) (batch rest : List Event) (ms : List Bool) → length ms ≡ length batch → traced plan c (batch ++ rest) ms ≡ traced plan c batch ms
  traced-alone c [] [] [] counted = refl
  traced-alone c [] (e ∷ rest) [] counted = refl
  traced-alone c [] rest (m ∷ ms) counted = absurd (omega (arith, counted))
  traced-alone c (e ∷ batch) rest [] counted = absurd (omega (arith, counted))
  traced-alone c (e ∷ batch) rest (m ∷ ms) counted =
      let p : Planned = answer_of plan c e m in
      let d : Cluster = after_entries c p.entry in
      ap (λ (t : Traced). onto (p.reply ∷ []) (option_to_list p.entry) (elim p.stop as (λ s. Traced) [ true ↦ ends_at true d | false ↦ t ]))
      (traced-alone d batch rest ms (omega (arith, counted)))
