-- What is made of candidates that are alike is alike.
use Rattle.std.proofs.Common.{◌≡◌, ℕ, List, [], ◌∷◌, ◌++◌, map, refl, sym, ap, ◌∙◌}
use Rattle.std.proofs.lemmas.Grind.{flat_map-append}
use Rattle.std.proofs.lemmas.List.{map-append, append-nil}
use Rattle.ge_model_rows.specs.ScheduleRows.{Prio}
use Rattle.ge_model_rows.specs.SettingRows.{Sched}
use Rattle.ge_order.specs.Alike.{candidate_at, candidates_of, candidates_in, prio_at, prios_of_lot, prios_in}
use Rattle.ge_order.specs.Repeated.{prio_of_candidate}
use Rattle.ge_order.specs.declared.alike.Alike.{Alike}
use Rattle.ge_order.specs.declared.gathering.Candidate.{Candidate}
use Rattle.ge_order.specs.declared.lots.Lot.{Lot}
use Rattle.ge_order.specs.declared.priority.Scale.{Scale}

module _ (sched : Sched) (scale : Scale) where
  each : (first : Candidate) (numbers : List ℕ) → map (prio_at (prio_of_candidate sched scale first)) numbers ≡ map (prio_of_candidate sched scale) (map (candidate_at first) numbers)
  each first [] = refl
  each first (number ∷ numbers) = λ i. prio_of_candidate sched scale (candidate_at first number) ∷ each first numbers i

  pub lot_prios : (first : Candidate) (numbers : List ℕ) (one : Prio) → one ≡ prio_of_candidate sched scale first
      → (one ∷ map (prio_at one) numbers) ≡ map (prio_of_candidate sched scale) (first ∷ map (candidate_at first) numbers)
  lot_prios first numbers one is = ap (λ (p : Prio). p ∷ map (prio_at p) numbers) is ∙ ap (λ (ps : List Prio). prio_of_candidate sched scale first ∷ ps) (each first numbers)

  pub lots_more : (lots more : List Lot) (done next : List Alike) (lot : Lot) (alike : Alike) → prios_in lots ≡ map (prio_of_candidate sched scale) (candidates_in done)
      → prios_of_lot lot ≡ map (prio_of_candidate sched scale) (candidates_of alike) → more ≡ lots ++ lot ∷ [] → next ≡ done ++ alike ∷ []
      → prios_in more ≡ map (prio_of_candidate sched scale) (candidates_in next)
  lots_more lots more done next lot alike so_far is pushed stepped =
      ap prios_in pushed ∙ flat_map-append prios_of_lot lots (lot ∷ [])
      ∙ (λ i. so_far i ++ append-nil (prios_of_lot lot) i)
      ∙ ap (λ (ps : List Prio). map (prio_of_candidate sched scale) (candidates_in done) ++ ps) is
      ∙ sym (map-append (prio_of_candidate sched scale) (candidates_in done) (candidates_of alike))
      ∙ ap (map (prio_of_candidate sched scale)) (ap (λ (cs : List Candidate). candidates_in done ++ cs) (sym (append-nil (candidates_of alike))) ∙ sym (flat_map-append candidates_of done (alike ∷ [])) ∙ ap candidates_in (sym stepped))
