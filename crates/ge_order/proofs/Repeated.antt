-- What was seen of one candidate serves the next.
use Rattle.std.proofs.Common.{◌≡◌, ℕ, min, max, List, [], ◌∷◌, ◌++◌, Option, Some, None, refl, sym, ap, subst, ◌∙◌, arith, map, fold}
use Rattle.std.specs.Prelude.{zip}
use Rattle.std.proofs.lemmas.List.{map-append}
use Rattle.std.proofs.lemmas.List.Sums.{fold_push}
use Rattle.ge_collections.specs.Keyed.{at_number}
use Rattle.ge_job_index.specs.declared.short_row.ShortRow.{ShortRow}
use Rattle.ge_model_order.specs.Amounts.{cut_at_64}
use Rattle.ge_model_rows.specs.ClusterRows.{Cluster}
use Rattle.ge_model_rows.specs.SettingRows.{Sched}
use Rattle.ge_rows.specs.declared.labels.JobFacts.{JobFacts}
use Rattle.ge_order.specs.Kinds.{kind_in, asked_of, SameAsked, urgency_by, told_standing}
use Rattle.ge_order.specs.Repeated.{urged_by, bounds_with, IsUrged, IsWithin, candidate_of, standing, prio_of_candidate}
use Rattle.ge_order.specs.Standings.{lesser, prio_of}
use Rattle.ge_order.proofs.OneKind.{told_some}
use Rattle.ge_order.specs.declared.gathering.Candidate.{Candidate}
use Rattle.ge_order.specs.declared.priority.Scale.{Scale}
use Rattle.ge_order.specs.declared.repeating.Bounds.{Bounds}
use Rattle.ge_order.specs.declared.repeating.Urged.{Urged}

-- what is in an option that has something
in_some : {X : Type 0} (one other : X) → Some one ≡ Some other → one ≡ other
in_some {X} one other e = ap (λ (o : Option X). elim o as (λ (o : Option X). X) [ None ↦ one | Some x ↦ x ]) e

module _ (c : Cluster) (rows : List (ℕ × ShortRow JobFacts)) (now : ℕ) where
  -- the urgency that was worked out for a job is that of all which are like it
  pub urged_more : (row : ShortRow JobFacts) (urgency number : ℕ) → SameAsked c rows → kind_in rows number ≡ Some row.third
      → urgency ≡ urgency_by c (asked_of c number) row.facts.submitted row.facts.deadline now → IsUrged c rows now (Some (urged_by row urgency))
  urged_more row urgency number alike here is urged told =
      subst (λ (u : Urged). (q : ℕ) → kind_in rows q ≡ Some u.kind → u.urgency ≡ urgency_by c (asked_of c q) u.submitted u.deadline now) (in_some (urged_by row urgency) urged told)
      (λ q of_kind. is ∙ ap (λ asked. urgency_by c asked row.facts.submitted row.facts.deadline now) (alike number q row.third here of_kind))

  pub none_urged : IsUrged c rows now None
  none_urged urged told = absurd cc

-- what is known of a candidate is what its short row tells
pub standing_of_row : (c : Cluster) (rows : List (ℕ × ShortRow JobFacts)) (now number : ℕ) (row : ShortRow JobFacts) (urgency : ℕ) → at_number rows number ≡ Some row
    → urgency ≡ urgency_by c (asked_of c number) row.facts.submitted row.facts.deadline now
    → standing (candidate_of number row urgency) ≡ told_standing c rows now number
standing_of_row c rows now number row urgency there is =
    told_some c rows now number row (asked_of c number) (record { priority = row.facts.priority; urgency = urgency }) there refl (λ i. record { priority = row.facts.priority; urgency = is i })

lesser_twice : (low : Option ℕ) (urgency : ℕ) → lesser low urgency ≡ min (lesser low urgency) urgency
lesser_twice None urgency = omega arith
lesser_twice (Some low) urgency = omega arith

greater_twice : (high urgency : ℕ) → max high urgency ≡ max (max high urgency) urgency
greater_twice high urgency = omega arith

-- a candidate that was taken changes no bound
pub within_more : (bounds : Bounds) (row : ShortRow JobFacts) (urgency : ℕ) → IsWithin (bounds_with bounds urgency (cut_at_64 row.facts.oticket)) (Some (urged_by row urgency))
within_more bounds row urgency urged told =
    subst (λ (u : Urged). bounds_with bounds urgency (cut_at_64 row.facts.oticket) ≡ bounds_with (bounds_with bounds urgency (cut_at_64 row.facts.oticket)) u.urgency (cut_at_64 u.oticket))
    (in_some (urged_by row urgency) urged told)
    (λ i. record {
      low = Some (lesser_twice bounds.low urgency i);
      high = greater_twice bounds.high urgency i;
      most = greater_twice bounds.most (cut_at_64 row.facts.oticket) i;
    })

pub none_within : (bounds : Bounds) → IsWithin bounds None
none_within bounds urged told = absurd cc

-- a bound over what was put in, with one more
pub bound_more : {X S B : Type 0} (f : B → S → B) (g : X → S) (first before after : B) (done more : List X) (one : X) → before ≡ fold f first (map g done) → after ≡ f before (g one) → more ≡ done ++ one ∷ []
    → after ≡ fold f first (map g more)
bound_more {X} {S} {B} f g first before after done more one so_far is pushed =
    is ∙ ap (λ (b : B). f b (g one)) so_far ∙ sym (fold_push f first (map g done) (g one))
    ∙ ap (λ (xs : List S). fold f first xs) (sym (map-append g done (one ∷ []))) ∙ ap (λ (xs : List X). fold f first (map g xs)) (sym pushed)

pub map_more : {X S : Type 0} (g : X → S) (done more : List X) (one : X) → more ≡ done ++ one ∷ [] → map g more ≡ map g done ++ g one ∷ []
map_more g done more one pushed = ap (map g) pushed ∙ map-append g done (one ∷ [])

-- priorities of candidates are those by what is known of them and their tickets
pub prios_apart : (sched : Sched) (scale : Scale) (candidates : List Candidate)
    → map (prio_of_candidate sched scale) candidates ≡ map (prio_of sched scale) (zip (map standing candidates) (map (λ x. x.tickets) candidates))
prios_apart sched scale [] = refl
prios_apart sched scale (one ∷ candidates) = λ i. prio_of_candidate sched scale one ∷ prios_apart sched scale candidates i
