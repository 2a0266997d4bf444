use Rattle.std.proofs.Common.{◌≡◌, ℕ, ◌++◌, [], ◌∙◌, sym, subst, ap, map, fold, max, List, None, unwrap_or}
use Rattle.ge_collections.specs.Met.{AreFound}
use Rattle.ge_collections.proofs.Walked.{all_found}
use Rattle.ge_model_order.specs.Amounts.{greatest}
use Rattle.ge_tickets.specs.Own.{told_tickets}
use Rattle.ge_order.specs.Alike.{gathered_in}
use Rattle.ge_order.specs.Kinds.{told_standing}
use Rattle.ge_order.specs.Repeated.{standing, candidate_of, IsScale}
use Rattle.ge_order.specs.Standings.{with_lesser, with_greater}
use Rattle.ge_order.specs.Told.{chosen}
use Rattle.ge_order.proofs.InOneWalk.{chosen_more, ticket_of_row}
use Rattle.ge_order.proofs.Repeated.{none_urged, none_within, bound_more, map_more, standing_of_row}
use Rattle.ge_order.proofs.Scaled.{lowest_is, highest_is}
use Rattle.ge_order.specs.declared.gathering.Candidate.{Candidate}
use Rattle.ge_order.specs.declared.repeating.Bounds.{Bounds}
use Rattle.ge_order.proofs.gathering.gather.Goals as goal

pub loop-number-init : goal.loop-number-init
loop-number-init c =
    let rows = c.args.rows.now.entries in
    let start : c.into_iter-number-iterator.result ≡ rows = search in
    let bounds = c.no_bounds.ensures in
    let none : gathered_in c.new.result.items None ≡ [] = ap (λ lots. gathered_in lots None) c.new.ensures.items in (
      (λ tell. (
        (λ i. map standing (none i) ++ map (told_standing c.args.c.now rows c.args.now) (chosen c.args.c.now c.args.now (start i))),
        record { all = c.no_kinds.ensures c.args.c.now rows; alike = none_urged c.args.c.now rows c.args.now },
      )),
      (λ i. map (λ x. x.tickets) (none i) ++ map (told_tickets rows) (chosen c.args.c.now c.args.now (start i))),
      all_found rows _ start c.iter-number-items.ensures.found,
      none_within _,
      ap (λ (b : Bounds). b.low) bounds ∙ ap (λ xs. fold with_lesser None (map standing xs)) (sym none),
      ap (λ (b : Bounds). b.high) bounds ∙ ap (λ xs. fold with_greater 0 (map standing xs)) (sym none),
      ap (λ (b : Bounds). b.most) bounds ∙ ap (λ xs. greatest (map (λ x. x.tickets) xs)) (sym none),
    )

abbrev tickets : Candidate → ℕ
tickets candidate = candidate.tickets

pub loop-number-preserved-then-branch : goal.loop-number-preserved-then-branch
loop-number-preserved-then-branch c =
    let C = c.args.c.now in
    let now = c.args.now in
    let rows = c.args.rows.now.entries in
    let number = c.in-Some.number.now in
    let row = c.in-Some.row.now in
    let before = c.loop-number.invariant in
    let found = subst (λ entries. AreFound rows entries) c.in-Some.ensures.steps before.2 in
    let is = sym c.in_ok-has_task.ensures ∙ c.if-branch.true in
    let urgency = c.in_ok-_urgency._urgency in
    let one = candidate_of number row urgency in
    let done = gathered_in c.loop-number.gathering.lots.items c.loop-number.gathering.last in
    let more = gathered_in c.take.new.gathering.lots.items c.take.new.gathering.last in
    let taken = c.in_ok-_urgency.ensures.taken in
    let reached = taken.bounds before.3 in (
      (λ tell.
          let so_far = before.0 tell in
          let told = c.in_ok-_urgency.ensures.told rows c.units_of-units.ensures found.0 tell so_far.1 in (
            chosen_more (told_standing C rows now) C now (map standing done) (map standing more) _ (standing one) _ _ number row c.in-Some.ensures.steps is so_far.0
                (standing_of_row C rows now number row urgency found.0 told.0) (map_more standing done more one taken.list),
            told.1,
          )),
      chosen_more (told_tickets rows) C now (map tickets done) (map tickets more) _ one.tickets _ _ number row c.in-Some.ensures.steps is before.1
          (ticket_of_row rows number row found.0) (map_more tickets done more one taken.list),
      found.1,
      taken.within before.3,
      bound_more with_lesser standing None _ _ done more one before.4 (ap (λ (b : Bounds). b.low) reached) taken.list,
      bound_more with_greater standing 0 _ _ done more one before.5 (ap (λ (b : Bounds). b.high) reached) taken.list,
      bound_more (λ most n. max most n) tickets 0 _ _ done more one before.6 (ap (λ (b : Bounds). b.most) reached) taken.list,
    )

pub returns-clause-scale : goal.returns-clause-scale
returns-clause-scale c =
    let found = c.loop-number.invariant in
    let known = map standing (gathered_in c.loop-number.gathering.lots.items c.loop-number.gathering.last) in
    subst (λ (xs : List Candidate). IsScale (record { low = c.unwrap_or.result; high = c.loop-number.gathering.bounds.high; most = c.loop-number.gathering.bounds.most }) (map standing xs) (map tickets xs)) (sym c.in_ok-close.ensures)
    (record { low = c.unwrap_or.ensures ∙ ap (λ low. unwrap_or low 0) found.4 ∙ lowest_is known; high = found.5 ∙ highest_is known; most = found.6 })
