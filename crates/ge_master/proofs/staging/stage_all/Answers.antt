use Rattle.std.proofs.Common.{◌≡◌, ◌<◌, ◌+◌, ◌∷◌, ◌∙◌, [], ℕ, List, drop, length, get_or, sym, subst, add-one, drop-cons}
use Rattle.std.proofs.Math.ListN.{drop_of_length-le}
use Rattle.ge_model_rows.specs.EventRows.{Event}
use Rattle.ge_model_core.specs.Plan.{plan_of}
use Rattle.ge_master.proofs.Staged.{HasStaged, HasStaged-none, HasStaged-more, HasStaged-all, HasStaged-stopped}
use Rattle.ge_master.proofs.staging.stage_all.Goals as goal

-- an item and those behind it
at_item : (xs : List Event) (i : ℕ) (x : Event) → i < length xs → x ≡ get_or xs i x → drop i xs ≡ x ∷ drop (i + 1) xs
at_item xs i x inside is = drop-cons xs i x inside ∙ (λ k. sym is k ∷ drop (sym (add-one i) k) xs)

pub loop-event-init : goal.loop-event-init
loop-event-init c = rw (c.new-replies.ensures, c.new-body.ensures) (HasStaged-none plan_of c.args.cluster.now c.args.events.now)

pub returns-then-branch : goal.returns-then-branch
returns-then-branch c =
    let xs = c.args.events.now in
    let here = at_item xs c.loop-event.event-index c.event-item.result c.loop-event-test.true c.event-item.is in
    HasStaged-stopped plan_of c.args.cluster.now xs c.loop-event.cluster c.stage.new.cluster c.event-item.result (drop (c.loop-event.event-index + 1) xs) c.loop-event.replies c.stage.new.replies
    c.loop-event.body c.stage.new.body c.in_ok-stage.field-0 (subst (λ rest. HasStaged plan_of c.args.cluster.now xs c.loop-event.cluster rest c.loop-event.replies c.loop-event.body) here c.loop-event.invariant)
    c.in_ok-stage.ensures c.if-branch.true

pub loop-event-preserved : goal.loop-event-preserved
loop-event-preserved c =
    let xs = c.args.events.now in
    let here = at_item xs c.loop-event.event-index c.event-item.result c.loop-event-test.true c.event-item.is in
    HasStaged-more plan_of c.args.cluster.now xs c.loop-event.cluster c.stage.new.cluster c.event-item.result (drop (c.loop-event.event-index + 1) xs) c.loop-event.replies c.stage.new.replies
    c.loop-event.body c.stage.new.body c.in_ok-stage.field-0 (subst (λ rest. HasStaged plan_of c.args.cluster.now xs c.loop-event.cluster rest c.loop-event.replies c.loop-event.body) here c.loop-event.invariant)
    c.in_ok-stage.ensures c.if-branch.false

pub returns : goal.returns
returns c =
    let xs = c.args.events.now in
    let none : drop c.loop-event.event-index xs ≡ [] = drop_of_length-le xs c.loop-event-test.false in
    HasStaged-all plan_of c.args.cluster.now xs c.loop-event.cluster c.loop-event.replies c.loop-event.body
    (subst (λ rest. HasStaged plan_of c.args.cluster.now xs c.loop-event.cluster rest c.loop-event.replies c.loop-event.body) none c.loop-event.invariant)
