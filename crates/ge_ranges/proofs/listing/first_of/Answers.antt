use Rattle.std.proofs.Common.{◌-◌, List, take, ap, ◌∙◌, arith}
use Rattle.ge_model_rows.specs.TaskRows.{TaskSpan}
use Rattle.ge_model_rows.specs.Sets.{numbers_of}
use Rattle.ge_ranges.specs.Forming.{have_seconds}
use Rattle.ge_ranges.proofs.Seconds.{form_seconds, second_there}
use Rattle.ge_ranges.proofs.Listed.{more_taken, no_room}
use Rattle.ge_ranges.proofs.listing.first_of.Goals as goal

pub returns-then-room-eq0 : goal.returns-then-room-eq0
returns-then-room-eq0 c =
    no_room c.spans-span-items.result.now c.loop-span.span-index c.args.most c.loop-span.numbers
    (let e = c.len.ensures in let r = c.saturating_sub-room.ensures in let z = c.if-room-eq0.true in omega (arith, e, r, z)) c.loop-span.invariant
    ∙ ap (λ (s : List TaskSpan). take c.args.most (numbers_of s)) c.spans-span-items.ensures.spans

pub push_span-requires : goal.push_span-requires
push_span-requires c =
    second_there c.spans-span-items.result.now c.loop-span.span-index _ c.loop-span-test.true
    (ap (λ (s : List TaskSpan). have_seconds s) c.spans-span-items.ensures.spans ∙ form_seconds c.args.s.now c.spans-span-items.ensures.form)

pub loop-span-preserved : goal.loop-span-preserved
loop-span-preserved c =
    more_taken c.spans-span-items.result.now c.loop-span.span-index c.args.most c.saturating_sub-room.result _ c.loop-span.numbers c.push_span.new.numbers
    c.loop-span-test.true (c.saturating_sub-room.ensures ∙ ap (λ n. c.args.most - n) c.len.ensures) c.loop-span.invariant c.in_ok-push_span.ensures
