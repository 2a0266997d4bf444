use Rattle.std.proofs.Common.{◌<◌, ◌-◌, length, refl, sym, ◌∙◌, arith}
use Rattle.std.proofs.lemmas.Option.{slice_get_read}
use Rattle.ge_timeline.proofs.Chained.{among_passed}
use Rattle.ge_timeline.proofs.index.number_along.Goals as goal

pub loop-place-preserved : goal.loop-place-preserved
loop-place-preserved c =
    let es = c.args.entries.now in
    let place = c.loop-place.place in
    let e = c.index-entries-place.result in
    let kept = c.loop-place.invariant in
    let some : 0 < c.loop-place.place = omega arith in
    let inside : c.loop-place.place - 1 < length c.args.entries.now = omega arith in
    let at = slice_get_read es (length es) (place - 1) e refl inside c.index-entries-place.is in
    let lead = c.requires.older (place - 1) e at in
    let bucket = kept.own e at some in
    let passed = among_passed es place e c.args.limit.now some at (sym c.is_same_limit.ensures ∙ c.if-is_same_limit.false) in
    record {
      within = omega (arith, lead.within, kept.within);
      own = λ entry is more. lead.own entry is more ∙ bucket;
      same = lead.same c.args.limit.now (sym bucket) ∙ passed ∙ kept.same;
    }
