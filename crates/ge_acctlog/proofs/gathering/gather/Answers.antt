use Rattle.std.specs.Int.{bytes_high_first}
use Rattle.std.proofs.Common.{◌≡◌, ◌∙◌, ◌+◌, ◌<◌, ◌≤◌, suc, [], ◌∷◌, ◌++◌, length, refl, sym, ap, inl, inr, ⊎_elim, arith, rules}
use Rattle.std.proofs.lemmas.Bool.{false≢true}
use Rattle.std.proofs.lemmas.List.{length-drop}
use Rattle.ge_acctlog.proofs.Finding.{above-zero}
use Rattle.ge_acctlog.proofs.Gathered.{gathering_none, gathering_more, gathered_full, gathered_done, gathered_room, gathered_long, gathered_wrote, gathered_few}
use Rattle.ge_acctlog.proofs.gathering.gather.Goals as goal

pub records-init : goal.records-init
records-init c = record { so_far = (0, gathering_none c.args.each c.args.end c.args.lines.now c.new-records.result.items c.requires.each (search rules)) }

pub records-preserved : goal.records-preserved
records-preserved c =
    let so_far = c.records.invariant.so_far in
    record {
      so_far = (
        suc so_far.0,
        gathering_more c.args.each c.args.end so_far.0 c.args.lines.now c.records.rest.now c.first_of.result.0.now c.first_of.result.1.now c.records.records.items _ c.in_ok-body.body
            so_far.1 (c.goes_on.ensures.on c.records-test.true) c.first_of.ensures.first c.first_of.ensures.others c.in_ok-body.ensures.fits c.in_ok-body.ensures.body
            (omega (arith, c.end_with-behind.ensures, ap length c.bytes-text.ensures)) (c.in_ok-put_record.ensures ∙ ap (λ xs. c.records.records.items ++ 1 ∷ [] ++ bytes_high_first 4 (length xs) ++ xs) c.bytes-text.ensures),
      );
    }

pub records-smaller : goal.records-smaller
records-smaller c =
    omega (arith, c.goes_on.ensures.on c.records-test.true, ap length c.first_of.ensures.others, length-drop c.args.each c.records.rest.now, c.requires.each)

pub returns-then-is_full-clause-stops : goal.returns-then-is_full-clause-stops
returns-then-is_full-clause-stops c =
    let so_far = c.records.invariant.so_far in
    let full = c.is_full.ensures.0 c.if-is_full.true in
    let bytes = c.records.records.items in
    let body = c.in_ok-body.body in
    let place = gathered_full c.args.each c.args.end so_far.0 c.args.lines.now c.records.rest.now c.first_of.result.0.now bytes body (c.args.end + 6 + length bytes + length body)
    so_far.1 full.1 c.first_of.ensures.first c.in_ok-body.ensures.body refl in
    (omega (arith, full.0, place, c.end_with-behind.ensures, ap length c.bytes-text.ensures), omega (arith, place, c.end_with-behind.ensures, ap length c.bytes-text.ensures))

pub returns-then-behind-gt-AREA_BYTES : goal.returns-then-behind-gt-AREA_BYTES
returns-then-behind-gt-AREA_BYTES c =
    let so_far = c.records.invariant.so_far in
    let some : 0 < length c.records.records.items = above-zero (length c.records.records.items)
    (λ none. false≢true (sym c.if-is_full.false ∙ c.is_full.ensures.1 (c.if-behind-gt-AREA_BYTES.true, none))) in
    let done = gathered_done c.args.each c.args.end so_far.0 c.args.lines.now c.records.rest.now c.records.records.items _ so_far.1 (inl some) (omega arith) in
    record {
      gathered = done;
      room = gathered_room c.args.each c.args.end _ c.args.lines.now c.records.records.items done;
      long = gathered_long c.args.each c.args.end _ c.args.lines.now c.records.records.items done;
      wrote = gathered_wrote c.args.each c.args.end _ c.args.lines.now c.records.records.items done c.requires.each c.requires.some;
      few = gathered_few c.args.each c.args.end _ c.args.lines.now c.records.records.items done;
      stops = tt;
    }

pub returns : goal.returns
returns c =
    let so_far = c.records.invariant.so_far in
    let some = ⊎_elim (λ none. inr (omega (arith, none, c.requires.some))) (λ h. inl h) (c.goes_on.ensures.off c.records-test.false) in
    let done = gathered_done c.args.each c.args.end so_far.0 c.args.lines.now c.records.rest.now c.records.records.items _ so_far.1 some (omega arith) in
    record {
      gathered = done;
      room = gathered_room c.args.each c.args.end _ c.args.lines.now c.records.records.items done;
      long = gathered_long c.args.each c.args.end _ c.args.lines.now c.records.records.items done;
      wrote = gathered_wrote c.args.each c.args.end _ c.args.lines.now c.records.records.items done c.requires.each c.requires.some;
      few = gathered_few c.args.each c.args.end _ c.args.lines.now c.records.records.items done;
      stops = tt;
    }
