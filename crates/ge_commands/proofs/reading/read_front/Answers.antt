use Rattle.std.proofs.Common.{List, ℕ, length, min, map, ◌≡◌, ◌∙◌, ap, sym, arith}
use Rattle.ge_commands.specs.Shown.{shape_shown, given_shown, known_in, all_shown}
use Rattle.ge_commands.proofs.Passed.{one_turn}
use Rattle.ge_commands.proofs.reading.read_front.Goals as goal

pub loop-at-preserved : goal.loop-at-preserved
loop-at-preserved c = record {
  rest = one_turn (known_in c.args.taker (map shape_shown c.args.table.now)) (all_shown c.loop-at.given.items) _ c.args.words.now c.split_at.result.1.now c.loop-at.at c.min.result _
      c.in-Ok.option.word.now (given_shown c.in-Ok.option).1 _ c.loop-at-test.true (sym c.is_option.ensures ∙ c.if-is_option.true) c.split_at.ensures.back
      c.in-Ok.ensures.words c.in-Ok.ensures.name c.in_ok-push.ensures
      (c.min.ensures ∙ ap (λ n. min n (length c.split_at.result.1.now)) c.count.ensures) c.loop-at.invariant.rest;
  within = omega (arith, c.min.ensures, c.split_at.ensures.back_len, c.loop-at-test.true);
}
