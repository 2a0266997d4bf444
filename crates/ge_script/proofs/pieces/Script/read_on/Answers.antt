-- What was read moves from the source to what is held.
use Rattle.std.proofs.Common.{◌≡◌, ◌+◌, length, vec_len, drop, ap, ◌∙◌, sym, subst, arith}
use Rattle.ge_script.specs.Pieces.{HasPassed, held, total_of}
use Rattle.ge_script.proofs.RequestEnds.{passed-kept}
use Rattle.ge_script.proofs.PieceByPiece.{total-moved, ended-by}
use Rattle.ge_script.proofs.pieces.Script.read_on.Goals as goal

pub returns-then-self-len-ge-SCRIPT_BYTES-clause-long_total :
    goal.returns-then-self-len-ge-SCRIPT_BYTES-clause-long_total
returns-then-self-len-ge-SCRIPT_BYTES-clause-long_total g c _ =
    let given = c.skip_excess.new.self.given in
    let old = g.S.Source.rest c.args.s.now in
    ap (λ n. total_of (given + length (drop n c.read_more.new.bytes.items)) (g.S.Source.rest c.read_more.new.input)) c.drop_given.ensures.start
    ∙ total-moved given c.drop_given.new.bytes.items c.read_more.new.bytes.items old (g.S.Source.rest c.read_more.new.input) c.in_ok-some.ensures.moved
    ∙ ap (λ bs. total_of (given + length bs) old) c.drop_given.ensures.left
    ∙ ap (λ n. total_of n old) c.skip_excess.ensures.count

pub returns-clause-over : goal.returns-clause-over
returns-clause-over g c =
    let before = c.drop_given.new.bytes.items in
    let after = c.read_more.new.bytes.items in
    let here : drop c.drop_given.new.start after ≡ after = ap (λ n. drop n after) c.drop_given.ensures.start in
    let size : length before ≡ length (held c.skip_excess.new.self) = ap length c.drop_given.ensures.left in
    record {
      room = omega (arith, ap vec_len c.skip_excess.ensures.chunk, c.requires.over.room);
      narrow = omega (arith, ap vec_len c.skip_excess.ensures.chunk, c.requires.over.narrow);
      few = omega (arith, size, c.in_ok-some.ensures.few, c.skip_excess.ensures.looked c.requires.looked, c.skip_excess.ensures.short, ap vec_len c.skip_excess.ensures.chunk, c.as_mut_slice.ensures.len, c.requires.over.narrow);
      within = omega (arith, c.drop_given.ensures.start);
      passed = subst (λ bs. HasPassed c.skip_excess.new.self.passed bs) (sym here)
          (passed-kept c.skip_excess.new.self.passed before after c.in_ok-some.ensures.kept (subst (λ bs. HasPassed c.skip_excess.new.self.passed bs) (sym c.drop_given.ensures.left) c.skip_excess.ensures.passed));
      below = omega (arith, ap length here, c.if-self-len-ge-SCRIPT_BYTES.false, c.len.ensures);
      ended = ended-by c.in_ok-some.some c.in_ok-some.ensures.ended;
    }

pub returns-clause-total : goal.returns-clause-total
returns-clause-total g c =
    let given = c.skip_excess.new.self.given in
    let old = g.S.Source.rest c.args.s.now in
    ap (λ n. total_of (given + length (drop n c.read_more.new.bytes.items)) (g.S.Source.rest c.read_more.new.input)) c.drop_given.ensures.start
    ∙ total-moved given c.drop_given.new.bytes.items c.read_more.new.bytes.items old (g.S.Source.rest c.read_more.new.input) c.in_ok-some.ensures.moved
    ∙ ap (λ bs. total_of (given + length bs) old) c.drop_given.ensures.left
    ∙ ap (λ n. total_of n old) c.skip_excess.ensures.count
