use Rattle.std.proofs.Common.{ap}
use Rattle.ge_commands.proofs.EightWords.{copied_words}
use Rattle.ge_commands.proofs.complexes.read_words.Goals as goal

pub returns : goal.returns
returns c =
    let front = c.in_ok-name.ensures in
    let back = c.in_ok-requestable.ensures in
    copied_words c.args.words.now _ _ _ _ _ _ _ _ _ _ _ _ _ _ _ _ c.if-words-ne8.false (ap (λ t. t.0) front) (ap (λ t. t.1) front) (ap (λ t. t.2) front) (ap (λ t. t.3) front)
    (ap (λ t. t.0) back) (ap (λ t. t.1) back) (ap (λ t. t.2) back) (ap (λ t. t.3) back) c.index-words-0.is c.index-words-1.is c.index-words-2.is c.index-words-3.is
    c.index-words-4.is c.index-words-5.is c.index-words-6.is c.index-words-7.is
