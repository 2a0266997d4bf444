use Rattle.std.proofs.Common.{ℕ, List, ◌≤◌, ◌+◌, length, option_to_list, ap, ◌∙◌, arith, length-drop, drop}
use Rattle.ge_model_text.specs.Words.{words_from}
use Rattle.ge_text.specs.Lending.{lent_texts}
use Rattle.ge_text.proofs.LentLemmas.{lent_on, one_more_lent}
use Rattle.ge_text.proofs.lending.lent_words.Goals as goal

pub loop-place-preserved : goal.loop-place-preserved
loop-place-preserved c =
    let found = rw c.split_at.ensures.back at c.in_ok-found.ensures in
    let place = c.loop-place.place in
    let taken = c.in_ok-found.taken in
    let line = c.args.line.now in
    let enough : taken ≤ length (drop (place + 1) line) = found.2 in
    record {
      within = omega (arith, enough, length-drop (place + 1) line, c.loop-place-test.true);
      told =
          ap (λ (texts : List (List ℕ)). lent_on texts line (words_from (place + (1 + taken)) 0 (drop (place + (1 + taken)) line))) c.in_ok-push_lent.ensures.ok
          ∙ one_more_lent (lent_texts c.loop-place.words.items) (option_to_list c.in_ok-found.found) place taken line _ c.loop-place-test.true found.0 found.1 c.loop-place.invariant.told;
    }
