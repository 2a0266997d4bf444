use Rattle.std.proofs.Common.{length, ◌-◌, ◌≡◌, ◌≤◌, drop}
use Rattle.ge_model_text.specs.Words.{words_from, words_of}
use Rattle.ge_text.specs.Lending.{lent_texts, texts_at}
use Rattle.ge_text.proofs.LentLemmas.{lent_on}
use Rattle.ge_text.proofs.lending.lent_words.Given as goal

-- the texts so far, and then those of what is left, are the texts of the line
abbrev pub invariant-loop-place : goal.invariant-loop-place
invariant-loop-place l = record {
  within : l.place ≤ length l.line;
  told : lent_on (lent_texts l.words.items) l.line (words_from l.place 0 (drop l.place l.line)) ≡ texts_at l.line (words_of l.line);
}

abbrev pub decreases-loop-place : goal.decreases-loop-place
decreases-loop-place l = length l.line - l.place
