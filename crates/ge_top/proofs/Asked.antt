-- What the words ask for.
use Rattle.std.proofs.Common.{◌≡◌, ◌⊎◌, ℕ, List, Option, Some, ap, ◌∙◌, sym, subst}
use Rattle.ge_model_program.specs.declared.Word.{Word}
use Rattle.ge_model_program.specs.declared.Word.TheVariants.{Replay}
use Rattle.ge_model_program.specs.Faultless.{AreFaultless}
use Rattle.ge_model_program.specs.Replaying.{ReplaysAreas}
use Rattle.ge_model_program.specs.View.{View}
use Rattle.ge_model_program.proofs.ReplayAnswered.{areas-answered}
use Rattle.ge_top.proofs.Told.{same_some}

same_number : (n m : ℕ) → ◌≡◌ {A = Word} (Replay n) (Replay m) → n ≡ m
same_number n m e = cc

-- they tell one number of events a batch
pub same-batch : (read asked : Option Word) (word : Word) (n m : ℕ) → read ≡ Some word → word ≡ Replay n → read ≡ asked → asked ≡ Some (Replay m) → n ≡ m
same-batch read asked word n m is replay reads asks = same_number n m (same_some (Replay n) (Replay m) (ap (λ w. Some w) (sym replay) ∙ sym is ∙ reads ∙ asks))

-- a replay with that number, without faults
pub asked-answered : (asked batch status : ℕ) (script rest : Option (List ℕ)) (reads_before reads_after : ℕ) (x y : View) → batch ≡ asked → AreFaultless asked script reads_before reads_after x y
    → ReplaysAreas batch status script rest reads_before reads_after x y → (status ≡ 0) ⊎ (status ≡ 10)
asked-answered asked batch status script rest reads_before reads_after x y same areas replays =
    areas-answered batch status script rest reads_before reads_after x y (subst (λ n. AreFaultless n script reads_before reads_after x y) (sym same) areas) replays
