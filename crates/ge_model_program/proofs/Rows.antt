-- Lines of the table of words, and other words.
use Rattle.std.proofs.Common.{◌≡◌, [], ◌∷◌, Some, None, codes, refl}
use Rattle.ge_model_program.specs.Words.{word_of}
use Rattle.ge_model_program.specs.declared.Word.TheVariants.{Simulate, Replay, Serve, Status, Generate, Trial}

simulates : word_of (codes "simulate" ∷ []) ≡ Some Simulate
simulates = refl

replays : word_of (codes "replay" ∷ []) ≡ Some (Replay 1)
replays = refl

shows : word_of (codes "status" ∷ []) ≡ Some Status
shows = refl

least_batch : word_of (codes "replay" ∷ codes "-batch" ∷ codes "1" ∷ []) ≡ Some (Replay 1)
least_batch = refl

greatest_batch : word_of (codes "replay" ∷ codes "-batch" ∷ codes "1024" ∷ []) ≡ Some (Replay 1024)
greatest_batch = refl

batch_too_large : word_of (codes "replay" ∷ codes "-batch" ∷ codes "1025" ∷ []) ≡ None
batch_too_large = refl

batch_of_none : word_of (codes "replay" ∷ codes "-batch" ∷ codes "0" ∷ []) ≡ None
batch_of_none = refl

leading_zero : word_of (codes "replay" ∷ codes "-batch" ∷ codes "02" ∷ []) ≡ None
leading_zero = refl

a_sign : word_of (codes "replay" ∷ codes "-batch" ∷ codes "+2" ∷ []) ≡ None
a_sign = refl

no_number : word_of (codes "replay" ∷ codes "-batch" ∷ []) ≡ None
no_number = refl

generates : word_of (codes "generate" ∷ codes "1" ∷ []) ≡ Some (Generate 1)
generates = refl

greatest_trial : word_of (codes "trial" ∷ codes "100000" ∷ []) ≡ Some (Trial 100000)
greatest_trial = refl

too_many_jobs : word_of (codes "generate" ∷ codes "100001" ∷ []) ≡ None
too_many_jobs = refl

trial_of_none : word_of (codes "trial" ∷ codes "0" ∷ []) ≡ None
trial_of_none = refl

trial_without_number : word_of (codes "trial" ∷ []) ≡ None
trial_without_number = refl

serves : word_of (codes "serve" ∷ codes "7000" ∷ codes "2" ∷ []) ≡ Some (Serve 2)
serves = refl

greatest_serving : word_of (codes "serve" ∷ codes "65535" ∷ codes "1000000" ∷ []) ≡ Some (Serve 1000000)
greatest_serving = refl

too_great_a_port : word_of (codes "serve" ∷ codes "65536" ∷ codes "1" ∷ []) ≡ None
too_great_a_port = refl

no_port : word_of (codes "serve" ∷ codes "0" ∷ codes "1" ∷ []) ≡ None
no_port = refl

too_many_connections : word_of (codes "serve" ∷ codes "7000" ∷ codes "1000001" ∷ []) ≡ None
too_many_connections = refl

no_word : word_of [] ≡ None
no_word = refl

two_words : word_of (codes "status" ∷ codes "status" ∷ []) ≡ None
two_words = refl
