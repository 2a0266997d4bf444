-- What finding the word at a place returns, against the word that begins there.
use Rattle.std.specs.Prelude.{◌≡◌, ℕ, ◌≤◌, length, List, Option, Result, Ok, Err, option_to_list}
use Rattle.ge_model_text.specs.declared.Span.{Span}
use Rattle.ge_text.specs.declared.splitting.TextFault.{TextFault}
use Rattle.ge_text.specs.declared.splitting.TextFault.TheVariants.{Quote, NoMemory}

-- the word that begins somewhere, if any, and how many of the bytes behind its first belong to it
abbrev pub IsWordHere : Result (Option Span × ℕ) TextFault → List ℕ → Result (List Span) ℕ → ℕ → Type 0
IsWordHere (Ok found) rest word taken = (word ≡ Ok (option_to_list found.0)) × (found.1 ≡ taken) × (found.1 ≤ length rest)
IsWordHere (Err (Quote place)) rest word taken = word ≡ Err place
IsWordHere (Err NoMemory) rest word taken = ⊥
