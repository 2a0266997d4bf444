-- Replies that are held for a while, so that many are written at once.
use Rattle.std.specs.Prelude.{◌≡◌, ℕ, List, ◌++◌, Option, Some, None, Result, Ok, Err}
use Rattle.ge_outside.specs.Streams.{Gains, GainsPrefix}
use Rattle.ge_rows.specs.declared.events.Event.{Event}
use Rattle.ge_top.specs.declared.answering.AnswerFault.{AnswerFault}
use Rattle.ge_top.specs.declared.answering.AnswerFault.TheVariants.{Read, Long, Write, Memory}

-- what is written, and then what is held
abbrev pub with_held : Option (List ℕ) → List ℕ → Option (List ℕ)
with_held None held = None
with_held (Some written) held = Some (written ++ held)

-- some bytes were added
abbrev pub HasGained : Option (List ℕ) → Option (List ℕ) → Type 0
HasGained old new = (bytes : List ℕ) × Gains old new bytes

-- What becomes of the held bytes when the next event is looked for: they are written before the call ends without one, unless
-- that write fails.
abbrev pub KeepsHeld : Result (Option Event) AnswerFault → Option (List ℕ) → Option (List ℕ) → List ℕ → List ℕ → Type 0
KeepsHeld (Ok (Some event)) old new before after = with_held new after ≡ with_held old before
KeepsHeld (Ok None) old new before after = new ≡ with_held old before
KeepsHeld (Err Write) old new before after = GainsPrefix old new before
KeepsHeld (Err Read) old new before after = new ≡ with_held old before
KeepsHeld (Err Long) old new before after = new ≡ with_held old before
KeepsHeld (Err Memory) old new before after = new ≡ with_held old before
