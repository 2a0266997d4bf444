-- Output that is held, so that much is written at once.
use Rattle.std.specs.Prelude.{◌≡◌, ℕ, List, ◌++◌, Option}
use Rattle.ge_outside.specs.Streams.{Gains}

-- what was written since then, and what is held behind it, are a text
pub record HasWritten (start now : Option (List ℕ)) (held text : List ℕ) : Type 0 where
  pub done : List ℕ
  pub gained : Gains start now done
  pub whole : done ++ held ≡ text
