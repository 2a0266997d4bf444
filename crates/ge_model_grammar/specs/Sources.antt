-- What reading a script does to its source.
use Rattle.std.specs.Prelude.{◌≡◌, ℕ, List, [], ◌++◌, Option, Some, None}

-- bytes moved from the front of what is left of a source to the end of what was read; a source that doesn't tell goes on so
abbrev pub Moved : Option (List ℕ) → Option (List ℕ) → List ℕ → List ℕ → Type 0
Moved None None before after = Unit {0}
Moved (Some old) (Some new) before after = before ++ old ≡ after ++ new
Moved None (Some new) before after = ⊥
Moved (Some old) None before after = ⊥

-- a source that tells has nothing left
abbrev pub IsReadToEnd : Option (List ℕ) → Type 0
IsReadToEnd None = Unit {0}
IsReadToEnd (Some rest) = rest ≡ []
