-- What a door tells of the links to come and of those given back.
use Rattle.std.specs.Prelude.{◌≡◌, ℕ, ◌<◌, ◌≤◌, List, [], ◌∷◌, ◌++◌, Option, None, Some}
use Rattle.ge_outside.specs.Faults.{Rose}

-- a link that was given back
pub record ClosedLink : Type 0 where
  -- the bytes left unread
  pub unread : List ℕ
  -- the bytes written to it
  pub written : List ℕ
  -- its faults of reading and of writing together
  pub faults : ℕ

-- The first of the links to come is handed out: its bytes are what is left to read, and nothing is written yet.
abbrev pub Opens : Option (List (List ℕ)) → Option (List (List ℕ)) → Option (List ℕ) → Option (List ℕ) → Type 0
Opens (Some (first ∷ others)) (Some coming) (Some rest) (Some written) =
    (coming ≡ others) × (rest ≡ first) × (written ≡ [])
Opens None None rest written = Unit {0}
Opens _ _ rest written = ⊥

-- A link with these parts was given back, and stands behind those given back before.
abbrev pub Closes : Option (List ClosedLink) → Option (List ClosedLink) → Option (List ℕ) → Option (List ℕ) → ℕ → Type 0
Closes (Some old) (Some new) (Some rest) (Some written) faults =
    new ≡ old ++ record { unread = rest; written = written; faults = faults } ∷ []
Closes None None rest written faults = Unit {0}
Closes _ _ rest written faults = ⊥

-- The count of links with faults rises where such a link was given back, and nowhere else.
abbrev pub CountsLink : ℕ → ℕ → ℕ → Type 0
CountsLink before now faults = (before ≤ now) × (0 < faults → Rose before now) × (faults ≡ 0 → now ≡ before)
