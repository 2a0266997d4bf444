-- What a spawner tells of the programs that it started.
use Rattle.std.specs.Prelude.{◌≡◌, ◌==◌, ℕ, Bool, true, false, List, [], ◌∷◌, ◌++◌, Option, None, Some, decimal, if◌then◌else◌}

-- a program that was started: its number and its words
pub record Begun : Type 0 where
  pub id : ℕ
  pub words : List (List ℕ)

-- a program that ended: its number and its exit
pub record Ended : Type 0 where
  pub id : ℕ
  pub exit : ℕ

-- the starts and the kills in order, and the ends that are known
pub record Told : Type 0 where
  pub starts : List Begun
  pub kills : List ℕ
  pub ends : List Ended

-- a program of this number was started
abbrev pub was_begun : List Begun → ℕ → Bool
was_begun [] id = false
was_begun (b ∷ starts) id = if b.id == id then true else was_begun starts id

-- how the program of this number ended, the first end that is known of it
abbrev pub end_in : List Ended → ℕ → Option ℕ
end_in [] id = None
end_in (e ∷ ends) id = if e.id == id then Some e.exit else end_in ends id

-- the exit of a program that was never begun, or that vanished without one: the exit that puts a task into its error state
abbrev pub vanished : ℕ
vanished = 100

-- what is known of a number: None while it runs, and the exit of what vanished where no program of it was started
abbrev pub exit_of : Told → ℕ → Option ℕ
exit_of told id = if was_begun told.starts id then end_in told.ends id else Some vanished

-- the number that a program is started under is the one that its first word writes
abbrev pub IsNamed : List (List ℕ) → ℕ → Type 0
IsNamed [] id = ⊥
IsNamed (word ∷ words) id = word ≡ decimal id

-- ends become more, and none is taken back
pub record MoreEnds (old new : List Ended) : Type 0 where
  pub later : List Ended
  pub joined : new ≡ old ++ later

-- a start: it stands behind the others
pub record Starting (old new : Told) (id : ℕ) (words : List (List ℕ)) : Type 0 where
  pub starts : new.starts ≡ old.starts ++ record { id = id; words = words } ∷ []
  pub kills : new.kills ≡ old.kills
  pub ends : MoreEnds old.ends new.ends

-- a kill: its number stands behind the others
pub record Killing (old new : Told) (id : ℕ) : Type 0 where
  pub starts : new.starts ≡ old.starts
  pub kills : new.kills ≡ old.kills ++ id ∷ []
  pub ends : MoreEnds old.ends new.ends

-- a question: nothing is started or killed, and the answer is what is known after it
pub record Polling (old new : Told) (id : ℕ) (exit : Option ℕ) : Type 0 where
  pub starts : new.starts ≡ old.starts
  pub kills : new.kills ≡ old.kills
  pub ends : MoreEnds old.ends new.ends
  pub known : exit ≡ exit_of new id

-- where the spawner tells; it neither begins nor ends to tell
abbrev pub Starts : Option Told → Option Told → ℕ → List (List ℕ) → Type 0
Starts (Some old) (Some new) id words = Starting old new id words
Starts None None id words = Unit {0}
Starts _ _ id words = ⊥

abbrev pub Kills : Option Told → Option Told → ℕ → Type 0
Kills (Some old) (Some new) id = Killing old new id
Kills None None id = Unit {0}
Kills _ _ id = ⊥

abbrev pub Polls : Option Told → Option Told → ℕ → Option ℕ → Type 0
Polls (Some old) (Some new) id exit = Polling old new id exit
Polls None None id exit = Unit {0}
Polls _ _ id exit = ⊥
