-- A walk through groups that keeps the way back in place of recursion. Each group on the way stands with the entries
-- behind its name, and with how many groups more the way may lead through from there.
use Rattle.std.specs.Prelude.{ℕ, ◌+◌, if◌then◌else◌, List, [], ◌∷◌, ◌++◌, length, map, fold}
use Rattle.ge_model_rows.specs.Groups.{Walk, through_entry, through_group}
use Rattle.ge_model_rows.specs.Pieces.{is_one_of}

-- the groups that a way leads through
abbrev pub names_on : List (List ℕ × List (List ℕ) × ℕ) → List (List ℕ)
names_on way = map (λ g. g.0) way

-- what a walk comes to that goes back along a way: table, the groups that lead to the way, the way, the walk so far
abbrev pub gone_back : List (List ℕ × List (List ℕ)) → List (List ℕ) → List (List ℕ × List (List ℕ) × ℕ) → Walk → Walk
gone_back table before [] walk = walk
gone_back table before (g ∷ way) walk = fold (through_entry (through_group g.2 table before)) (gone_back table (before ++ g.0 ∷ []) way walk) g.1

-- what a walk comes to that has these entries before it, and then goes back: table, way, entries, depth, the walk so far
abbrev pub outcome : List (List ℕ × List (List ℕ)) → List (List ℕ × List (List ℕ) × ℕ) → List (List ℕ) → ℕ → Walk → Walk
outcome table way entries depth walk = gone_back table [] way (fold (through_entry (through_group depth table (names_on way))) walk entries)

-- how many steps the groups can bring that weren't met: one for each, and one for each of its entries
abbrev pub steps_of_unmet : List (List ℕ × List (List ℕ)) → List (List ℕ) → ℕ
steps_of_unmet [] met = 0
steps_of_unmet (group ∷ table) met = (if is_one_of group.0 met then 0 else 1 + length group.1) + steps_of_unmet table met

-- how many steps a way back brings
abbrev pub steps_back : List (List ℕ × List (List ℕ) × ℕ) → ℕ
steps_back [] = 0
steps_back (g ∷ way) = 1 + length g.1 + steps_back way

-- at most so many steps are left: table, way, entries, the walk so far
abbrev pub steps_left : List (List ℕ × List (List ℕ)) → List (List ℕ × List (List ℕ) × ℕ) → List (List ℕ) → Walk → ℕ
steps_left table way entries walk = steps_of_unmet table walk.groups + steps_back way + length entries
