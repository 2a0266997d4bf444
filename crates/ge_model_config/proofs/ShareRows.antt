-- Parts of projects in a share tree, and the names in them: what answers such trees.
use Rattle.std.specs.Prelude.{ℕ, List, [], ◌∷◌, ◌++◌, true, Some, None, codes, refl}
use Rattle.ge_base.specs.declared.refusal.Refusal.TheVariants.{BadValue, Cycle}
use Rattle.ge_model_rows.specs.EntryRows.{ObjectKind}
use Rattle.ge_model_config.proofs.Site.{site, answer, Answers}

-- the five lines of a node
abbrev node : List ℕ → List ℕ → List ℕ → List ℕ → List ℕ
node id name type children =
    codes "id=" ++ id ++ codes "\nname=" ++ name ++ codes "\ntype=" ++ type ++ codes "\nshares=1\nchildnodes=" ++ children ++ codes "\n"

-- a node of users, and one of the project web
abbrev users : List ℕ → List ℕ → List ℕ → List ℕ
users id name children = node id name (codes "0") children

abbrev project : List ℕ → List ℕ → List ℕ
project id children = node id (codes "web") (codes "1") children

abbrev no_children : List ℕ
no_children = codes "NONE"

-- a name may stand in the parts of two projects and outside of them, once in each, however deep
scopes : Answers site ObjectKind.Shares true ((
  users (codes "0") (codes "r") (codes "1,2,5") ++ project (codes "1") (codes "3") ++ project (codes "2") (codes "4")
      ++ users (codes "3") (codes "u") no_children ++ users (codes "4") (codes "u") no_children ++ users (codes "5") (codes "u") no_children,
  None,
)
    ∷ (
      users (codes "0") (codes "r") (codes "1") ++ project (codes "1") (codes "3") ++ users (codes "3") (codes "u") (codes "4") ++ users (codes "4") (codes "v") (codes "5")
          ++ users (codes "5") (codes "u") no_children,
      Some BadValue,
    )
    ∷ (
      users (codes "0") (codes "r") (codes "1,2") ++ users (codes "1") (codes "u") (codes "3") ++ project (codes "3") no_children
          ++ users (codes "2") (codes "v") (codes "4") ++ users (codes "4") (codes "u") no_children,
      Some BadValue,
    )
    ∷ (users (codes "0") (codes "u") (codes "1") ++ project (codes "1") (codes "2") ++ users (codes "2") (codes "u") no_children, None)
    ∷ [])
unfolding answer site
scopes = refl

-- no project stands below another, however deep, and none below itself
projects_apart : Answers site ObjectKind.Shares true ((
  users (codes "0") (codes "r") (codes "1") ++ project (codes "1") (codes "2") ++ users (codes "2") (codes "a") (codes "3") ++ users (codes "3") (codes "b") (codes "4")
      ++ project (codes "4") no_children,
  Some BadValue,
)
    ∷ (users (codes "0") (codes "r") (codes "1") ++ project (codes "1") (codes "0"), Some BadValue)
    ∷ (users (codes "0") (codes "r") no_children ++ project (codes "1") (codes "2") ++ users (codes "2") (codes "a") (codes "1"), Some BadValue)
    ∷ [])
unfolding answer site
projects_apart = refl

-- nodes that go round: names are asked first, in the part of a project that has the root too
going_round : Answers site ObjectKind.Shares true ((
  users (codes "0") (codes "r") no_children ++ users (codes "5") (codes "a") (codes "6") ++ users (codes "6") (codes "b") (codes "5,7") ++ project (codes "7") (codes "0,8")
      ++ users (codes "8") (codes "r") no_children,
  Some BadValue,
)
    ∷ (
      users (codes "0") (codes "r") no_children ++ users (codes "5") (codes "a") (codes "6") ++ users (codes "6") (codes "b") (codes "5,7") ++ project (codes "7") (codes "0,8")
          ++ users (codes "8") (codes "s") no_children,
      Some Cycle,
    )
    ∷ (
      users (codes "0") (codes "r") no_children ++ users (codes "5") (codes "a") (codes "6") ++ users (codes "6") (codes "b") (codes "5,7,9")
          ++ project (codes "7") (codes "0,8") ++ users (codes "8") (codes "r") no_children ++ project (codes "9") (codes "0"),
      Some BadValue,
    )
    ∷ (users (codes "0") (codes "r") (codes "1") ++ users (codes "1") (codes "a") (codes "0"), Some Cycle)
    ∷ [])
unfolding answer site
going_round = refl
