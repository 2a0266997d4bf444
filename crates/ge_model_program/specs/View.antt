-- All that a run over two areas may change, but for its input, at one moment.
use Rattle.std.specs.Prelude.{◌≡◌, ◌⊎◌, ℕ, ◌+◌, List, [], ◌∷◌, Option, Some, None, IfSome}
use Rattle.ge_outside.specs.Faults.{Rose}
use Rattle.ge_model_journal.specs.Disk.{Content, settled_content, read_bytes}
use Rattle.ge_model_journal.specs.Writing.{padded}

pub record View : Type 0 where
  -- what the output holds, where it tells it, and its count of faults
  pub output : Option (List ℕ)
  pub writes : ℕ
  -- the moments of the two areas, newest first, with their counts of faults, and of syncs together
  pub a : List Content
  pub b : List Content
  pub faults_a : ℕ
  pub faults_b : ℕ
  pub syncs : ℕ

-- this moment, from what an output tells and its count of faults, and what a disk tells, its count of faults and its count of syncs
abbrev pub view_of : {K D : Type 0} → (K → Option (List ℕ)) → (K → ℕ) → (D → List Content) → (D → ℕ) → (D → ℕ) → K → D → D → View
view_of written writes told faults syncs output a b = record {
  output = written output;
  writes = writes output;
  a = told a;
  b = told b;
  faults_a = faults a;
  faults_b = faults b;
  syncs = syncs a + syncs b;
}

-- a count of faults of an area rose
abbrev pub DiskRose : View → View → Type 0
DiskRose x y = Rose x.faults_a y.faults_a ⊎ Rose x.faults_b y.faults_b

-- what a function says of the bytes of two areas, where both tell them
abbrev pub said_of : {R : Type 0} → (List ℕ → List ℕ → R) → List Content → List Content → Option R
said_of say [] b = None
said_of say (now ∷ earlier) [] = None
said_of say (now ∷ earlier) (other ∷ others) = Some (say now.bytes other.bytes)

-- nothing is pending on an area that tells
abbrev pub IsStill : List Content → Type 0
IsStill [] = ⊥
IsStill (now ∷ earlier) = now ≡ settled_content now.bytes

-- nothing is pending on either area
abbrev pub AreStill : View → Type 0
AreStill x = IsStill x.a × IsStill x.b

-- the bytes of an area that was refused: what they were, or with a closed gate in an area below 19 bytes
abbrev pub IsKept : List ℕ → List ℕ → Type 0
IsKept old new = (new ≡ old) ⊎ (new ≡ padded old)

-- the bytes of both areas
abbrev pub both_bytes : List ℕ → List ℕ → List ℕ × List ℕ
both_bytes a b = (a, b)

-- both areas, where they tell, are as they were but for such a gate
abbrev pub AreKept : View → View → Type 0
AreKept x y = IfSome (said_of both_bytes x.a x.b) (λ read. IsKept read.0 (read_bytes y.a) × IsKept read.1 (read_bytes y.b))
