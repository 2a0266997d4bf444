-- How many bytes stand behind the last `]` of a pattern.
use Rattle.std.proofs.Common.{◌≡◌, ℕ, suc, zero, ◌+◌, ◌<◌, ◌≤◌, Bool, true, false, cond, not, ◌==◌, nat_lt, List, [], ◌∷◌, length, drop, refl, arith, drop-drop, Option, Some, None}
use Rattle.std.proofs.lemmas.Bool.{ltb-true, ltb-false}
use Rattle.std.specs.List.{position_or_len}
use Rattle.ge_model_text.specs.Pattern.{set_end}
use Rattle.ge_text.specs.Fronts.{EndTold, Tells, KnowsTail}

-- counted from the front, where `before` is the count so far
abbrev pub tail_from : ℕ → List ℕ → ℕ
tail_from before [] = before
tail_from before (b ∷ rest) = tail_from (cond (b == 93) (length rest) before) rest

-- the place of the first `]`, or the length
abbrev close : List ℕ → ℕ
close rest = position_or_len (λ c. c == 93) rest

-- the count is below what is left where that has a `]`, and otherwise it stays
data Counted (before tail close left : ℕ) : Type 0 where
  met : close < left → tail < left → Counted before tail close left
  stays : left ≤ close → tail ≡ before → Counted before tail close left

closed_here : (before tail close left : ℕ) → Counted left tail close left → Counted before tail 0 (suc left)
closed_here before tail close left (met some below) = met (omega arith) (omega arith)
closed_here before tail close left (stays all same) = met (omega arith) (omega arith)

closed_later : (before tail close left : ℕ) → Counted before tail close left → Counted before tail (1 + close) (suc left)
closed_later before tail close left (met some below) = met (omega arith) (omega arith)
closed_later before tail close left (stays all same) = stays (omega arith) same

counts_on : (t : Bool) (before : ℕ) (rest : List ℕ) → ((n : ℕ) → Counted n (tail_from n rest) (close rest) (length rest))
    → Counted before (tail_from (cond t (length rest) before) rest) (cond (not t) (1 + close rest) 0) (suc (length rest))
counts_on true before rest later = closed_here before (tail_from (length rest) rest) (close rest) (length rest) (later (length rest))
counts_on false before rest later = closed_later before (tail_from before rest) (close rest) (length rest) (later before)

counts : (rest : List ℕ) (before : ℕ) → Counted before (tail_from before rest) (close rest) (length rest)
counts [] before = stays (omega arith) refl
counts (b ∷ rest) before = counts_on (b == 93) before rest (counts rest)

told_when : (t : Bool) (before tail close left : ℕ) → nat_lt close left ≡ t → left ≤ before → Counted before tail close left → EndTold tail left (cond t (Some close) None)
told_when true before tail close left is enough (met some below) = below
told_when true before tail close left is enough (stays all same) = absurd (omega (arith, ltb-true close left is))
told_when false before tail close left is enough (met some below) = absurd (omega (arith, ltb-false close left is))
told_when false before tail close left is enough (stays all same) = omega arith

tells_all : (before : ℕ) (rest : List ℕ) → length rest ≤ before → Tells (tail_from before rest) rest
tells_all before rest some = record { told = told_when (nat_lt (close rest) (length rest)) before (tail_from before rest) (close rest) (length rest) refl some (counts rest before) }

enough : (t : Bool) (before left : ℕ) → left + 1 ≤ before → left ≤ cond t left before
enough true before left some = omega arith
enough false before left some = omega arith

tells_at : (k before : ℕ) (pattern : List ℕ) → length pattern ≤ before → Tells (tail_from before pattern) (drop k pattern)
tells_at zero before pattern some = tells_all before pattern some
tells_at (suc k) before [] some = tells_all before [] some
tells_at (suc k) before (b ∷ rest) some = tells_at k (cond (b == 93) (length rest) before) rest (enough (b == 93) before (length rest) (omega arith))

-- where nothing is left to count
pub knows_tail : (open_tail : ℕ) (rest pattern : List ℕ) → length rest ≡ 0 → tail_from open_tail rest ≡ tail_from (length pattern) pattern → KnowsTail open_tail pattern
knows_tail open_tail [] pattern empty counted = record { tells = λ k. rw counted (tells_at k (length pattern) pattern (omega arith)) }
knows_tail open_tail (b ∷ rest) pattern empty counted = absurd (omega arith)

no_end : (open_tail left : ℕ) (o : Option ℕ) → left ≤ open_tail → EndTold open_tail left o → None ≡ o
no_end open_tail left None short here = refl
no_end open_tail left (Some size) short here = absurd (omega arith)

-- where no more is left than stands behind the last `]`, a set has no end
pub tells_none : (open_tail : ℕ) (rest : List ℕ) → Tells open_tail rest → length rest ≤ open_tail → None ≡ set_end rest
tells_none open_tail rest t short = no_end open_tail (length rest) (set_end rest) short t.told

-- an end of the pattern is told of as the pattern is
pub tail_later : (open_tail : ℕ) (pattern : List ℕ) (n : ℕ) → KnowsTail open_tail pattern → KnowsTail open_tail (drop n pattern)
tail_later open_tail pattern n knows = record { tells = λ k. rw drop-drop (knows.tells _) }

pub tail_behind : (open_tail first : ℕ) (rest : List ℕ) → KnowsTail open_tail (first ∷ rest) → KnowsTail open_tail rest
tail_behind open_tail first rest knows = tail_later open_tail (first ∷ rest) 1 knows

pub tail_tells : (open_tail first : ℕ) (rest : List ℕ) → KnowsTail open_tail (first ∷ rest) → Tells open_tail rest
tail_tells open_tail first rest knows = knows.tells 1
