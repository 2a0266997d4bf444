-- What is written, and what is held behind it.
use Rattle.std.proofs.Common.{◌≡◌, ℕ, ◌+◌, List, [], ◌++◌, length, take, Option, Some, None, ap, ◌∙◌, sym, subst, append_assoc, append-nil, length-append, arith}
use Rattle.std.proofs.lemmas.List.{take-append-le}
use Rattle.std.proofs.Math.Seq.{take-append-add}
use Rattle.ge_outside.specs.Streams.{Gains, GainsPrefix, Gains-append}
use Rattle.ge_gridacct.specs.Holding.{HasWritten}

pub gains_nothing : (old : Option (List ℕ)) → Gains old old []
gains_nothing None = tt
gains_nothing (Some xs) = sym (append-nil xs)

-- nothing was written, which is a front of any text
pub front_nothing : (old : Option (List ℕ)) (text : List ℕ) → GainsPrefix old old text
front_nothing old text = (0, omega arith, gains_nothing old)

-- a front of a text is one of a longer text
pub front_longer : (old new : Option (List ℕ)) (text more : List ℕ) → GainsPrefix old new text → GainsPrefix old new (text ++ more)
front_longer old new text more front =
    (front.0, omega (arith, front.1, length-append text more), rw (take-append-le front.0 text more front.1) front.2)

-- a text was written, and a front of what stands behind it
front_behind : (old now new : Option (List ℕ)) (done held : List ℕ) → Gains old now done → GainsPrefix now new held → GainsPrefix old new (done ++ held)
front_behind old now new done held gains front = (
  length done + front.0,
  omega (arith, front.1, length-append done held),
  rw (take-append-add done held front.0) (Gains-append old now new done (take front.0 held) gains front.2),
)

pub whole_front : (old new : Option (List ℕ)) (text : List ℕ) → Gains old new text → GainsPrefix old new text
whole_front old new text gains =
    subst (λ z. GainsPrefix old new z) (append-nil text) (front_behind old new new text [] gains (front_nothing new []))

pub written_none : (old : Option (List ℕ)) (held : List ℕ) → held ≡ [] → HasWritten old old held []
written_none old held none = record { done = []; gained = gains_nothing old; whole = none }

pub written_more : (start now : Option (List ℕ)) (held more text line : List ℕ) → more ≡ held ++ line → HasWritten start now held text → HasWritten start now more (text ++ line)
written_more start now held more text line is w = record {
  done = w.done;
  gained = w.gained;
  whole = ap (λ z. w.done ++ z) is ∙ sym (append_assoc w.done held line) ∙ ap (λ z. z ++ line) w.whole;
}

pub written_all : (start now new : Option (List ℕ)) (held text : List ℕ) → HasWritten start now held text → Gains now new held → Gains start new text
written_all start now new held text w gains = subst (λ z. Gains start new z) w.whole (Gains-append start now new w.done held w.gained gains)

pub written_empty : (start new : Option (List ℕ)) (held text : List ℕ) → held ≡ [] → Gains start new text → HasWritten start new held text
written_empty start new held text none gains = record { done = text; gained = gains; whole = ap (λ z. text ++ z) none ∙ append-nil text }

pub written_cut : (start now new : Option (List ℕ)) (held text : List ℕ) → HasWritten start now held text → GainsPrefix now new held → GainsPrefix start new text
written_cut start now new held text w front = subst (λ z. GainsPrefix start new z) w.whole (front_behind start now new w.done held w.gained front)

pub written_front : (start now : Option (List ℕ)) (held text : List ℕ) → HasWritten start now held text → GainsPrefix start now text
written_front start now held text w = written_cut start now now held text w (front_nothing now held)
