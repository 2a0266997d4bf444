-- What is answered with a body, and that printed bodies are answered with the object again.
use Rattle.std.proofs.Common.{◌≡◌, ℕ, Bool, List, [], ◌∷◌, Option, Some, None, Result, Ok, Err, refl, ap, subst, sym, true, false, ◌∙◌}
use Rattle.std.specs.Prelude.{fold, nat_lt, if◌then◌else◌}
use Rattle.ge_base.specs.declared.refusal.Refusal.{Refusal}
use Rattle.ge_base.specs.declared.refusal.Refusal.TheVariants.{Syntax}
use Rattle.ge_model_rows.specs.ClusterRows.{Cluster}
use Rattle.ge_model_rows.specs.EntryRows.{Item, ObjectKind}
use Rattle.ge_model_rows.specs.Faults.{earlier_fault, turn_of}
use Rattle.ge_model_grammar.specs.declared.Body.{Body}
use Rattle.ge_model_grammar.specs.Bodies.{body_of}
use Rattle.ge_model_config.specs.Cited.{Read, answered}
use Rattle.ge_model_config.specs.Printing.{printed}
use Rattle.ge_model_config.specs.Reading.{item_of, body_read}
use Rattle.ge_model_config.proofs.ReadBackBodies.{text_of_lines}
use Rattle.ge_model_config.proofs.ReadBackNames.{HasNames}
use Rattle.ge_model_config.proofs.ReadBackObjects.{IsPrinted, printed_reads_back}

abbrev IsSomeFault : Option Refusal → Type 0
IsSomeFault None = ⊥
IsSomeFault (Some refusal) = Unit {0}

-- a refusal that was noted stays or gives way to another one
some_fault : (faults : List Refusal) (noted : Refusal) → IsSomeFault (fold earlier_fault (Some noted) faults)
some_fault [] noted = tt
some_fault (fault ∷ faults) noted = by (nat_lt (turn_of fault) (turn_of noted)) (some_fault faults fault) (some_fault faults noted)
  where
    by : (earlier : Bool) → IsSomeFault (fold earlier_fault (Some fault) faults) → IsSomeFault (fold earlier_fault (Some noted) faults)
        → IsSomeFault (fold earlier_fault (if earlier then Some fault else Some noted) faults)
    by true first second = first
    by false first second = second

abbrev IsAnswer : {T : Type 0} → T → Result T Refusal → Type 0
IsAnswer value (Ok found) = found ≡ value
IsAnswer value (Err refusal) = ⊥

-- a value is the answer where there are no refusals, and then alone
pub nothing_refused : {T : Type 0} → (read : Read T) (value : T) → answered read ≡ Ok value → read ≡ (value, [])
nothing_refused {T} read value is = by read.1 is
  where
    by : (faults : List Refusal) → answered (read.0, faults) ≡ Ok value → ◌≡◌ {A = Read T} (read.0, faults) (value, [])
    by [] is = ap (λ found. (found, [])) (subst (IsAnswer value) (sym is) refl)
    by (fault ∷ faults) is = absurd (refused (fold earlier_fault (Some fault) faults) (some_fault faults fault) is)
      where
        refused : (first : Option Refusal) → IsSomeFault first → ◌≡◌ {A = Result T Refusal} (elim first [ None ↦ Ok read.0 | Some refusal ↦ Err refusal ]) (Ok value) → ⊥
        refused None none same = none
        refused (Some refusal) some same = subst (IsAnswer value) (sym same) refl

-- what is answered with the lines of a body, if it is in its grammar
abbrev answer_to : Cluster → ObjectKind → Bool → Option Body → Result Item Refusal
answer_to c kind adding parsed = elim parsed [ None ↦ Err Syntax | Some body ↦ answered (item_of c kind adding body) ]

-- an object that a text gave is given again by its printed lines
pub printed_answered : (c : Cluster) (kind : ObjectKind) (adding : Bool) (text : List ℕ) (thing : Item) → IsPrinted kind → HasNames c
    → body_read c kind adding text ≡ Ok thing → (ended : Bool) → body_read c kind adding (text_of_lines ended (printed c thing)) ≡ Ok thing
unfolding body_read
printed_answered c kind adding text thing of names is ended = by (body_of kind text) refl is
  where
    by : (parsed : Option Body) → body_of kind text ≡ parsed → answer_to c kind adding parsed ≡ Ok thing
        → answer_to c kind adding (body_of kind (text_of_lines ended (printed c thing))) ≡ Ok thing
    by None none is = absurd (subst (IsAnswer thing) (sym is) refl)
    by (Some body) some is =
        let back = printed_reads_back c kind adding text body thing of names some (nothing_refused (item_of c kind adding body) thing is) ended in
        ap (answer_to c kind adding) back.1 ∙ ap answered back.2
