-- What the machine answers is what the grammar says.
use Rattle.std.proofs.Common.{◌≡◌, ℕ, ◌+◌, ◌<◌, ◌≤◌, Bool, true, false, cond, nat_lt, List, [], ◌∷◌, ◌++◌, length, take, refl, ap, sym, subst, ◌∙◌, arith, append_assoc, append-nil, length-append, Option, Some, None, Result, Ok, Err, IfSome, ◌⊎◌, inl, inr, ◌↔◌}
use Rattle.std.proofs.Math.Seq.{take-append_seam, take-append-add}
use Rattle.std.proofs.lemmas.Bool.{le-ltb, lt-ltb, cond-true, cond-false, cases_lt}
use Rattle.std.proofs.lemmas.Option.{cond_some}
use Rattle.ge_model_text.specs.declared.Form.{Form}
use Rattle.ge_model_text.specs.declared.Progress.{Progress}
use Rattle.ge_model_text.specs.declared.Progress.TheVariants.{Start}
use Rattle.ge_model_text.specs.declared.ValueFault.{ValueFault}
use Rattle.ge_model_text.specs.declared.ValueFault.TheVariants.{Empty, Digit, TooLarge}
use Rattle.ge_model_text.specs.Value.{IsWorth}
use Rattle.ge_model_text.specs.Reading.{amount_cut, limit, step, next, if_occurs, occurs, amount_done, answer, bounded, reading, reading_from, Begins, EndsFront, Answers}
use Rattle.ge_text.proofs.ReadLemmas.{HasRead, reads_on}
use Rattle.ge_text.proofs.WorthLemmas.{Worth, done_is_worth, read_begins}
use Rattle.ge_text.proofs.RunLemmas.{run, run-one, run-append, reading_from-append}
use Rattle.ge_text.proofs.CompleteLemmas.{complete_from}

no_digit_by : (t : Bool) (amount place : ℕ) → cond t (Ok amount) (Err TooLarge) ≡ Err (Digit place) → ⊥
no_digit_by true amount place is = cc
no_digit_by false amount place is = cc

-- a text of the grammar has no wrong byte
no_digit : (amount place : ℕ) → bounded amount ≡ Err (Digit place) → ⊥
no_digit amount place is = no_digit_by (nat_lt amount limit) amount place is

gate_by : (form : Form) (P : Progress → Type 0) (o : Option Progress) (after : Progress) → IfSome o P → if_occurs form o ≡ Some after → P after × (occurs after form ≡ true)
gate_by form P None after holds is = absurd (cc)
gate_by form P (Some progress) after holds is =
    let parts = cond_some (occurs progress form) progress after is in
    (subst P parts.1 holds, subst (λ (p : Progress). occurs p form ≡ true) parts.1 parts.0)

next_reads : (form : Form) (progress after : Progress) (front : List ℕ) (b : ℕ) → HasRead progress front → next form progress b ≡ Some after
    → HasRead after (front ++ b ∷ []) × (occurs after form ≡ true)
next_reads form progress after front b has is =
    gate_by form (λ p. HasRead p (front ++ b ∷ [])) (step progress b) after (reads_on progress front b has) is

-- the answer for an amount

worth_by : (form : Form) (text : List ℕ) (value : ℕ) → Worth form text value → (value < limit) ⊎ (limit ≤ value) → Answers form text (bounded value)
worth_by form text value worth (inl below) =
    let value_is : value ≡ amount_cut worth.0 = worth.2 in
    let same : worth.0 ≡ value = omega arith in
    subst (λ (r : Result ℕ ValueFault). Answers form text r) (sym (cond-true (nat_lt value limit) (Ok value) (Err TooLarge) (lt-ltb value limit below)))
    (subst (λ (n : ℕ). IsWorth form text n) same worth.1, below)
worth_by form text value worth (inr above) =
    let value_is : value ≡ amount_cut worth.0 = worth.2 in
    let large : limit ≤ worth.0 = omega arith in
    subst (λ (r : Result ℕ ValueFault). Answers form text r) (sym (cond-false (nat_lt value limit) (Ok value) (Err TooLarge) (le-ltb value limit above)))
    (worth.0, worth.1, large)

-- a text that breaks off

begins_at : (form : Form) (front rest : List ℕ) (place : ℕ) → place ≡ length front → Begins form front → Begins form (take place (front ++ rest))
begins_at form front rest place is begins =
    subst (λ (bytes : List ℕ). Begins form bytes) (sym (ap (λ n. take n (front ++ rest)) is ∙ take-append_seam front rest)) begins

at_end : (form : Form) (progress : Progress) (text : List ℕ) (place : ℕ) (o : Option ℕ) → HasRead progress text → occurs progress form ≡ true
    → reading_from form Start 0 text ≡ answer place o → place ≡ length text → 0 < length text → IfSome o (Worth form text) → Answers form text (answer place o)
at_end form progress text place None has there read is some worth = record {
  some = some;
  none = λ amount worth. no_digit amount place (sym (complete_from form text amount worth) ∙ read);
  within = omega arith;
  begins = subst (λ (bytes : List ℕ). Begins form (take place bytes)) (append-nil text) (begins_at form text [] place is (read_begins form progress text has there));
  longest = λ below begins. absurd (omega arith);
}
at_end form progress text place (Some value) has there read is some worth = worth_by form text value worth (cases_lt value limit)

-- a byte that no text of the form has there

stuck_by : (form : Form) (place : ℕ) (rest : List ℕ) (o : Option Progress) → o ≡ None → ◌≡◌ {A = Result ℕ ValueFault} (elim o [ None ↦ Err (Digit place) | Some after ↦ reading_from form after (place + 1) rest ]) (Err (Digit place))
stuck_by form place rest o is = rw is refl

stuck : (form : Form) (progress : Progress) (front : List ℕ) (b : ℕ) (more : List ℕ) → run form Start front ≡ Some progress → next form progress b ≡ None
    → reading_from form Start 0 (front ++ b ∷ more) ≡ Err (Digit (length front))
stuck form progress front b more ran is =
    let here : 0 + length front ≡ length front = omega arith in
    reading_from-append form Start progress 0 front (b ∷ more) ran
    ∙ (stuck_by form (0 + length front) more (next form progress b) is ∙ ap (λ n. Err (Digit n)) here)

front_and_byte : (front rest : List ℕ) (b place : ℕ) → place ≡ length front → take (place + 1) (front ++ b ∷ rest) ≡ front ++ b ∷ []
front_and_byte front rest b place is = ap (λ n. take (n + 1) (front ++ b ∷ rest)) is ∙ take-append-add front (b ∷ rest) 1

ends_front : (form : Form) (progress : Progress) (front : List ℕ) (b : ℕ) (rest : List ℕ) (place : ℕ) → HasRead progress front → occurs progress form ≡ true
    → run form Start front ≡ Some progress → next form progress b ≡ None → place ≡ length front → EndsFront form (front ++ b ∷ rest) place
ends_front form progress front b rest place has there ran is where_ = record {
  some = omega (arith, length-append front (b ∷ rest));
  none = λ amount worth. no_digit amount (length front) (sym (complete_from form (front ++ b ∷ rest) amount worth) ∙ stuck form progress front b rest ran is);
  within = omega (arith, length-append front (b ∷ rest));
  begins = begins_at form front (b ∷ rest) place where_ (read_begins form progress front has there);
  longest = λ below begins.
      let here : Begins form (front ++ b ∷ []) = subst (λ (bytes : List ℕ). Begins form bytes) (front_and_byte front rest b place where_) begins in
      let whole : IsWorth form (front ++ b ∷ here.0) here.1 = subst (λ (bytes : List ℕ). IsWorth form bytes here.1) (append_assoc front (b ∷ []) here.0) here.2 in
      no_digit here.1 (length front) (sym (complete_from form (front ++ b ∷ here.0) here.1 whole) ∙ stuck form progress front b here.0 ran is);
}

at_next : (form : Form) (progress : Progress) (front : List ℕ) (b : ℕ) (rest : List ℕ) (place : ℕ) (o : Option Progress) → HasRead progress front → occurs progress form ≡ true
    → run form Start front ≡ Some progress → next form progress b ≡ o → place ≡ length front
    → ((after : Progress) → next form progress b ≡ Some after → Answers form (front ++ b ∷ rest) (reading_from form after (place + 1) rest))
    → Answers form (front ++ b ∷ rest) (elim o [ None ↦ Err (Digit place) | Some after ↦ reading_from form after (place + 1) rest ])
at_next form progress front b rest place None has there ran is where_ later = ends_front form progress front b rest place has there ran is where_
at_next form progress front b rest place (Some after) has there ran is where_ later = later after is

-- from each place on
sound : (form : Form) (progress : Progress) (front rest : List ℕ) (place : ℕ) → HasRead progress front → occurs progress form ≡ true
    → run form Start front ≡ Some progress → place ≡ length front → 0 < length (front ++ rest) → Answers form (front ++ rest) (reading_from form progress place rest)
sound form progress front [] place has there ran where_ some =
    let here : place ≡ 0 + length front = omega arith in
    let read : reading_from form Start 0 front ≡ answer place (amount_done form progress) =
    ap (λ bytes. reading_from form Start 0 bytes) (sym (append-nil front))
    ∙ (reading_from-append form Start progress 0 front [] ran ∙ ap (λ n. answer n (amount_done form progress)) (sym here)) in
    subst (λ (bytes : List ℕ). Answers form bytes (answer place (amount_done form progress))) (sym (append-nil front))
    (at_end form progress front place (amount_done form progress) has there read where_ (subst (λ (bytes : List ℕ). 0 < length bytes) (append-nil front) some)
    (done_is_worth form progress front has there))
sound form progress front (b ∷ rest) place has there ran where_ some =
    at_next form progress front b rest place (next form progress b) has there ran refl where_
    (λ after is.
    let on = next_reads form progress after front b has is in
    let longer : length (front ++ b ∷ []) ≡ length front + 1 = length-append front (b ∷ []) in
    subst (λ (bytes : List ℕ). Answers form bytes (reading_from form after (place + 1) rest)) (append_assoc front (b ∷ []) rest)
    (sound form after (front ++ b ∷ []) rest (place + 1) on.0 on.1
    (run-append form Start progress front (b ∷ []) ran ∙ run-one form progress after b [] is)
    (omega arith)
    (subst (λ (bytes : List ℕ). 0 < length bytes) (sym (append_assoc front (b ∷ []) rest)) some)))

-- the answer is what the grammar says
pub reading_answers : (form : Form) (text : List ℕ) → Answers form text (reading form text)
reading_answers form [] = refl
reading_answers form (b ∷ rest) = sound form Start [] (b ∷ rest) 0 refl refl refl refl (omega arith)

-- a text that is worth an amount is answered it, or that it is too large
pub reading_worth : (form : Form) (text : List ℕ) (amount : ℕ) → IsWorth form text amount → reading form text ≡ bounded amount
reading_worth form [] amount worth = absurd (no_digit amount 0 (sym (complete_from form [] amount worth)))
reading_worth form (b ∷ rest) amount worth = complete_from form (b ∷ rest) amount worth

empty_by : (form : Form) (text : List ℕ) (answered : Result ℕ ValueFault) → answered ≡ Err Empty → Answers form text answered → text ≡ []
empty_by form text answered is answers = subst (λ (r : Result ℕ ValueFault). Answers form text r) is answers

-- only the text of no bytes is answered that it is empty
pub reading_empty : (form : Form) (text : List ℕ) → ((reading form text ≡ Err Empty) ↔ (text ≡ []))
reading_empty form text = (λ is. empty_by form text (reading form text) is (reading_answers form text), λ none. rw none refl)
