-- Refusals noted one part after the other are those of the whole.
use Rattle.std.proofs.Common.{◌≡◌, List, ◌++◌, Option, sym, ap, ◌∙◌, append_assoc}
use Rattle.std.proofs.lemmas.List.Sums.{fold-append}
use Rattle.ge_base.specs.declared.refusal.Refusal.{Refusal}
use Rattle.ge_model_rows.specs.Faults.{earlier_fault, after_faults}

pub after_both : (old first last : Option Refusal) (xs ys : List Refusal) → first ≡ after_faults old xs → last ≡ after_faults first ys
    → last ≡ after_faults old (xs ++ ys)
after_both old first last xs ys f l = l ∙ ap (λ (o : Option Refusal). after_faults o ys) f ∙ sym (fold-append earlier_fault old xs ys)

three : (p a b c : List Refusal) → p ++ (a ++ b ++ c) ≡ p ++ a ++ b ++ c
three p a b c = sym (append_assoc p (a ++ b) c) ∙ ap (λ x. x ++ c) (sym (append_assoc p a b))

four : (p a b c d : List Refusal) → p ++ (a ++ b ++ c ++ d) ≡ p ++ a ++ b ++ c ++ d
four p a b c d = sym (append_assoc p (a ++ b ++ c) d) ∙ ap (λ x. x ++ d) (three p a b c)

five : (p a b c d e : List Refusal) → p ++ (a ++ b ++ c ++ d ++ e) ≡ p ++ a ++ b ++ c ++ d ++ e
five p a b c d e = sym (append_assoc p (a ++ b ++ c ++ d) e) ∙ ap (λ x. x ++ e) (four p a b c d)

-- some parts, and three, four or five more
pub three_noted : (old first last : Option Refusal) (p a b c : List Refusal) → first ≡ after_faults old p → last ≡ after_faults first (a ++ b ++ c)
    → last ≡ after_faults old (p ++ a ++ b ++ c)
three_noted old first last p a b c one more =
    after_both old first last p (a ++ b ++ c) one more ∙ ap (λ (x : List Refusal). after_faults old x) (three p a b c)

pub four_noted : (old first last : Option Refusal) (p a b c d : List Refusal) → first ≡ after_faults old p → last ≡ after_faults first (a ++ b ++ c ++ d)
    → last ≡ after_faults old (p ++ a ++ b ++ c ++ d)
four_noted old first last p a b c d one more =
    after_both old first last p (a ++ b ++ c ++ d) one more ∙ ap (λ (x : List Refusal). after_faults old x) (four p a b c d)

pub five_noted : (old first last : Option Refusal) (p a b c d e : List Refusal) → first ≡ after_faults old p
    → last ≡ after_faults first (a ++ b ++ c ++ d ++ e) → last ≡ after_faults old (p ++ a ++ b ++ c ++ d ++ e)
five_noted old first last p a b c d e one more =
    after_both old first last p (a ++ b ++ c ++ d ++ e) one more ∙ ap (λ (x : List Refusal). after_faults old x) (five p a b c d e)

-- a queue: what stands first, four parts, and three more
pub queue_noted : (old first second last : Option Refusal) (p e f g h i j k : List Refusal) → first ≡ after_faults old p → second ≡ after_faults first (e ++ f ++ g ++ h)
    → last ≡ after_faults second (i ++ j ++ k) → last ≡ after_faults old (p ++ e ++ f ++ g ++ h ++ i ++ j ++ k)
queue_noted old first second last p e f g h i j k one two more =
    three_noted old second last (p ++ e ++ f ++ g ++ h) i j k (four_noted old first second p e f g h one two) more

-- the settings: what stands first, and three times five parts
pub settings_noted : (old first second third last : Option Refusal) (p a b c d e f g h i j k l m n o : List Refusal) → first ≡ after_faults old p
    → second ≡ after_faults first (a ++ b ++ c ++ d ++ e) → third ≡ after_faults second (f ++ g ++ h ++ i ++ j) → last ≡ after_faults third (k ++ l ++ m ++ n ++ o)
    → last ≡ after_faults old (p ++ a ++ b ++ c ++ d ++ e ++ f ++ g ++ h ++ i ++ j ++ k ++ l ++ m ++ n ++ o)
settings_noted old first second third last p a b c d e f g h i j k l m n o one two three more =
    five_noted old third last (p ++ a ++ b ++ c ++ d ++ e ++ f ++ g ++ h ++ i ++ j) k l m n o
    (five_noted old second third (p ++ a ++ b ++ c ++ d ++ e) f g h i j (five_noted old first second p a b c d e one two) three) more
