-- The eight words of a complex.
use Rattle.std.proofs.Common.{◌≡◌, ℕ, List, [], ◌∷◌, length, get_or, Some, None, refl, sym, ◌∙◌, arith}
use Rattle.ge_model_grammar.specs.Bodies.{complex_with}

-- eight words, each at its place, are a complex
pub eight_words : (words : List (List ℕ)) (a b c d e f g h : List ℕ) → length words ≡ 8 → complex_with words ≡ Some (record {
  name = get_or words 0 a;
  shortcut = get_or words 1 b;
  kind = get_or words 2 c;
  relop = get_or words 3 d;
  requestable = get_or words 4 e;
  consumable = get_or words 5 f;
  fallback = get_or words 6 g;
  urgency = get_or words 7 h;
})
eight_words (s ∷ t ∷ u ∷ v ∷ w ∷ x ∷ y ∷ z ∷ []) a b c d e f g h is = refl
eight_words (s ∷ t ∷ u ∷ v ∷ w ∷ x ∷ y ∷ z ∷ more ∷ words) a b c d e f g h is = absurd (omega arith)
eight_words [] a b c d e f g h is = absurd (omega arith)
eight_words (s ∷ []) a b c d e f g h is = absurd (omega arith)
eight_words (s ∷ t ∷ []) a b c d e f g h is = absurd (omega arith)
eight_words (s ∷ t ∷ u ∷ []) a b c d e f g h is = absurd (omega arith)
eight_words (s ∷ t ∷ u ∷ v ∷ []) a b c d e f g h is = absurd (omega arith)
eight_words (s ∷ t ∷ u ∷ v ∷ w ∷ []) a b c d e f g h is = absurd (omega arith)
eight_words (s ∷ t ∷ u ∷ v ∷ w ∷ x ∷ []) a b c d e f g h is = absurd (omega arith)
eight_words (s ∷ t ∷ u ∷ v ∷ w ∷ x ∷ y ∷ []) a b c d e f g h is = absurd (omega arith)

-- no other number of words is one
pub other_words : (words : List (List ℕ)) → (length words ≡ 8 → ⊥) → complex_with words ≡ None
other_words (s ∷ t ∷ u ∷ v ∷ w ∷ x ∷ y ∷ z ∷ []) not_eight = absurd (not_eight refl)
other_words (s ∷ t ∷ u ∷ v ∷ w ∷ x ∷ y ∷ z ∷ more ∷ words) not_eight = refl
other_words [] not_eight = refl
other_words (s ∷ []) not_eight = refl
other_words (s ∷ t ∷ []) not_eight = refl
other_words (s ∷ t ∷ u ∷ []) not_eight = refl
other_words (s ∷ t ∷ u ∷ v ∷ []) not_eight = refl
other_words (s ∷ t ∷ u ∷ v ∷ w ∷ []) not_eight = refl
other_words (s ∷ t ∷ u ∷ v ∷ w ∷ x ∷ []) not_eight = refl
other_words (s ∷ t ∷ u ∷ v ∷ w ∷ x ∷ y ∷ []) not_eight = refl

-- eight words that were copied are a complex
pub copied_words : (words : List (List ℕ)) (a b c d e f g h name shortcut kind relop requestable consumable fallback urgency : List ℕ) → length words ≡ 8
    → name ≡ a → shortcut ≡ b → kind ≡ c → relop ≡ d → requestable ≡ e → consumable ≡ f → fallback ≡ g → urgency ≡ h
    → a ≡ get_or words 0 a → b ≡ get_or words 1 b → c ≡ get_or words 2 c → d ≡ get_or words 3 d → e ≡ get_or words 4 e
    → f ≡ get_or words 5 f → g ≡ get_or words 6 g → h ≡ get_or words 7 h
    → complex_with words ≡ Some (record {
      name = name;
      shortcut = shortcut;
      kind = kind;
      relop = relop;
      requestable = requestable;
      consumable = consumable;
      fallback = fallback;
      urgency = urgency;
    })
copied_words words a b c d e f g h _ _ _ _ _ _ _ _ is n s k r q u l y first second third fourth fifth sixth seventh eighth =
    eight_words words a b c d e f g h is ∙ (λ i. Some (record {
      name = sym (n ∙ first) i;
      shortcut = sym (s ∙ second) i;
      kind = sym (k ∙ third) i;
      relop = sym (r ∙ fourth) i;
      requestable = sym (q ∙ fifth) i;
      consumable = sym (u ∙ sixth) i;
      fallback = sym (l ∙ seventh) i;
      urgency = sym (y ∙ eighth) i;
    }))
