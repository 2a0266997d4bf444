-- Options and their words passed over.
use Rattle.std.proofs.Common.{◌≡◌, ℕ, zero, suc, ◌+◌, ◌<◌, Bool, true, false, min, length, List, [], ◌∷◌, ◌++◌, get_or, drop, drop-cons, add-one, Some, refl, sym, ap, ◌∙◌, arith, Bor}
use Rattle.std.proofs.lemmas.List.{drop-drop, drop-map, length-map}
use Rattle.std.specs.Prelude.{codes, Option}
use Rattle.ge_model_grammar.specs.Lines.{begins_with}
use Rattle.ge_model_grammar.specs.Options.{Given}
use Rattle.ge_model_grammar.specs.Shapes.{Shape, words_behind, options_from}
use Rattle.ge_model_grammar.specs.ShapeLaws.{passed_over}
use Rattle.ge_commands.specs.Lent.{texts}

drop_least : {A : Type 0} (n : ℕ) (xs : List A) → drop (min n (length xs)) xs ≡ drop n xs
drop_least zero xs =
    let e : min 0 (length xs) ≡ 0 = omega arith in
    ap (λ m. drop m xs) e
drop_least (suc n) [] =
    let e : min (suc n) 0 ≡ 0 = omega arith in
    ap (λ m. drop m []) e
drop_least (suc n) (x ∷ xs) =
    let e : min (suc n) (length (x ∷ xs)) ≡ suc (min n (length xs)) = omega arith in
    ap (λ m. drop m (x ∷ xs)) e ∙ drop_least n xs

one_option : (known : List Shape) (so_far : Given) (word : List ℕ) (words given : List (List ℕ)) → begins_with (codes "-") word ≡ true → words_behind known word words ≡ Some given
    → options_from known so_far 0 (word ∷ words) ≡ options_from known (so_far ++ (word, given) ∷ []) (length given) words
one_option known so_far word words given begins behind = rw (begins, behind) refl

one_passed : (known : List Shape) (so_far after : Given) (word : List ℕ) (words given rest : List (List ℕ)) → begins_with (codes "-") word ≡ true → words_behind known word words ≡ Some given
    → after ≡ so_far ++ (word, given) ∷ [] → rest ≡ drop (min (length given) (length words)) words
    → options_from known after 0 rest ≡ options_from known so_far 0 (word ∷ words)
one_passed known so_far after word words given rest begins behind is left =
    ap (λ (a : Given). options_from known a 0 rest) is
    ∙ ap (λ (r : List (List ℕ)). options_from known (so_far ++ (word, given) ∷ []) 0 r) (left ∙ drop_least (length given) words)
    ∙ sym (passed_over known (so_far ++ (word, given) ∷ []) (length given) words)
    ∙ sym (one_option known so_far word words given begins behind)

-- the words behind an option and its words
behind_option : (words behind : List (Bor (List ℕ))) (at taken count : ℕ) → behind ≡ drop (at + 1) words → taken ≡ min count (length behind)
    → texts (drop (at + (1 + taken)) words) ≡ drop (min count (length (texts behind))) (texts behind)
behind_option words behind at taken count is_behind is_taken =
    let e : at + (1 + taken) ≡ at + 1 + taken = omega arith in
    ap (λ n. texts (drop n words)) e
    ∙ ap (λ (xs : List (Bor (List ℕ))). texts xs) (sym (drop-drop taken (at + 1) words))
    ∙ ap (λ (xs : List (Bor (List ℕ))). texts (drop taken xs)) (sym is_behind)
    ∙ sym (drop-map (λ (w : Bor (List ℕ)). w.now) taken behind)
    ∙ ap (λ n. drop n (texts behind)) (is_taken ∙ ap (λ n. min count n) (sym (length-map behind (λ (w : Bor (List ℕ)). w.now))))

-- one more option is read at a place among words
pub one_turn : (known : List Shape) (so_far after : Given) (words behind : List (Bor (List ℕ))) (at taken : ℕ) (d : Bor (List ℕ)) (name : List ℕ) (given : List (List ℕ)) (total : Option (Given × List (List ℕ)))
    → at < length words → begins_with (codes "-") (get_or words at d).now ≡ true → behind ≡ drop (at + 1) words
    → words_behind known (get_or words at d).now (texts behind) ≡ Some given → name ≡ (get_or words at d).now → after ≡ so_far ++ (name, given) ∷ []
    → taken ≡ min (length given) (length behind) → options_from known so_far 0 (texts (drop at words)) ≡ total
    → options_from known after 0 (texts (drop (at + (1 + taken)) words)) ≡ total
one_turn known so_far after words behind at taken d name given total lt begins is_behind read is_name is_after is_taken so =
    let front : drop at words ≡ get_or words at d ∷ drop (at + 1) words = rw (add-one, drop-cons words at d) in
    one_passed known so_far after (get_or words at d).now (texts behind) given (texts (drop (at + (1 + taken)) words)) begins read
    (is_after ∙ ap (λ (n : List ℕ). so_far ++ (n, given) ∷ []) is_name)
    (behind_option words behind at taken (length given) is_behind is_taken)
    ∙ ap (λ (xs : List (Bor (List ℕ))). options_from known so_far 0 (texts xs)) (sym (front ∙ ap (λ (b : List (Bor (List ℕ))). get_or words at d ∷ b) (sym is_behind)))
    ∙ so
