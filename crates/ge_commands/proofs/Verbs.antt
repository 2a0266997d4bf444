-- The words that daemons begin their commands with.
use Rattle.std.proofs.Common.{◌≡◌, ℕ, List, [], ◌∷◌, true, refl, subst, sym}
use Rattle.std.proofs.lemmas.Bool.{and_parts, eqb-true}
use Rattle.std.specs.Prelude.{nat_eq, Result, codes}
use Rattle.ge_collections.specs.Keyed.{text_eq}
use Rattle.ge_model_rows.specs.CommandRows.{Command}
use Rattle.ge_model_grammar.specs.Commands.{line_command, load_command, end_command, orders_command, dispatch_command}
use Rattle.ge_pieces.specs.declared.reading.ReadFault.{ReadFault}
use Rattle.ge_pieces.specs.Gives.{Gives}

texts_equal : (a b : List ℕ) → text_eq a b ≡ true → a ≡ b
texts_equal [] [] e = refl
texts_equal [] (y ∷ ys) e = cc
texts_equal (x ∷ xs) [] e = cc
texts_equal (x ∷ xs) (y ∷ ys) e =
    let parts = and_parts (nat_eq x y) (text_eq xs ys) e in
    let head = eqb-true x y parts.0 in
    let rest = texts_equal xs ys parts.1 in
    cc

pub end_first : (result : Result Command ReadFault) (verb : List ℕ) (words : List (List ℕ)) → text_eq verb (codes "end") ≡ true → Gives result (end_command words) → Gives result (line_command verb words)
end_first result verb words is gives = subst (λ (v : List ℕ). Gives result (line_command v words)) (sym (texts_equal verb (codes "end") is)) gives

pub job_first : (result : Result Command ReadFault) (verb : List ℕ) (words : List (List ℕ)) → text_eq verb (codes "job") ≡ true → Gives result (dispatch_command words) → Gives result (line_command verb words)
job_first result verb words is gives = subst (λ (v : List ℕ). Gives result (line_command v words)) (sym (texts_equal verb (codes "job") is)) gives

pub orders_first : (result : Result Command ReadFault) (verb : List ℕ) (words : List (List ℕ)) → text_eq verb (codes "orders") ≡ true → Gives result (orders_command words) → Gives result (line_command verb words)
orders_first result verb words is gives = subst (λ (v : List ℕ). Gives result (line_command v words)) (sym (texts_equal verb (codes "orders") is)) gives

pub load_first : (result : Result Command ReadFault) (verb : List ℕ) (words : List (List ℕ)) → text_eq verb (codes "load") ≡ true → Gives result (load_command words) → Gives result (line_command verb words)
load_first result verb words is gives = subst (λ (v : List ℕ). Gives result (line_command v words)) (sym (texts_equal verb (codes "load") is)) gives
