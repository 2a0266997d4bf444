-- How much of the script that is made up from a number is written.
use Rattle.std.proofs.Common.{◌≡◌, ℕ, List, [], ◌++◌, Option, Some, None, ap, ◌∙◌, sym, subst, append_assoc, append-nil, arith}
use Rattle.ge_outside.specs.Streams.{Gains, GainsPrefix, Gains-append}
use Rattle.ge_model_grammar.specs.Generated.{generated_requests, script_of_requests, generated_script}
use Rattle.ge_script.specs.Left.{IsNext}
use Rattle.ge_top.proofs.Held.{Gains-nothing, front-longer, front-behind}

-- what is written, and the requests that are left, are the whole script
pub record HasWritten (old now : Option (List ℕ)) (left : List (List ℕ)) (number : ℕ) : Type 0 where
  pub done : List ℕ
  pub gained : Gains old now done
  pub whole : done ++ script_of_requests left ≡ generated_script number

pub written-none : (old : Option (List ℕ)) (left : List (List ℕ)) (number : ℕ) → left ≡ generated_requests number → HasWritten old old left number
written-none old left number is = record { done = []; gained = Gains-nothing old; whole = ap script_of_requests is }

pub written-more : (old now after : Option (List ℕ)) (left next : List (List ℕ)) (number : ℕ) (request : List ℕ) → HasWritten old now left number → IsNext left next (Some request)
    → Gains now after request → HasWritten old after next number
written-more old now after left next number request so_far is gains = record {
  done = so_far.done ++ request;
  gained = Gains-append old now after so_far.done request so_far.gained gains;
  whole = append_assoc so_far.done request (script_of_requests next) ∙ ap (λ z. so_far.done ++ script_of_requests z) (sym is) ∙ so_far.whole;
}

pub written-all : (old now : Option (List ℕ)) (left next : List (List ℕ)) (number : ℕ) → HasWritten old now left number → IsNext left next None
    → Gains old now (generated_script number)
written-all old now left next number so_far is =
    let all : so_far.done ≡ generated_script number =
    sym (append-nil so_far.done) ∙ ap (λ z. so_far.done ++ script_of_requests z) (sym is.0) ∙ so_far.whole in
    subst (λ z. Gains old now z) all so_far.gained

-- a front of the request that follows is written too
front-of : (old now after : Option (List ℕ)) (number : ℕ) (done request behind : List ℕ) → Gains old now done → done ++ (request ++ behind) ≡ generated_script number
    → GainsPrefix now after request → GainsPrefix old after (generated_script number)
front-of old now after number done request behind gained whole gains =
    subst (λ z. GainsPrefix old after z) whole (front-behind old now after done (request ++ behind) gained (front-longer now after request behind gains))

pub written-cut : (old now after : Option (List ℕ)) (left next : List (List ℕ)) (number : ℕ) (request : List ℕ) → HasWritten old now left number → IsNext left next (Some request)
    → GainsPrefix now after request → GainsPrefix old after (generated_script number)
written-cut old now after left next number request so_far is gains =
    front-of old now after number so_far.done request (script_of_requests next) so_far.gained
    (ap (λ z. so_far.done ++ script_of_requests z) (sym is) ∙ so_far.whole) gains

pub written-front : (old now : Option (List ℕ)) (left : List (List ℕ)) (number : ℕ) → HasWritten old now left number → GainsPrefix old now (generated_script number)
written-front old now left number so_far =
    front-of old now now number so_far.done [] (script_of_requests left) so_far.gained so_far.whole (0, omega arith, Gains-nothing now)
