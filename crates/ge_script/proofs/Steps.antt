-- What a generator has left, step by step.
use Rattle.std.proofs.Common.{◌≡◌, ℕ, zero, suc, ◌+◌, ◌-◌, ◌<◌, ◌≤◌, if◌then◌else◌, List, [], ◌∷◌, ◌++◌, length, drop, Option, Some, None, Bor, ap, ◌∙◌, sym, subst, refl, arith}
use Rattle.std.specs.Prelude.{map, MatchOption, IfSome}
use Rattle.std.specs.Option.{option_copied}
use Rattle.std.proofs.Math.ListN.{get_or}
use Rattle.ge_outside.specs.Draws.{next_state}
use Rattle.ge_model_grammar.specs.Generated.{opening_requests, submit_drawn, submit_request, run_request, end_request, has_run, has_end, state_behind_job, requests_from, generated_requests}

-- nothing is given at first
pub left_first : (number : ℕ) → opening_requests ++ requests_from (number + 1 - 1) 1 number ≡ generated_requests number
unfolding generated_requests
left_first number = let same : number + 1 - 1 ≡ number = omega arith in ap (λ n. opening_requests ++ requests_from n 1 number) same

-- what comes behind a job, from the state behind its draws
abbrev behind_job : ℕ → ℕ → ℕ → List (List ℕ)
behind_job last job state =
    (if has_run job then run_request job ∷ [] else [])
    ++ ((if has_end job then end_request job state ∷ [] else []) ++ requests_from (last - job) (job + 1) (if has_end job then next_state state else state))

-- a job is the next request where it is none past the last
pub job-next : (last job state first second third : ℕ) (request : List ℕ) (later : List (List ℕ)) → job ≤ last
    → first ≡ next_state state → second ≡ next_state first → third ≡ next_state second → request ≡ submit_drawn job first second third
    → later ≡ behind_job last job third → requests_from (last + 1 - job) job state ≡ request ∷ later
unfolding submit_request
job-next last job state first second third request later within one two three is behind =
    let same : last + 1 - job ≡ suc (last - job) = omega arith in
    let second_is : second ≡ next_state (next_state state) = two ∙ ap next_state one in
    let third_is : third ≡ state_behind_job state = three ∙ ap next_state second_is in
    let request_is : request ≡ submit_request job state = is ∙ (λ i. submit_drawn job (one i) (second_is i) (third_is i)) in
    let later_is : later ≡ behind_job last job (state_behind_job state) = behind ∙ ap (behind_job last job) third_is in
    ap (λ n. requests_from n job state) same ∙ (λ i. sym request_is i ∷ sym later_is i)

module _ {B : Type 0} (f : B → List ℕ) where
  drop-none : (xs : List B) (n : ℕ) → length xs ≤ n → drop n (map f xs) ≡ []
  drop-none [] zero past = refl
  drop-none [] (suc n) past = refl
  drop-none (x ∷ xs) zero past = absurd (omega arith)
  drop-none (x ∷ xs) (suc n) past = drop-none xs n (omega arith)

  drop-some : (xs : List B) (n : ℕ) (x : B) → n < length xs → x ≡ get_or xs n x → drop n (map f xs) ≡ f x ∷ drop (suc n) (map f xs)
  drop-some [] n x less is = absurd (omega arith)
  drop-some (y ∷ xs) zero x less is = λ i. f (sym is i) ∷ map f xs
  drop-some (y ∷ xs) (suc n) x less is = drop-some xs n x (omega arith) is

  -- a look-up gives the first of those that are left from there on
  pub left-at : (xs : List B) (all : List (List ℕ)) (n : ℕ) (found : Option (Bor B)) (copied : Option B) (Q : Bor B → Type 0) → map f xs ≡ all → copied ≡ option_copied found
      → IfSome found (λ x. x.now ≡ get_or xs n x.now) → MatchOption found (length xs ≤ n) (λ x. (n < length xs) × Q x)
      → MatchOption copied (drop n all ≡ []) (λ r. drop n all ≡ f r ∷ drop (n + 1) all)
  left-at xs all n None copied Q is same value place =
      subst (λ o. MatchOption o (drop n all ≡ []) (λ r. drop n all ≡ f r ∷ drop (n + 1) all)) (sym same)
      (ap (drop n) (sym is) ∙ drop-none xs n place)
  left-at xs all n (Some x) copied Q is same value place =
      let next : suc n ≡ n + 1 = omega arith in
      subst (λ o. MatchOption o (drop n all ≡ []) (λ r. drop n all ≡ f r ∷ drop (n + 1) all)) (sym same)
      (ap (drop n) (sym is) ∙ drop-some xs n x.now place.0 value ∙ (λ i. f x.now ∷ drop (next i) (is i)))
