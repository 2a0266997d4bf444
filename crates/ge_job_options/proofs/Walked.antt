-- A walk over predecessors: what a turn leaves.
use Rattle.std.proofs.Common.{◌≡◌, ℕ, zero, suc, ◌+◌, ◌-◌, ◌≤◌, ◌<◌, ◌==◌, ◌||◌, Bool, true, false, cond, not, List, [], ◌∷◌, ◌++◌, reverse, length, drop, drop-cons, add-one, get_or, refl, sym, ap, subst, ◌∙◌, arith}
use Rattle.std.proofs.lemmas.Bool.{eqb-true}
use Rattle.std.specs.BTreeMap.{is_at}
use Rattle.std.specs.BTreeSet.{BTreeSet, contains}
use Rattle.std.specs.Cmp.{unsigned_ties}
use Rattle.std.specs.List.{list_any}
use Rattle.std.specs.Ordering.{nat_cmp}
use Rattle.std.proofs.lemmas.List.{reverse-append}
use Rattle.ge_model_core.specs.Reaching.{meets, reaches_itself}
use Rattle.ge_model_rows.specs.ClusterRows.{Cluster}
use Rattle.ge_model_rows.specs.EntryRows.{Patch}
use Rattle.ge_job_options.specs.Walking.{Walks}

-- the definition's choice at a number
abbrev pick : Bool → Bool → Bool → Bool → Bool
pick goal met again on = elim goal [ true ↦ true | false ↦ elim met [ true ↦ again | false ↦ on ] ]

meets_next : (next : ℕ → List ℕ) (goal steps : ℕ) (met : List ℕ) (n : ℕ) (more : List ℕ) (g t : Bool) → (n == goal) ≡ g → list_any (λ m. m == n) met ≡ t
    → meets next goal (suc steps) met (n ∷ more) ≡ pick g t (meets next goal steps met more) (meets next goal steps (n ∷ met) (next n ++ more))
meets_next next goal steps met n more g t e f =
    ap (λ (x : Bool). pick x (list_any (λ m. m == n) met) (meets next goal steps met more) (meets next goal steps (n ∷ met) (next n ++ more))) e
    ∙ ap (λ (x : Bool). pick g x (meets next goal steps met more) (meets next goal steps (n ∷ met) (next n ++ more))) f

at_is : (q m : ℕ) → is_at (nat_cmp q) m ≡ (q == m)
at_is q m = sym (unsigned_ties q m)

popped : (stack rest : List ℕ) (n : ℕ) → stack ≡ rest ++ n ∷ [] → reverse stack ≡ n ∷ reverse rest
popped stack rest n is = ap (λ (s : List ℕ). reverse s) is ∙ reverse-append rest (n ∷ [])

negated : (t b c : Bool) → t ≡ not c → t ≡ b → c ≡ not b
negated t true true one two = cc
negated t true false one two = refl
negated t false true one two = refl
negated t false false one two = cc

-- a number that was met
pub walked_again : (next : ℕ → List ℕ) (goal steps : ℕ) (seen kept : BTreeSet ℕ) (stack rest : List ℕ) (n : ℕ) (answer added : Bool) → stack ≡ rest ++ n ∷ [] → 1 ≤ steps → (n == goal) ≡ false
    → added ≡ not (contains nat_cmp seen n) → added ≡ false → ((q : ℕ) → contains nat_cmp kept q ≡ cond (is_at (nat_cmp n) q) true (contains nat_cmp seen q))
    → Walks next goal steps seen stack answer → Walks next goal (steps - 1) kept rest answer
walked_again next goal zero seen kept stack rest n answer added is some away adds old puts w = absurd (omega (arith, some))
walked_again next goal (suc steps) seen kept stack rest n answer added is some away adds old puts w = subst (λ (s : ℕ). Walks next goal s kept rest answer) less (record {
  met = w.met;
  same = λ q. stays q (n == q) refl ∙ w.same q;
  rest = sym (meets_next next goal steps w.met n (reverse rest) false true away (sym (w.same n) ∙ there)) ∙ sym (ap (meets next goal (suc steps) w.met) (popped stack rest n is)) ∙ w.rest;
})
  where
    less : steps ≡ suc steps - 1
    less = omega arith

    there : contains nat_cmp seen n ≡ true
    there = negated added false (contains nat_cmp seen n) adds old

    stays : (q : ℕ) (b : Bool) → (n == q) ≡ b → contains nat_cmp kept q ≡ contains nat_cmp seen q
    stays q true e = puts q ∙ ap (λ (t : Bool). cond t true (contains nat_cmp seen q)) (at_is n q ∙ e) ∙ sym (subst (λ (m : ℕ). contains nat_cmp seen m ≡ true) (eqb-true n q e) there)
    stays q false e = puts q ∙ ap (λ (t : Bool). cond t true (contains nat_cmp seen q)) (at_is n q ∙ e)

-- a number that is new
pub walked_on : (next : ℕ → List ℕ) (goal steps : ℕ) (seen new : BTreeSet ℕ) (stack rest wider : List ℕ) (n : ℕ) (answer added : Bool) → stack ≡ rest ++ n ∷ [] → 1 ≤ steps → (n == goal) ≡ false
    → added ≡ not (contains nat_cmp seen n) → added ≡ true → ((q : ℕ) → contains nat_cmp new q ≡ cond (is_at (nat_cmp n) q) true (contains nat_cmp seen q)) → reverse wider ≡ next n ++ reverse rest
    → Walks next goal steps seen stack answer → Walks next goal (steps - 1) new wider answer
walked_on next goal zero seen new stack rest wider n answer added is some away adds fresh puts wide w = absurd (omega (arith, some))
walked_on next goal (suc steps) seen new stack rest wider n answer added is some away adds fresh puts wide w = subst (λ (s : ℕ). Walks next goal s new wider answer) less (record {
  met = n ∷ w.met;
  same = λ q. puts q ∙ ap (λ (t : Bool). cond t true (contains nat_cmp seen q)) (at_is n q) ∙ ap (λ (t : Bool). cond (n == q) true t) (w.same q) ∙ either (n == q) (list_any (λ m. m == q) w.met);
  rest = ap (meets next goal steps (n ∷ w.met)) wide
      ∙ sym (meets_next next goal steps w.met n (reverse rest) false false away (sym (w.same n) ∙ negated added true (contains nat_cmp seen n) adds fresh))
      ∙ sym (ap (meets next goal (suc steps) w.met) (popped stack rest n is)) ∙ w.rest;
})
  where
    less : steps ≡ suc steps - 1
    less = omega arith

    either : (x y : Bool) → cond x true y ≡ (x || y)
    either true y = refl
    either false y = refl

-- whether any of some jobs reaches itself, one by one
module _ (c : Cluster) (patches : List (ℕ × Patch)) (i : ℕ) (item : ℕ × Patch) (t : Bool) (lt : i < length patches) (at : item ≡ get_or patches i item) where
  here_and_behind : (made : List (ℕ × Patch)) (b : Bool) → t ≡ reaches_itself c made item.0 → t ≡ b
      → list_any (λ p. reaches_itself c made p.0) (drop i patches) ≡ (b || list_any (λ p. reaches_itself c made p.0) (drop (i + 1) patches))
  here_and_behind made b is test =
      let e : drop i patches ≡ get_or patches i item ∷ drop (i + 1) patches = rw (add-one, drop-cons patches i item) in
      ap (λ (ps : List (ℕ × Patch)). list_any (λ p. reaches_itself c made p.0) ps) e
      ∙ ap (λ (q : ℕ × Patch). reaches_itself c made q.0 || list_any (λ p. reaches_itself c made p.0) (drop (i + 1) patches)) (sym at)
      ∙ ap (λ (x : Bool). x || list_any (λ p. reaches_itself c made p.0) (drop (i + 1) patches)) (sym is ∙ test)

  pub any_here : (made : List (ℕ × Patch)) → t ≡ reaches_itself c made item.0 → t ≡ true
      → list_any (λ p. reaches_itself c made p.0) (drop i patches) ≡ list_any (λ p. reaches_itself c made p.0) patches
      → true ≡ list_any (λ p. reaches_itself c made p.0) patches
  any_here made is test so_far = sym (here_and_behind made true is test) ∙ so_far

  pub any_next : (made : List (ℕ × Patch)) → t ≡ reaches_itself c made item.0 → t ≡ false
      → list_any (λ p. reaches_itself c made p.0) (drop i patches) ≡ list_any (λ p. reaches_itself c made p.0) patches
      → list_any (λ p. reaches_itself c made p.0) (drop (i + 1) patches) ≡ list_any (λ p. reaches_itself c made p.0) patches
  any_next made is test so_far = sym (here_and_behind made false is test) ∙ so_far
