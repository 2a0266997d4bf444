-- Patches by the numbers of their jobs: the first of a number stays.
use Rattle.std.proofs.Common.{◌≡◌, ℕ, ◌+◌, ◌<◌, ◌==◌, Bool, true, false, cond, not, List, ◌∷◌, length, get_or, drop, drop-cons, add-one, Option, Some, None, is_some, refl, sym, ap, subst, ◌∙◌, Bor}
use Rattle.std.proofs.lemmas.Bool.{eqb-true}
use Rattle.std.specs.BTreeMap.{is_at}
use Rattle.std.specs.Cmp.{unsigned_ties, nat_eq_equiv}
use Rattle.std.specs.Map.{lookup}
use Rattle.std.specs.Option.{option_map, option_or}
use Rattle.std.specs.Ordering.{nat_cmp}
use Rattle.ge_model_rows.specs.EntryRows.{Patch}
use Rattle.ge_job_options.specs.Walking.{at_lent, LendsOne}

abbrev Lent : Type 0
Lent = List (ℕ × Bor Patch)

abbrev Patches : Type 0
Patches = List (ℕ × Patch)

abbrev find : ℕ → Lent → Option (Bor Patch)
find q found = lookup (is_at (nat_cmp q)) found

abbrev shown : Option (Bor Patch) → Option Patch
shown o = option_map (λ (p : Bor Patch). p.now) o

at_is : (q m : ℕ) → is_at (nat_cmp q) m ≡ (q == m)
at_is q m = sym (unsigned_ties q m)

either_way : (q n : ℕ) → is_at (nat_cmp q) n ≡ (n == q)
either_way q n = at_is q n ∙ nat_eq_equiv.symm q n

or_none : (o : Option Patch) → o ≡ option_or o None
or_none None = refl
or_none (Some p) = refl

-- a number that has none yet
pub lent_one : (old new : Lent) (n : ℕ) (p : Bor Patch) → not (is_some (find n old)) ≡ true → ((q : ℕ) → find q new ≡ cond (is_at (nat_cmp n) q) (Some p) (find q old)) → LendsOne old new n p.now
lent_one old new n p free put q = by (n == q) refl
  where
    none : (o : Option (Bor Patch)) → not (is_some o) ≡ true → o ≡ None
    none None e = refl
    none (Some x) e = cc

    by : (b : Bool) → (n == q) ≡ b → at_lent q new ≡ option_or (at_lent q old) (cond (is_at (nat_cmp q) n) (Some p.now) None)
    by true is =
        ap shown (put q ∙ ap (λ (b : Bool). cond b (Some p) (find q old)) (at_is n q ∙ is))
        ∙ sym (ap (λ (o : Option (Bor Patch)). option_or (shown o) (cond (is_at (nat_cmp q) n) (Some p.now) None)) (subst (λ (m : ℕ). find m old ≡ None) (eqb-true n q is) (none (find n old) free))
        ∙ ap (λ (b : Bool). cond b (Some p.now) None) (either_way q n ∙ is))
    by false is =
        ap shown (put q ∙ ap (λ (b : Bool). cond b (Some p) (find q old)) (at_is n q ∙ is))
        ∙ or_none (at_lent q old) ∙ sym (ap (λ (b : Bool). option_or (at_lent q old) (cond b (Some p.now) None)) (either_way q n ∙ is))

-- one that has
pub stays_one : (old : Lent) (n : ℕ) (p : Patch) → not (is_some (find n old)) ≡ false → LendsOne old old n p
stays_one old n p has q = by (n == q) refl
  where
    there : (o : Option (Bor Patch)) (more : Option Patch) → not (is_some o) ≡ false → shown o ≡ option_or (shown o) more
    there None more e = cc
    there (Some x) more e = refl

    by : (b : Bool) → (n == q) ≡ b → at_lent q old ≡ option_or (at_lent q old) (cond (is_at (nat_cmp q) n) (Some p) None)
    by true is = there (find q old) _ (subst (λ (m : ℕ). not (is_some (find m old)) ≡ false) (eqb-true n q is) has)
    by false is = or_none (at_lent q old) ∙ sym (ap (λ (b : Bool). option_or (at_lent q old) (cond b (Some p) None)) (either_way q n ∙ is))

-- one patch more of a list
joined : (b : Bool) (o rest : Option Patch) (p : Patch) → option_or (option_or o (cond b (Some p) None)) rest ≡ option_or o (cond b (Some p) rest)
joined true None rest p = refl
joined false None rest p = refl
joined b (Some x) rest p = refl

pub next_lent : (patches : Patches) (i : ℕ) (d : ℕ × Patch) (old new : Lent) → i < length patches → LendsOne old new (get_or patches i d).0 (get_or patches i d).1
    → ((q : ℕ) → option_or (at_lent q old) (lookup (is_at (nat_cmp q)) (drop i patches)) ≡ lookup (is_at (nat_cmp q)) patches)
    → (q : ℕ) → option_or (at_lent q new) (lookup (is_at (nat_cmp q)) (drop (i + 1) patches)) ≡ lookup (is_at (nat_cmp q)) patches
next_lent patches i d old new lt lends so_far q =
    let e : drop i patches ≡ get_or patches i d ∷ drop (i + 1) patches = rw (add-one, drop-cons patches i d) in
    ap (λ (o : Option Patch). option_or o (lookup (is_at (nat_cmp q)) (drop (i + 1) patches))) (lends q)
    ∙ joined (is_at (nat_cmp q) (get_or patches i d).0) (at_lent q old) (lookup (is_at (nat_cmp q)) (drop (i + 1) patches)) (get_or patches i d).1
    ∙ sym (ap (λ (ps : Patches). option_or (at_lent q old) (lookup (is_at (nat_cmp q)) ps)) e) ∙ so_far q
