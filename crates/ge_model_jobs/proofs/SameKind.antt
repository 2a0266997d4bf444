-- Kinds of jobs that compare equal are one kind, and so are those whose short rows have one number for them.
use Rattle.std.proofs.Common.{◌≡◌, ℕ, Bool, true, false, List, [], ◌∷◌, Option, Some, None, IsSome, cond, unwrap_or, refl, sym, subst, ap, ◌∙◌}
use Rattle.std.specs.Prelude.{All}
use Rattle.std.specs.BTreeMap.{is_at}
use Rattle.std.specs.Map.{lookup, values_of}
use Rattle.std.specs.Ordering.{nat_cmp, bool_cmp, ordering_then, is_eq}
use Rattle.std.specs.Option.{option_cmp, option_map}
use Rattle.std.specs.Cmp.Lexicographic.{slice_cmp}
use Rattle.std.specs.declared.cmp.Ordering.{Ordering}
use Rattle.std.specs.declared.cmp.Ordering.TheVariants.{Less, Equal, Greater}
use Rattle.std.proofs.lemmas.List.Elements.{All-head, All-tail}
use Rattle.std.proofs.lemmas.Map.Lookups.{CmpEqualImpliesEq, exact_unsigned, exact_bytes}
use Rattle.ge_collections.specs.Keyed.{at_number, text_cmp}
use Rattle.ge_job_index.specs.Short.{AreShort, IsNumbered, short_of, number_of}
use Rattle.ge_job_index.specs.declared.short_row.ShortRow.{ShortRow}
use Rattle.ge_model_rows.specs.JobRows.{Job, PeRequest}
use Rattle.ge_model_rows.specs.ValueRows.{Value}
use Rattle.ge_rows.specs.declared.values.Value.TheVariants.{Amount, Flag, Word}
use Rattle.ge_rows.specs.declared.jobs.Request.{Request}
use Rattle.ge_rows.specs.declared.labels.JobFacts.{JobFacts}
use Rattle.ge_rows.specs.declared.labels.JobKind.{JobKind}
use Rattle.ge_rows.specs.declared.labels.JobLabel.TheVariants.{Kind}
use Rattle.ge_rows.specs.JobShort.{job_facts, job_kind, job_labels}
use Rattle.ge_rows.specs.contracts.values.ValueOrd.TheImpl.{cmp-value as by_value}
use Rattle.ge_rows.specs.contracts.jobs.PeRequestOrd.TheImpl.{cmp-value as by_pe}
use Rattle.ge_rows.specs.contracts.jobs.RequestOrd.TheImpl.{cmp-value as by_request}
use Rattle.ge_rows.specs.contracts.labels.JobKindOrd.TheImpl.{cmp-value as by_kind}
use Rattle.ge_rows.specs.contracts.labels.JobLabelOrd.TheImpl.{cmp-value as by_label}

both_equal : (o p : Ordering) → ordering_then o p ≡ Equal → (o ≡ Equal) × (p ≡ Equal)
both_equal Less p e = absurd cc
both_equal Equal p e = (refl, e)
both_equal Greater p e = absurd cc

pub equal_at : (o : Ordering) → is_eq o ≡ true → o ≡ Equal
equal_at Less e = absurd cc
equal_at Equal e = refl
equal_at Greater e = absurd cc

exact_lists : {A : Type 0} (R : A → A → Ordering) → CmpEqualImpliesEq R → (xs ys : List A) → slice_cmp R xs ys ≡ Equal → xs ≡ ys
exact_lists R exact [] [] e = refl
exact_lists R exact [] (y ∷ ys) e = absurd cc
exact_lists R exact (x ∷ xs) [] e = absurd cc
exact_lists R exact (x ∷ xs) (y ∷ ys) e =
    let both = both_equal (R x y) (slice_cmp R xs ys) e in
    let first = exact x y both.0 in
    let rest = exact_lists R exact xs ys both.1 in
    λ i. first i ∷ rest i

exact_options : {A : Type 0} (R : A → A → Ordering) → CmpEqualImpliesEq R → (x y : Option A) → option_cmp R x y ≡ Equal → x ≡ y
exact_options R exact None None e = refl
exact_options R exact None (Some y) e = absurd cc
exact_options R exact (Some x) None e = absurd cc
exact_options R exact (Some x) (Some y) e = ap (λ z. Some z) (exact x y e)

exact_flags : (x y : Bool) → bool_cmp x y ≡ Equal → x ≡ y
exact_flags true true e = refl
exact_flags true false e = absurd cc
exact_flags false true e = absurd cc
exact_flags false false e = refl

exact_values : (a b : Value) → by_value.it a b ≡ Equal → a ≡ b
exact_values (Amount n) (Amount m) e = ap (λ k. Amount k) (exact_unsigned n m e)
exact_values (Flag x) (Flag y) e = ap (λ k. Flag k) (exact_flags x y e)
exact_values (Word x) (Word y) e = ap (λ k. Word k) (exact_bytes x y e)
exact_values (Amount n) (Flag y) e = absurd cc
exact_values (Amount n) (Word y) e = absurd cc
exact_values (Flag x) (Amount m) e = absurd cc
exact_values (Flag x) (Word y) e = absurd cc
exact_values (Word x) (Amount m) e = absurd cc
exact_values (Word x) (Flag y) e = absurd cc

exact_pes : (a b : PeRequest) → by_pe.it a b ≡ Equal → a ≡ b
exact_pes a b e =
    let first = both_equal (text_cmp a.name b.name) (ordering_then (nat_cmp a.low b.low) (nat_cmp a.high b.high)) e in
    let rest = both_equal (nat_cmp a.low b.low) (nat_cmp a.high b.high) first.1 in
    let name = exact_bytes a.name b.name first.0 in
    let low = exact_unsigned a.low b.low rest.0 in
    let high = exact_unsigned a.high b.high rest.1 in
    λ i. record { name = name i; low = low i; high = high i }

-- a value under a name
asked_cmp : List ℕ × Value → List ℕ × Value → Ordering
asked_cmp p q = ordering_then (text_cmp p.0 q.0) (by_value.it p.1 q.1)

exact_asked : (p q : List ℕ × Value) → ordering_then (text_cmp p.0 q.0) (by_value.it p.1 q.1) ≡ Equal → p ≡ q
exact_asked p q e =
    let both = both_equal (text_cmp p.0 q.0) (by_value.it p.1 q.1) e in
    let name = exact_bytes p.0 q.0 both.0 in
    let value = exact_values p.1 q.1 both.1 in
    λ i. (name i, value i)

exact_requests : (a b : Request) → by_request.it a b ≡ Equal → a ≡ b
exact_requests a b e =
    let values = slice_cmp (λ (p q : List ℕ × Value). ordering_then (text_cmp p.0 q.0) (by_value.it p.1 q.1)) a.asked b.asked in
    let first = both_equal values (ordering_then (slice_cmp text_cmp a.queues b.queues) (option_cmp by_pe.it a.pe b.pe)) e in
    let rest = both_equal (slice_cmp text_cmp a.queues b.queues) (option_cmp by_pe.it a.pe b.pe) first.1 in
    let asked = exact_lists (λ (p q : List ℕ × Value). ordering_then (text_cmp p.0 q.0) (by_value.it p.1 q.1)) exact_asked a.asked b.asked first.0 in
    let queues = exact_lists text_cmp exact_bytes a.queues b.queues rest.0 in
    let pe = exact_options by_pe.it exact_pes a.pe b.pe rest.1 in
    λ i. record { asked = asked i; queues = queues i; pe = pe i }

exact_kinds : (a b : JobKind) → by_kind.it a b ≡ Equal → a ≡ b
exact_kinds a b e =
    let one = both_equal (text_cmp a.owner b.owner) (ordering_then (text_cmp a.group b.group) (ordering_then (text_cmp a.project b.project) (ordering_then (by_request.it a.request b.request) (nat_cmp a.advance b.advance)))) e in
    let two = both_equal (text_cmp a.group b.group) (ordering_then (text_cmp a.project b.project) (ordering_then (by_request.it a.request b.request) (nat_cmp a.advance b.advance))) one.1 in
    let three = both_equal (text_cmp a.project b.project) (ordering_then (by_request.it a.request b.request) (nat_cmp a.advance b.advance)) two.1 in
    let four = both_equal (by_request.it a.request b.request) (nat_cmp a.advance b.advance) three.1 in
    let owner = exact_bytes a.owner b.owner one.0 in
    let group = exact_bytes a.group b.group two.0 in
    let project = exact_bytes a.project b.project three.0 in
    let request = exact_requests a.request b.request four.0 in
    let advance = exact_unsigned a.advance b.advance four.1 in
    λ i. record { owner = owner i; group = group i; project = project i; request = request i; advance = advance i }

-- two kinds that have one label are one
exact_labels : (a b : JobKind) → by_label.it (Kind a) (Kind b) ≡ Equal → a ≡ b
exact_labels a b e = exact_kinds a b e

-- what holds of all values holds of one that is found
found_among : {K V : Type 0} (P : V → Type 0) (test : K → Bool) (rows : List (K × V)) (v : V) → All P (values_of rows) → lookup test rows ≡ Some v → P v
found_among P test [] v all e = absurd cc
found_among {K} {V} P test (row ∷ rows) v all e =
    here (test row.0) e (λ later. found_among P test rows v (All-tail P row.1 (values_of rows) all) later)
  where
    here : (b : Bool) → cond b (Some row.1) (lookup test rows) ≡ Some v → (lookup test rows ≡ Some v → P v) → P v
    here true is others = let same : row.1 ≡ v = cc in subst P same (All-head P row.1 (values_of rows) all)
    here false is others = others is

unwrapped : (o : Option ℕ) (k : ℕ) → IsSome o → unwrap_or o 0 ≡ k → o ≡ Some k
unwrapped None k some e = absurd cc
unwrapped (Some n) k some e = ap (λ m. Some m) e

-- the number of a job's kind in its short row
abbrev numbered : List (ℕ × ShortRow JobFacts) → ℕ → Option ℕ
numbered rows job = option_map (λ row. row.third) (at_number rows job)

module _ (jobs : List (ℕ × Job)) (rows : List (ℕ × ShortRow JobFacts)) (bound : ℕ) (are : AreShort nat_cmp by_label.it job_labels job_facts rows bound jobs) where
  kind_is : (number kind : ℕ) (job : Job) → at_number jobs number ≡ Some job → numbered rows number ≡ Some kind → are.0 (Kind (job_kind job)) ≡ Some kind
  kind_is number kind job there short =
      let is : at_number rows number ≡ Some (short_of job_labels job_facts are.0 job) = are.1.found number ∙ ap (λ found. option_map (short_of job_labels job_facts are.0) found) there in
      let third : Some (number_of job_labels job_facts are.0 (Kind (job_kind job))) ≡ Some kind = sym (ap (λ row. option_map (λ s. s.third) row) is) ∙ short in
      let same : number_of job_labels job_facts are.0 (Kind (job_kind job)) ≡ kind = cc in
      unwrapped (are.0 (Kind (job_kind job))) kind (found_among (IsNumbered job_labels job_facts are.0) (is_at (nat_cmp number)) jobs job are.1.numbered there).2 same

  -- jobs whose kinds have one number are of one kind
  pub one_kind : (first second kind : ℕ) (a b : Job) → at_number jobs first ≡ Some a → at_number jobs second ≡ Some b → numbered rows first ≡ Some kind → numbered rows second ≡ Some kind → job_kind a ≡ job_kind b
  one_kind first second kind a b is_a is_b one two =
      exact_labels (job_kind a) (job_kind b)
      (equal_at (by_label.it (Kind (job_kind a)) (Kind (job_kind b)))
      (are.1.apart (Kind (job_kind a)) (Kind (job_kind b)) kind (kind_is first kind a is_a one) (kind_is second kind b is_b two)))
