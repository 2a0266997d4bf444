-- The jobs of an owner, by the marks of their table: whichever pairs of marks in the owner's range and keys there are, their keys
-- are the numbers of the owner's jobs.
use Rattle.std.proofs.Common.{◌≡◌, ℕ, zero, suc, ◌+◌, ◌<◌, ◌==◌, nat_lt, arith, length, get_or, take, not, ◌&&◌, ◌||◌, Bool, true, false, cond, List, [], ◌∷◌, ◌++◌, map, refl, sym, ap, subst, ◌∙◌}
use Rattle.std.specs.Prelude.{Option, Some, None, filter}
use Rattle.std.specs.Option.{option_map, option_or}
use Rattle.std.specs.Borrow.{Bor}
use Rattle.std.specs.BTreeMap.{is_at}
use Rattle.std.specs.Cmp.{nat_eq_equiv, unsigned_ties}
use Rattle.std.specs.List.{list_any}
use Rattle.std.specs.List.Sorted.{IsStrictlySortedBy}
use Rattle.std.specs.Map.{keys_of, lookup}
use Rattle.std.specs.Ordering.{ordering_then, is_eq, is_le, nat_cmp}
use Rattle.std.specs.declared.cmp.Ordering.{Ordering}
use Rattle.std.specs.declared.cmp.Ordering.TheVariants.{Less, Equal, Greater}
use Rattle.std.proofs.lemmas.Bool.{eqb-true}
use Rattle.std.proofs.lemmas.Cmp.{alike_right, eq_by_cmp_equiv, nat_cmp_total, tied_itself}
use Rattle.std.proofs.lemmas.List.Folds.{list_any_more}
use Rattle.std.proofs.lemmas.Map.Entries.{lookup-filter-values, option_filter}
use Rattle.std.proofs.lemmas.Map.Keys.{IsDistinct-from_sorted}
use Rattle.std.proofs.lemmas.Map.Lookups.{exact_unsigned, map_keys}
use Rattle.std.proofs.lemmas.Map.Made.{lookup-map_values}
use Rattle.ge_job_index.specs.Asked.{bears, has_pair, is_between}
use Rattle.ge_collections.specs.Keyed.{at_number, text_cmp, text_eq}
use Rattle.ge_job_index.proofs.Alike.{read_alike}
use Rattle.ge_job_index.proofs.Gathered.{keys_rise}
use Rattle.ge_model_jobs.proofs.BorneMarks.{of_owner}
use Rattle.ge_rows.specs.declared.jobs.Job.{Job}
use Rattle.ge_rows.specs.declared.marks.JobMark.{JobMark}
use Rattle.ge_rows.specs.declared.marks.MarkSort.TheVariants as sort
use Rattle.ge_rows.specs.Marks.{mark_of, job_marks}
use Rattle.ge_rows.specs.contracts.marks.JobMarkOrd.TheImpl as order
use Rattle.ge_rows.specs.contracts.marks.JobMarkOrd.TheImpl.Laws.{total-law}
use Rattle.ge_job_options.specs.Holding.{at_name, name_at, is_keyed, PutsName, named_shown, jobs_of_owner}

or_first : (a b : Bool) → a ≡ true → (a || b) ≡ true
or_first a b h = ap (λ t. t || b) h

or_later : (a b : Bool) → b ≡ true → (a || b) ≡ true
or_later true b h = refl
or_later false b h = h

and_first : (a b : Bool) → (a && b) ≡ true → a ≡ true
and_first true b h = refl
and_first false b h = h

and_second : (a b : Bool) → (a && b) ≡ true → b ≡ true
and_second true b h = h
and_second false b h = cc

both_ways : (a b : Bool) → (a ≡ true → b ≡ true) → (b ≡ true → a ≡ true) → a ≡ b
both_ways true b there back = sym (there refl)
both_ways false true there back = back refl
both_ways false false there back = refl

-- a text is the only one from it on and below it with a byte 0
only_itself : (w o : List ℕ) → (is_le (text_cmp w o) && not (is_le (text_cmp (w ++ 0 ∷ []) o))) ≡ text_eq w o
only_itself [] [] = refl
only_itself [] (zero ∷ []) = refl
only_itself [] (zero ∷ c ∷ o) = refl
only_itself [] (suc b ∷ o) = ap (λ c. not (is_le (ordering_then c (text_cmp [] o)))) (ap (λ t. cond t Less (cond (0 == suc b) Equal Greater)) above)
  where
    above : nat_lt 0 (suc b) ≡ true
    above = grind arith
only_itself (a ∷ w) [] = refl
only_itself (a ∷ w) (b ∷ o) = by (nat_cmp a b) (only_itself w o) ∙ ap (λ t. t && text_eq w o) (sym (unsigned_ties a b))
  where
    by : (c : Ordering) → (is_le (text_cmp w o) && not (is_le (text_cmp (w ++ 0 ∷ []) o))) ≡ text_eq w o
        → (is_le (ordering_then c (text_cmp w o)) && not (is_le (ordering_then c (text_cmp (w ++ 0 ∷ []) o)))) ≡ (is_eq c && text_eq w o)
    by Less rest = refl
    by Equal rest = rest
    by Greater rest = refl

module _ (owner : List ℕ) where
  -- whether a mark is in the range of the owner
  abbrev in_range : JobMark → Bool
  in_range mark = is_between order.ghosts.cmp (mark_of sort.Owner owner [] 0) (mark_of sort.Owner (owner ++ 0 ∷ []) [] 0) mark

  in_owner : (o n : List ℕ) → in_range (mark_of sort.Owner o n 0) ≡ text_eq owner o
  in_owner o n = (λ i. kept (text_cmp owner o) n i && not (kept (text_cmp (owner ++ 0 ∷ []) o) n i)) ∙ only_itself owner o
    where
      kept : (c : Ordering) (n : List ℕ) → is_le (ordering_then c (text_cmp [] n)) ≡ is_le c
      kept Less n = refl
      kept Equal [] = refl
      kept Equal (b ∷ n) = refl
      kept Greater n = refl

  -- a job bears a mark in the range exactly where it is the owner's
  job_in_range : (job : Job) → list_any in_range (job_marks job) ≡ text_eq owner job.owner
  job_in_range job =
      of_owner in_range (record {
        runs = λ name other n. refl;
        queue = λ name other n. refl;
        host = λ name other n. refl;
        project = λ name other n. refl;
        pe = λ name other n. refl;
        attribute = λ name other n. refl;
      }) (λ name other n. refl) (λ name other n. refl) job
      ∙ in_owner job.owner job.name

  -- a mark that compares as one in the range is in it
  carried : (m : JobMark) (xs : List JobMark) → in_range m ≡ true → list_any (is_at (order.ghosts.cmp m)) xs ≡ true → list_any in_range xs ≡ true
  carried m [] inside has = has
  carried m (x ∷ xs) inside has = by (is_at (order.ghosts.cmp m) x) refl (carried m xs inside) has
    where
      equal : (c : Ordering) → is_eq c ≡ true → c ≡ Equal
      equal Less h = cc
      equal Equal h = refl
      equal Greater h = cc

      same : order.ghosts.cmp m x ≡ Equal → in_range m ≡ in_range x
      same at =
          (λ i. is_le (alike_right total-law m x (mark_of sort.Owner owner [] 0) at i)
          && not (is_le (alike_right total-law m x (mark_of sort.Owner (owner ++ 0 ∷ []) [] 0) at i)))

      by : (b : Bool) → is_at (order.ghosts.cmp m) x ≡ b → (list_any (is_at (order.ghosts.cmp m)) xs ≡ true → list_any in_range xs ≡ true)
          → (b || list_any (is_at (order.ghosts.cmp m)) xs) ≡ true → list_any in_range (x ∷ xs) ≡ true
      by true at rest has = or_first (in_range x) (list_any in_range xs) (sym (same (equal (order.ghosts.cmp m x) at)) ∙ inside)
      by false at rest has = or_later (in_range x) (list_any in_range xs) (rest has)

  -- whether a job that may not be there is the owner's
  abbrev owned : Option Job → Bool
  owned None = false
  owned (Some job) = text_eq owner job.owner

  abbrev borne : JobMark → Option Job → Bool
  borne mark job = bears order.ghosts.cmp job_marks mark job

  owned_where : (job : Option Job) (m : JobMark) → (in_range m && borne m job) ≡ true → owned job ≡ true
  owned_where None m has = and_second (in_range m) false has
  owned_where (Some job) m has =
      sym (job_in_range job) ∙ carried m (job_marks job) (and_first (in_range m) (borne m (Some job)) has) (and_second (in_range m) (borne m (Some job)) has)

  at_itself : (m : JobMark) → is_at (order.ghosts.cmp m) m ≡ true
  at_itself m = ap is_eq (tied_itself total-law m)

  -- whether a mark stands with a number
  abbrev paired : JobMark → ℕ → List (JobMark × ℕ) → Bool
  paired mark q pairs = has_pair nat_cmp order.ghosts.cmp mark q pairs

  some_pair : (q : ℕ) (P : Type 0) (pairs : List (JobMark × ℕ)) → ((m : JobMark) → paired m q pairs ≡ true → P) → is_keyed q pairs ≡ true → P
  some_pair q P [] from has = absurd (never has)
    where
      never : false ≡ true → ⊥
      never h = cc
  some_pair q P (p ∷ pairs) from has =
      by (is_at (nat_cmp q) p.1) refl
      (some_pair q P pairs (λ m there. from m (or_later (is_at (order.ghosts.cmp m) p.0 && is_at (nat_cmp q) p.1) (paired m q pairs) there))) has
    where
      by : (b : Bool) → is_at (nat_cmp q) p.1 ≡ b → (is_keyed q pairs ≡ true → P) → (b || is_keyed q pairs) ≡ true → P
      by true at rest h = from p.0 (or_first (is_at (order.ghosts.cmp p.0) p.0 && is_at (nat_cmp q) p.1) (paired p.0 q pairs) (λ i. at_itself p.0 i && at i))
      by false at rest h = rest h

  pair_keyed : (q : ℕ) (m : JobMark) (pairs : List (JobMark × ℕ)) → paired m q pairs ≡ true → is_keyed q pairs ≡ true
  pair_keyed q m [] has = has
  pair_keyed q m (p ∷ pairs) has = by (is_at (order.ghosts.cmp m) p.0) (is_at (nat_cmp q) p.1) (pair_keyed q m pairs) has
    where
      by : (a b : Bool) → (paired m q pairs ≡ true → is_keyed q pairs ≡ true) → ((a && b) || paired m q pairs) ≡ true → (b || is_keyed q pairs) ≡ true
      by a true rest h = refl
      by true false rest h = rest h
      by false false rest h = rest h

  module _ (pairs : List (JobMark × ℕ)) (jobs : List (ℕ × Job))
      (members : (mark : JobMark) (key : ℕ) → paired mark key pairs ≡ (in_range mark && borne mark (at_number jobs key))) where
    keyed_owned : (q : ℕ) → is_keyed q pairs ≡ owned (at_number jobs q)
    keyed_owned q = both_ways (is_keyed q pairs) (owned (at_number jobs q))
        (some_pair q (owned (at_number jobs q) ≡ true) pairs (λ m has. owned_where (at_number jobs q) m (sym (members m q) ∙ has)))
        (back (at_number jobs q) refl)
      where
        back : (job : Option Job) → at_number jobs q ≡ job → owned job ≡ true → is_keyed q pairs ≡ true
        back None is own = absurd (never own)
          where
            never : false ≡ true → ⊥
            never h = cc
        back (Some job) is own =
            pair_keyed q m pairs (members m q ∙ (λ i. (in_owner job.owner job.name ∙ own) i && borne m (is i)) ∙ or_first _ _ (at_itself m))
          where
            m : JobMark
            m = mark_of sort.Owner job.owner job.name 0

keys_kept : {X Y : Type 0} (f : X → Y) (rows : List (ℕ × X)) → keys_of (map (λ (e : ℕ × X). (e.0, f e.1)) rows) ≡ keys_of rows
keys_kept f [] = refl
keys_kept f (row ∷ rows) = ap (λ (ks : List ℕ). row.0 ∷ ks) (keys_kept f rows)

-- rows in the order of their keys that have the same at each number
same_rows : {X : Type 0} (rows others : List (ℕ × X)) → IsStrictlySortedBy nat_cmp (keys_of rows) → IsStrictlySortedBy nat_cmp (keys_of others)
    → ((q : ℕ) → lookup (is_at (nat_cmp q)) rows ≡ lookup (is_at (nat_cmp q)) others) → rows ≡ others
same_rows {X = X} rows others rise rising same = sym (unread rows) ∙ read_alike nat_cmp_total (λ n. n) exact_unsigned rows others rise rising same ∙ unread others
  where
    unread : (es : List (ℕ × X)) → map_keys (λ n. n) es ≡ es
    unread [] = refl
    unread (e ∷ es) = ap (λ (rs : List (ℕ × X)). e ∷ rs) (unread es)

module _ (owner : List ℕ) where
  abbrev is_own : Job → Bool
  is_own job = text_eq owner job.owner

  -- the name of a job that may not be there, if it is the owner's
  picked : (job : Option Job) → cond (owned owner job) (option_map (λ j. j.name) job) None ≡ option_map (λ j. j.name) (option_filter is_own job)
  picked None = refl
  picked (Some job) = by (is_own job)
    where
      by : (b : Bool) → cond b (Some job.name) None ≡ option_map (λ j. j.name) (cond b (Some job) None)
      by true = refl
      by false = refl

  own_at : (jobs : List (ℕ × Job)) → IsStrictlySortedBy nat_cmp (keys_of jobs) → (q : ℕ)
      → cond (owned owner (at_number jobs q)) (option_map (λ j. j.name) (at_number jobs q)) None ≡ lookup (is_at (nat_cmp q)) (jobs_of_owner jobs owner)
  own_at jobs rising q =
      picked (at_number jobs q)
      ∙ ap (option_map (λ j. j.name)) (sym (lookup-filter-values (eq_by_cmp_equiv nat_cmp_total) is_own q jobs (IsDistinct-from_sorted nat_cmp (keys_of jobs) rising)))
      ∙ sym (lookup-map_values (λ j. j.name) (is_at (nat_cmp q)) (filter (λ job. is_own job.1) jobs))

  own_rise : (jobs : List (ℕ × Job)) → IsStrictlySortedBy nat_cmp (keys_of jobs) → IsStrictlySortedBy nat_cmp (keys_of (jobs_of_owner jobs owner))
  own_rise jobs rising =
      subst (λ (ks : List ℕ). IsStrictlySortedBy nat_cmp ks) (sym (keys_kept (λ j. j.name) (filter (λ job. is_own job.1) jobs)))
      (keys_rise nat_cmp (λ job. is_own job.1) jobs rising)

  -- names at the numbers of pairs, which are all that the owner's range has
  pub jobs_named : (pairs : List (JobMark × ℕ)) (jobs : List (ℕ × Job)) (named : List (ℕ × Bor (List ℕ)))
      → IsStrictlySortedBy nat_cmp (keys_of jobs) → IsStrictlySortedBy nat_cmp (keys_of named)
      → ((mark : JobMark) (key : ℕ) → has_pair nat_cmp order.ghosts.cmp mark key pairs ≡ (in_range owner mark && bears order.ghosts.cmp job_marks mark (at_number jobs key)))
      → ((q : ℕ) → at_name q named ≡ cond (is_keyed q pairs) (name_at jobs q) None)
      → named_shown named ≡ jobs_of_owner jobs owner
  jobs_named pairs jobs named rising rise members names =
      same_rows (named_shown named) (jobs_of_owner jobs owner)
      (subst (λ (ks : List ℕ). IsStrictlySortedBy nat_cmp ks) (sym (keys_kept (λ name. name.now) named)) rise)
      (own_rise jobs rising)
      (λ q. lookup-map_values (λ name. name.now) (is_at (nat_cmp q)) named ∙ names q
      ∙ ap (λ b. cond b (option_map (λ j. j.name) (at_number jobs q)) None) (keyed_owned owner pairs jobs members q)
      ∙ own_at jobs rising q)

-- ---- names by number

abbrev Named : Type 0
Named = List (ℕ × Bor (List ℕ))

abbrev find : ℕ → Named → Option (Bor (List ℕ))
find q named = lookup (is_at (nat_cmp q)) named

abbrev shown : Option (Bor (List ℕ)) → Option (List ℕ)
shown o = option_map (λ (name : Bor (List ℕ)). name.now) o

at_is : (q m : ℕ) → is_at (nat_cmp q) m ≡ (q == m)
at_is q m = sym (unsigned_ties q m)

either_way : (q n : ℕ) → is_at (nat_cmp q) n ≡ is_at (nat_cmp n) q
either_way q n = at_is q n ∙ nat_eq_equiv.symm q n ∙ sym (at_is n q)

-- the name of a job that is there
pub name_put : (jobs : List (ℕ × Job)) (old new : Named) (n : ℕ) (job : Job) (name : Bor (List ℕ)) → at_number jobs n ≡ Some job → name.now ≡ job.name
    → ((q : ℕ) → find q new ≡ cond (is_at (nat_cmp n) q) (Some name) (find q old)) → PutsName jobs old new n
name_put jobs old new n job name there is put q =
    ap shown (put q) ∙ by (is_at (nat_cmp n) q)
    ∙ sym (λ i. option_or (cond (either_way q n i) (option_map (λ j. j.name) (there i)) None) (at_name q old))
  where
    by : (b : Bool) → shown (cond b (Some name) (find q old)) ≡ option_or (cond b (Some job.name) None) (at_name q old)
    by true = ap (λ (t : List ℕ). Some t) is
    by false = refl

-- that of one that isn't
pub name_lacks : (jobs : List (ℕ × Job)) (named : Named) (n : ℕ) → at_number jobs n ≡ None → PutsName jobs named named n
name_lacks jobs named n none q =
    sym (ap (λ (o : Option Job). option_or (cond (is_at (nat_cmp q) n) (option_map (λ j. j.name) o) None) (at_name q named)) none ∙ by (is_at (nat_cmp q) n))
  where
    by : (b : Bool) → option_or (cond b None None) (at_name q named) ≡ at_name q named
    by true = refl
    by false = refl

-- one number more
pub names_more : (jobs : List (ℕ × Job)) (marked : List (JobMark × ℕ)) (i : ℕ) (d : JobMark × ℕ) (old new : Named) → i < length marked
    → PutsName jobs old new (get_or marked i d).1
    → ((q : ℕ) → at_name q old ≡ cond (is_keyed q (take i marked)) (name_at jobs q) None)
    → (q : ℕ) → at_name q new ≡ cond (is_keyed q (take (i + 1) marked)) (name_at jobs q) None
names_more jobs marked i d old new lt puts so_far q =
    puts q ∙ ap (λ (o : Option (List ℕ)). option_or (cond (is_at (nat_cmp q) n) (name_at jobs n) None) o) (so_far q)
    ∙ by (is_at (nat_cmp q) n) (is_keyed q (take i marked)) refl
    ∙ sym (ap (λ b. cond b (name_at jobs q) None) (list_any_more (λ p. is_at (nat_cmp q) p.1) marked i d lt))
  where
    n : ℕ
    n = (get_or marked i d).1

    by : (at known : Bool) → is_at (nat_cmp q) n ≡ at
        → option_or (cond at (name_at jobs n) None) (cond known (name_at jobs q) None) ≡ cond (known || at) (name_at jobs q) None
    by true known is =
        ap (λ m. option_or (name_at jobs m) (cond known (name_at jobs q) None)) (sym (eqb-true q n (sym (at_is q n) ∙ is))) ∙ twice (name_at jobs q) known
      where
        twice : (o : Option (List ℕ)) (known : Bool) → option_or o (cond known o None) ≡ cond (known || true) o None
        twice None true = refl
        twice None false = refl
        twice (Some t) true = refl
        twice (Some t) false = refl
    by false true is = refl
    by false false is = refl
