-- Traces of which one has marks of the other in front.
use Rattle.std.proofs.Common.{◌≡◌, ℕ, ◌+◌, ◌-◌, ◌<◌, ◌≤◌, Bool, true, false, List, [], ◌∷◌, ◌++◌, length, take, drop, refl, ap, ◌∙◌, sym, subst, append_assoc, arith}
use Rattle.std.specs.Option.{option_to_list}
use Rattle.std.proofs.lemmas.List.{length-append, append-nil, append_cancel_left, take-append-drop, take-append-le}
use Rattle.std.proofs.Math.Seq.{take-append-add}
use Rattle.std.proofs.lemmas.Bool.Decides.{nat_tests}
use Rattle.std.specs.Prelude.{nat_le}
use Rattle.ge_model_rows.specs.ClusterRows.{Cluster}
use Rattle.ge_model_rows.specs.EntryRows.{Entry}
use Rattle.ge_model_rows.specs.EventRows.{Event, Reply, Planned}
use Rattle.ge_model_core.specs.Render.{rendered}
use Rattle.ge_model_core.specs.Trace.{answer_of, after_entries}
use Rattle.ge_model_program.specs.Traced.{Traced, onto, ends_at, traced}
use Rattle.ge_model_program.specs.Runs.{written_of}
use Rattle.ge_run_laws.specs.Standing.{HasEvents}
use Rattle.ge_run_laws.proofs.Codes.{rendered-some, tells-memory}

some-behind : (r : Reply) (xs : List ℕ) → 0 < length (rendered r ++ xs)
some-behind r xs = omega (arith, length-append (rendered r) xs, rendered-some r)

-- after a reply, no more bytes
same-behind : (r : Reply) (entries : List Entry) (stop : Bool) (d : Cluster) (t u : Traced) → (length (written_of t) ≤ length (written_of u) → t ≡ u)
    → length (written_of (onto (r ∷ []) entries (elim stop [ true ↦ ends_at true d | false ↦ t ]))) ≤ length (written_of (onto (r ∷ []) entries (elim stop [ true ↦ ends_at true d | false ↦ u ])))
    → onto (r ∷ []) entries (elim stop [ true ↦ ends_at true d | false ↦ t ]) ≡ onto (r ∷ []) entries (elim stop [ true ↦ ends_at true d | false ↦ u ])
same-behind r entries true d t u same few = refl
same-behind r entries false d t u same few =
    ap (onto (r ∷ []) entries) (same (omega (arith, few, length-append (rendered r) (written_of t), length-append (rendered r) (written_of u))))

-- bytes behind a reply go on behind it
more-behind : (r : Reply) (entries : List Entry) (stop : Bool) (d : Cluster) (t u : Traced) → (later : List ℕ) × (written_of t ≡ written_of u ++ later)
    → (later : List ℕ) × (written_of (onto (r ∷ []) entries (elim stop [ true ↦ ends_at true d | false ↦ t ])) ≡ written_of (onto (r ∷ []) entries (elim stop [ true ↦ ends_at true d | false ↦ u ])) ++ later)
more-behind r entries true d t u more = ([], sym (append-nil _))
more-behind r entries false d t u more = (more.0, ap (λ bytes. rendered r ++ bytes) more.1 ∙ sym (append_assoc (rendered r) (written_of u) more.0))

-- what is read behind an equal reply
read-behind : (r : Reply) (entries : List Entry) (stop : Bool) (d : Cluster) (t u : Traced) (T : List Bool → Traced) (later : List ℕ) → (written_of t ≡ written_of u ++ later → (more : List Bool) × (t ≡ T more))
    → written_of (onto (r ∷ []) entries (elim stop [ true ↦ ends_at true d | false ↦ t ])) ≡ written_of (onto (r ∷ []) entries (elim stop [ true ↦ ends_at true d | false ↦ u ])) ++ later
    → (more : List Bool) × (onto (r ∷ []) entries (elim stop [ true ↦ ends_at true d | false ↦ t ]) ≡ onto (r ∷ []) entries (elim stop [ true ↦ ends_at true d | false ↦ T more ]))
read-behind r entries true d t u T later read is = ([], refl)
read-behind r entries false d t u T later read is =
    let more = read (append_cancel_left (rendered r) (written_of t) (written_of u ++ later) (is ∙ append_assoc (rendered r) (written_of u) later)) in (more.0, ap (onto (r ∷ []) entries) more.1)

module _ (plan : Cluster → Event → Planned) where
  abbrev pub written : Cluster → List Event → List Bool → List ℕ
  written c events marks = written_of (traced plan c events marks)

  wrote-some : (c : Cluster) (e : Event) (events : List Event) (m : Bool) (marks : List Bool) → 0 < length (written c (e ∷ events) (m ∷ marks))
  wrote-some c e events m marks = some-behind (answer_of plan c e m).reply _

  -- marks that add no byte change nothing
  pub no-more : (c : Cluster) (events : List Event) (marks more : List Bool) → length (written c events (marks ++ more)) ≤ length (written c events marks)
      → traced plan c events (marks ++ more) ≡ traced plan c events marks
  no-more c [] [] [] few = refl
  no-more c [] [] (m ∷ more) few = refl
  no-more c [] (m ∷ marks) more few = refl
  no-more c (e ∷ events) [] [] few = refl
  no-more c (e ∷ events) [] (m ∷ more) few = absurd (omega (arith, few, wrote-some c e events m more))
  no-more c (e ∷ events) (m ∷ marks) more few =
      let p = answer_of plan c e m in
      let d = after_entries c p.entry in
      same-behind p.reply (option_to_list p.entry) p.stop d (traced plan d events (marks ++ more)) (traced plan d events marks) (no-more d events marks more) few

  -- more marks write more behind
  pub goes-on : (c : Cluster) (events : List Event) (marks more : List Bool) → (later : List ℕ) × (written c events (marks ++ more) ≡ written c events marks ++ later)
  goes-on c [] [] [] = ([], refl)
  goes-on c [] [] (m ∷ more) = ([], refl)
  goes-on c [] (m ∷ marks) more = ([], refl)
  goes-on c (e ∷ events) [] more = (written c (e ∷ events) more, refl)
  goes-on c (e ∷ events) (m ∷ marks) more =
      let p = answer_of plan c e m in
      let d = after_entries c p.entry in
      more-behind p.reply (option_to_list p.entry) p.stop d (traced plan d events (marks ++ more)) (traced plan d events marks) (goes-on d events marks more)

  module _ (start : Cluster) (events : List Event) where
    -- the first of all marks
    pub has-first : (k : ℕ) (marks : List Bool) → HasEvents plan start events (take k marks) (traced plan start events marks).cluster
    has-first k marks = (drop k marks, ap (λ (ms : List Bool). (traced plan start events ms).cluster) (sym (take-append-drop k marks)))

    has-all : (marks more : List Bool) → length (written start events (marks ++ more)) ≤ length (written start events marks) → HasEvents plan start events (marks ++ more) (traced plan start events marks).cluster
    has-all marks more few = ([], ap (λ (t : Traced). t.cluster) (sym (no-more start events marks more few)) ∙ ap (λ (ms : List Bool). (traced plan start events ms).cluster) (sym (append-nil (marks ++ more))))

    -- The first of marks that were taken up, where those that were answered write the replies to them.
    pub has-front : (k : ℕ) (marks more : List Bool) (later : List ℕ) → written start events marks ≡ written start events (take k (marks ++ more)) ++ later
        → HasEvents plan start events (take k (marks ++ more)) (traced plan start events marks).cluster
    has-front k marks more later is = by (nat_le k (length marks)) refl
      where
        few : length (written start events (take k (marks ++ more))) ≤ length (written start events marks)
        few = omega (arith, ap length is, length-append (written start events (take k (marks ++ more))) later)

        by : (t : Bool) → nat_le k (length marks) ≡ t → HasEvents plan start events (take k (marks ++ more)) (traced plan start events marks).cluster
        by true within = subst (λ (ms : List Bool). HasEvents plan start events ms (traced plan start events marks).cluster)
            (sym (take-append-le k marks more (grind (arith, nat_tests, within)))) (has-first k marks)
        by false beyond =
            let count : length marks + (k - length marks) ≡ k = grind (arith, nat_tests, beyond) in
            let front : marks ++ take (k - length marks) more ≡ take k (marks ++ more) = sym (take-append-add marks more (k - length marks)) ∙ ap (λ (n : ℕ). take n (marks ++ more)) count in
            subst (λ (ms : List Bool). HasEvents plan start events ms (traced plan start events marks).cluster) front
            (has-all marks (take (k - length marks) more) (omega (arith, few, ap (λ (ms : List Bool). length (written start events ms)) front)))

  -- A plan never answers as want of memory is answered.
  module _ (tells : (c : Cluster) (e : Event) → (plan c e).reply.code ≡ 99 → ⊥) where
    same-mark : (c : Cluster) (e : Event) (m s : Bool) (xs ys : List ℕ) → rendered (answer_of plan c e m).reply ++ xs ≡ rendered (answer_of plan c e s).reply ++ ys → m ≡ s
    same-mark c e true true xs ys is = refl
    same-mark c e false false xs ys is = refl
    same-mark c e true false xs ys is = absurd (tells c e (tells-memory (plan c e).reply xs ys is))
    same-mark c e false true xs ys is = absurd (tells c e (tells-memory (plan c e).reply ys xs (sym is)))

    -- who reads the replies by marks reads them by those of the run
    pub read-on : (c : Cluster) (events : List Event) (seen marks : List Bool) (later : List ℕ) → written c events marks ≡ written c events seen ++ later
        → (more : List Bool) × (traced plan c events marks ≡ traced plan c events (seen ++ more))
    read-on c [] [] [] later is = ([], refl)
    read-on c [] [] (m ∷ marks) later is = ([], refl)
    read-on c (e ∷ events) [] marks later is = (marks, refl)
    read-on c [] (s ∷ seen) [] later is = ([], refl)
    read-on c [] (s ∷ seen) (m ∷ marks) later is = ([], refl)
    read-on c (e ∷ events) (s ∷ seen) [] later is = absurd (omega (arith, ap length is, length-append (written c (e ∷ events) (s ∷ seen)) later, wrote-some c e events s seen))
    read-on c (e ∷ events) (s ∷ seen) (m ∷ marks) later is =
        let p = answer_of plan c e s in
        let d = after_entries c p.entry in
        subst (λ (m : Bool). written c (e ∷ events) (m ∷ marks) ≡ written c (e ∷ events) (s ∷ seen) ++ later → (more : List Bool) × (traced plan c (e ∷ events) (m ∷ marks) ≡ traced plan c (e ∷ events) (s ∷ (seen ++ more))))
        (sym (same-mark c e m s _ _ (is ∙ append_assoc (rendered p.reply) _ later)))
        (read-behind p.reply (option_to_list p.entry) p.stop d (traced plan d events marks) (traced plan d events seen) (λ more. traced plan d events (seen ++ more)) later (read-on d events seen marks later)) is

    -- so the cluster has the events
    pub has-read : (start : Cluster) (events : List Event) (seen marks : List Bool) (later : List ℕ) → written start events marks ≡ written start events seen ++ later
        → HasEvents plan start events seen (traced plan start events marks).cluster
    has-read start events seen marks later is = let more = read-on start events seen marks later is in (more.0, ap (λ (t : Traced). t.cluster) more.1)
