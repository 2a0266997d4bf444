-- What a trace gives at once is its output and the cluster after it.
use Rattle.std.proofs.Common.{◌≡◌, ℕ, Bool, true, false, List, [], ◌∷◌, ◌++◌, refl, ap, ◌∙◌, sym, flat_map}
use Rattle.std.proofs.lemmas.List.Concat.{flat_map-cons}
use Rattle.ge_model_rows.specs.ClusterRows.{Cluster}
use Rattle.ge_model_rows.specs.EventRows.{Event, Reply, Planned}
use Rattle.ge_model_core.specs.Render.{rendered}
use Rattle.ge_model_core.specs.Trace.{answer_of, after_entries, output, cluster_after}
use Rattle.ge_model_program.specs.Traced.{Traced, ends_at, traced}

then-output : (stop : Bool) (r : Reply) (d : Cluster) (t : Traced) (more : List ℕ) → more ≡ flat_map rendered t.replies
    → rendered r ++ elim stop as (λ s. List ℕ) [ true ↦ [] | false ↦ more ]
    ≡ flat_map rendered (r ∷ (elim stop as (λ s. Traced) [ true ↦ ends_at true d | false ↦ t ]).replies)
then-output true r d t more same = sym (flat_map-cons rendered r [])
then-output false r d t more same = ap (λ xs. rendered r ++ xs) same ∙ sym (flat_map-cons rendered r t.replies)

then-cluster : (stop : Bool) (d e : Cluster) (t : Traced) → e ≡ t.cluster
    → elim stop as (λ s. Cluster) [ true ↦ d | false ↦ e ] ≡ (elim stop as (λ s. Traced) [ true ↦ ends_at true d | false ↦ t ]).cluster
then-cluster true d e t same = refl
then-cluster false d e t same = same

module _ (plan : Cluster → Event → Planned) where
  pub output-traced : (c : Cluster) (events : List Event) (marks : List Bool) → output plan c events marks ≡ flat_map rendered (traced plan c events marks).replies
  output-traced c [] [] = refl
  output-traced c (e ∷ events) [] = refl
  output-traced c [] (mark ∷ marks) = refl
  output-traced c (e ∷ events) (mark ∷ marks) =
      let p : Planned = answer_of plan c e mark in
      then-output p.stop p.reply (after_entries c p.entry) (traced plan (after_entries c p.entry) events marks) (output plan (after_entries c p.entry) events marks)
      (output-traced (after_entries c p.entry) events marks)

  pub cluster-traced : (c : Cluster) (events : List Event) (marks : List Bool) → cluster_after plan c events marks ≡ (traced plan c events marks).cluster
  cluster-traced c [] [] = refl
  cluster-traced c (e ∷ events) [] = refl
  cluster-traced c [] (mark ∷ marks) = refl
  cluster-traced c (e ∷ events) (mark ∷ marks) =
      let p : Planned = answer_of plan c e mark in
      then-cluster p.stop (after_entries c p.entry) (cluster_after plan (after_entries c p.entry) events marks) (traced plan (after_entries c p.entry) events marks)
      (cluster-traced (after_entries c p.entry) events marks)
