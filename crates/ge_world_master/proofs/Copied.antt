-- Clusters are known by their bytes.
use Rattle.std.proofs.Common.{◌≡◌, ℕ, ◌+◌, true, List, [], ◌∷◌, ◌++◌, length, Ok, refl, ap, sym, ◌∙◌, append-nil, arith}
use Rattle.std.specs.Prelude.{◌&&◌, ◌↔◌, IsTrue}
use Rattle.std.specs.Cmp.Lexicographic.{same_text}
use Rattle.std.proofs.lemmas.Bool.{eq-eqb}
use Rattle.ge_collections.specs.Keyed.{text_eq}
use Rattle.ge_model_rows.specs.ClusterRows.{Cluster}
use Rattle.ge_model_codec.specs.Cluster.{cluster_code}
use Rattle.ge_model_codec.specs.Code.{whole}
use Rattle.ge_model_codec.specs.Reading.{Reading, ReadsWhole}
use Rattle.ge_codec.specs.ClusterLaws.{cluster_canonical}
use Rattle.ge_codec.specs.Places.{prefix_free_from}
use Rattle.ge_snapshot.specs.Whole.{whole_read}

-- two values that are read alike are one
ok_first : (c d : Cluster) (m n : ℕ) → ◌≡◌ {A = Reading Cluster} (Ok (c, m)) (Ok (d, n)) → c ≡ d
ok_first c d m n h = let e : ◌≡◌ {A = Cluster × ℕ} (c, m) (d, n) = cc in ap (λ p. p.0) e

-- the cluster that is read of a cluster's bytes is that one
pub read_same : (c twin : Cluster) (bytes : List ℕ) → IsTrue (cluster_code.fits c) → bytes ≡ cluster_code.write c → ReadsWhole (Ok twin) (whole cluster_code bytes) → twin ≡ c
read_same c twin bytes fits is read =
    let back = cluster_canonical.reads_back bytes 0 c [] fits (is ∙ sym (append-nil (cluster_code.write c))) in
    let last : 0 + length (cluster_code.write c) ≡ length bytes = omega (arith, ap length is) in
    ok_first twin c read.0 (0 + length (cluster_code.write c)) (sym read.1 ∙ whole_read cluster_code bytes c (0 + length (cluster_code.write c)) back last)

text_same : (xs : List ℕ) → text_eq xs xs ≡ true
text_same [] = refl
text_same (x ∷ xs) = λ i. eq-eqb x x refl i && text_same xs i

-- clusters with the same bytes are one
pub same_bytes : (c d : Cluster) (first second : List ℕ) → IsTrue (cluster_code.fits c) → IsTrue (cluster_code.fits d) → first ≡ cluster_code.write c → second ≡ cluster_code.write d
    → IsTrue (text_eq first second) ↔ (c ≡ d)
same_bytes c d first second fits_c fits_d is_c is_d = (
  λ same.
      let texts : first ≡ second = same_text first second (sym same) in
      let bytes : cluster_code.write c ++ [] ≡ cluster_code.write d ++ [] = ap (λ b. b ++ []) (sym is_c ∙ texts ∙ is_d) in
      prefix_free_from cluster_canonical c d [] [] fits_c fits_d bytes,
  λ one. ap (λ b. text_eq b second) (is_c ∙ ap cluster_code.write one ∙ sym is_d) ∙ text_same second,
)
