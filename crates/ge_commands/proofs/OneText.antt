-- Two texts are one exactly where neither comes before the other.
use Rattle.std.proofs.Common.{◌≡◌, ℕ, List, sym}
use Rattle.std.proofs.lemmas.Map.Text.{is_eq-slice_cmp}
use Rattle.std.specs.BTreeMap.{is_at}
use Rattle.std.specs.Cmp.Lexicographic.{pointwise}
use Rattle.std.specs.Prelude.{nat_eq}
use Rattle.ge_collections.specs.Keyed.{text_cmp}

pub one_text : (a b : List ℕ) → pointwise nat_eq a b ≡ is_at (text_cmp a) b
one_text a b = sym (is_eq-slice_cmp a b)
