-- A set of ranks gives the table of instances by rank.
use Rattle.std.proofs.Common.{◌≡◌, refl, ap, sym}
use Rattle.std.specs.Prelude.{List, [], ◌∷◌, refl as same}
use mathlib.Core.Bool.{true≢false}
use Rattle.std.specs.BTreeMap.{insert_entry}
use Rattle.std.specs.BTreeSet.{insert_key}
use Rattle.std.specs.Ordering.{is_eq, is_lt, match_ordering, ordering_then, nat_cmp}
use Rattle.std.specs.declared.cmp.Ordering.{Ordering}
use Rattle.std.specs.declared.cmp.Ordering.TheVariants.{Less, Equal, Greater}
use Rattle.std.proofs.lemmas.Map.Lookups.{exact_bytes}
use Rattle.ge_collections.specs.Keyed.{text_cmp}
use Rattle.ge_model_rows.specs.HostRows.{InstanceId}
use Rattle.ge_model_place.specs.InstanceOrder.{Rank, instance_rank_cmp}
use Rattle.ge_opening.specs.Ranked.{Key, ranked, all_ranked}

-- the order of the set
abbrev pub key_cmp : Key → Key → Ordering
key_cmp a b = instance_rank_cmp (ranked a).0 (ranked b).0

thens : (a b : Ordering) → ordering_then a b ≡ Equal → (a ≡ Equal) × (b ≡ Equal)
thens Less b e = absurd (true≢false (ap is_lt e))
thens Equal b e = (refl, e)
thens Greater b e = absurd (true≢false (ap is_eq (sym e)))

-- ranks that the order doesn't tell apart are of one instance
same_instance : (a b : Key) → key_cmp a b ≡ Equal → a.1.1 ≡ b.1.1
same_instance a b e =
    let x = a.1.1 in
    let y = b.1.1 in
    let names = ordering_then (text_cmp x.queue y.queue) (text_cmp x.host y.host) in
    let first = thens (nat_cmp a.0 b.0) (ordering_then (nat_cmp a.1.0 b.1.0) names) e in
    let second = thens (nat_cmp a.1.0 b.1.0) names first.1 in
    let both = thens (text_cmp x.queue y.queue) (text_cmp x.host y.host) second.1 in
    λ i. record { queue = exact_bytes x.queue y.queue both.0 i; host = exact_bytes x.host y.host both.1 i }

pub ranked_more : (keys : List Key) (key : Key) → all_ranked (insert_key key_cmp keys key) ≡ insert_entry instance_rank_cmp (all_ranked keys) (ranked key).0 (ranked key).1
ranked_more [] key = refl
ranked_more (k ∷ keys) key = by (key_cmp key k) same (ranked_more keys key)
  where
    by : (o : Ordering) → key_cmp key k ≡ o → all_ranked (insert_key key_cmp keys key) ≡ insert_entry instance_rank_cmp (all_ranked keys) (ranked key).0 (ranked key).1
        → all_ranked (match_ordering o (key ∷ k ∷ keys) (k ∷ keys) (k ∷ insert_key key_cmp keys key))
        ≡ match_ordering o (ranked key ∷ all_ranked (k ∷ keys)) (((ranked k).0, key.1.1) ∷ all_ranked keys) (ranked k ∷ insert_entry instance_rank_cmp (all_ranked keys) (ranked key).0 (ranked key).1)
    by Less is later = refl
    by Equal is later = λ i. ((ranked k).0, sym (same_instance key k is) i) ∷ all_ranked keys
    by Greater is later = ap (λ (rows : List (Rank × InstanceId)). ranked k ∷ rows) later
