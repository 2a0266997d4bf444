-- What is taken at each instance, after more is taken at one.
use Rattle.std.proofs.Common.{◌≡◌, ℕ, ◌+◌, refl, sym, ap, ◌∙◌, true≢false, arith, min}
use Rattle.std.specs.Prelude.{Bool, true, false, ◌&&◌, cond, List, Option, Some, unwrap_or, refl as same}
use Rattle.std.specs.BTreeMap.{is_at}
use Rattle.std.specs.Map.{lookup}
use Rattle.std.specs.Ordering.{is_eq, ordering_then}
use Rattle.std.specs.declared.cmp.Ordering.{Ordering}
use Rattle.std.specs.declared.cmp.Ordering.TheVariants.{Less, Equal, Greater}
use Rattle.std.specs.Cmp.Lexicographic.{texts_ties}
use Rattle.std.proofs.lemmas.Map.Lookups.{exact_bytes}
use Rattle.ge_base.specs.Fixed.{cut_sum}
use Rattle.ge_collections.specs.Keyed.{text_cmp}
use Rattle.ge_model_place.specs.Bookings.{greatest_sum, same_instance}
use Rattle.ge_model_rows.specs.HostRows.{InstanceId}
use Rattle.ge_listing.specs.Taken.{instance_cmp, slots_taken}

equal : (o : Ordering) → is_eq o ≡ true → o ≡ Equal
equal Less e = absurd (true≢false (sym e))
equal Equal e = refl
equal Greater e = absurd (true≢false (sym e))

both : (x y : Ordering) → is_eq (ordering_then x y) ≡ (is_eq x && is_eq y)
both Less y = refl
both Equal y = refl
both Greater y = refl

first : (x y : Ordering) → is_eq (ordering_then x y) ≡ true → x ≡ Equal
first Less y e = absurd (true≢false (sym e))
first Equal y e = refl
first Greater y e = absurd (true≢false (sym e))

second : (x y : Ordering) → is_eq (ordering_then x y) ≡ true → y ≡ Equal
second Less y e = absurd (true≢false (sym e))
second Equal y e = equal y e
second Greater y e = absurd (true≢false (sym e))

-- the order and the test of instances are one
same_at : (a b : InstanceId) → is_at (instance_cmp a) b ≡ same_instance a b
same_at a b =
    both (text_cmp a.queue b.queue) (text_cmp a.host b.host)
    ∙ (λ i. sym (texts_ties a.queue b.queue) i && sym (texts_ties a.host b.host) i)

exact : (a b : InstanceId) → is_at (instance_cmp a) b ≡ true → a ≡ b
exact a b e =
    let queues = text_cmp a.queue b.queue in
    let hosts = text_cmp a.host b.host in
    λ i. record { queue = exact_bytes a.queue b.queue (first queues hosts e) i; host = exact_bytes a.host b.host (second queues hosts e) i }

cut_once : (x most : ℕ) → min (min x most) most ≡ min x most
cut_once x most = omega arith

-- more slots at one instance
put_key : (old new : List (InstanceId × ℕ)) (at : InstanceId) (slots sum : ℕ) → sum ≡ cut_sum (slots_taken old at) slots
    → ((q : InstanceId) → lookup (is_at (instance_cmp q)) new ≡ cond (is_at (instance_cmp at) q) (Some sum) (lookup (is_at (instance_cmp q)) old))
    → (other : InstanceId) → slots_taken new other ≡ cond (same_instance at other) (cut_sum (slots_taken old other) slots) (slots_taken old other)
put_key old new at slots sum is put other =
    ap (λ (found : Option ℕ). min (unwrap_or found 0) greatest_sum) (put other) ∙ by (is_at (instance_cmp at) other) same
    ∙ ap (λ (b : Bool). cond b (cut_sum (slots_taken old other) slots) (slots_taken old other)) (same_at at other)
  where
    by : (b : Bool) → is_at (instance_cmp at) other ≡ b
        → min (unwrap_or (cond b (Some sum) (lookup (is_at (instance_cmp other)) old)) 0) greatest_sum ≡ cond b (cut_sum (slots_taken old other) slots) (slots_taken old other)
    by true here =
        ap (λ (n : ℕ). min n greatest_sum) is ∙ cut_once (slots_taken old at + slots) greatest_sum ∙ ap (λ (a : InstanceId). cut_sum (slots_taken old a) slots) (exact at other here)
    by false apart = refl

pub put_taken : (old new : List (InstanceId × ℕ)) (key at : InstanceId) (slots sum : ℕ) → key ≡ at → sum ≡ cut_sum (slots_taken old at) slots
    → ((q : InstanceId) → lookup (is_at (instance_cmp q)) new ≡ cond (is_at (instance_cmp key) q) (Some sum) (lookup (is_at (instance_cmp q)) old))
    → (other : InstanceId) → slots_taken new other ≡ cond (same_instance at other) (cut_sum (slots_taken old other) slots) (slots_taken old other)
put_taken old new key at slots sum copy is put =
    put_key old new at slots sum is (λ q. put q ∙ ap (λ (k : InstanceId). cond (is_at (instance_cmp k) q) (Some sum) (lookup (is_at (instance_cmp q)) old)) copy)
