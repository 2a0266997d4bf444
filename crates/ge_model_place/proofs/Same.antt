-- Limits that pass the test are one.
use Rattle.std.proofs.Common.{◌≡◌, ℕ, true, ◌&&◌, ◌==◌, List, [], ◌∷◌, refl, sym, ap, ◌∙◌}
use Rattle.std.specs.Prelude.{nat_eq}
use Rattle.std.proofs.lemmas.Bool.{and_parts, and_from, eqb-true, eq-eqb, true≢false}
use Rattle.ge_collections.specs.Keyed.{text_eq}
use Rattle.ge_model_rows.specs.HostRows.{InstanceId}
use Rattle.ge_model_rows.specs.ScheduleRows.{LimitId, Instance, Host, Global, Pe, Quota}
use Rattle.ge_model_rows.specs.ScheduleRows.{Advance as Booked, QuotaKey}
use Rattle.ge_model_place.specs.Bookings.{same_instance, same_filters, same_key, same_limit}

-- texts that pass the test are equal, and a text passes it beside itself
pub texts_equal : (a b : List ℕ) → text_eq a b ≡ true → a ≡ b
texts_equal [] [] e = refl
texts_equal [] (y ∷ ys) e = cc
texts_equal (x ∷ xs) [] e = cc
texts_equal (x ∷ xs) (y ∷ ys) e =
    let parts = and_parts (nat_eq x y) (text_eq xs ys) e in
    let head = eqb-true x y parts.0 in
    let rest = texts_equal xs ys parts.1 in
    cc

pub text_same : (a : List ℕ) → text_eq a a ≡ true
text_same [] = refl
text_same (x ∷ xs) = and_from (nat_eq x x) (text_eq xs xs) (eq-eqb x x refl) (text_same xs)

pub instances_equal : (a b : InstanceId) → same_instance a b ≡ true → a ≡ b
instances_equal a b e =
    let parts = and_parts (text_eq a.queue b.queue) (text_eq a.host b.host) e in
    let queue = texts_equal a.queue b.queue parts.0 in
    let host = texts_equal a.host b.host parts.1 in
    λ i. record { queue = queue i; host = host i }

pub instance_same : (a : InstanceId) → same_instance a a ≡ true
instance_same a = and_from (text_eq a.queue a.queue) (text_eq a.host a.host) (text_same a.queue) (text_same a.host)

keys_equal : (a b : QuotaKey) → same_key a b ≡ true → a ≡ b
keys_equal a b e =
    let last = and_parts (text_eq a.set b.set && a.rule == b.rule && same_filters a b) (text_eq a.resource b.resource) e in
    let filters = and_parts (text_eq a.set b.set && a.rule == b.rule) (same_filters a b) last.0 in
    let first = and_parts (text_eq a.set b.set) (a.rule == b.rule) filters.0 in
    let four = and_parts (text_eq a.user b.user && text_eq a.project b.project && text_eq a.pe b.pe && text_eq a.queue b.queue) (text_eq a.host b.host) filters.1 in
    let three = and_parts (text_eq a.user b.user && text_eq a.project b.project && text_eq a.pe b.pe) (text_eq a.queue b.queue) four.0 in
    let two = and_parts (text_eq a.user b.user && text_eq a.project b.project) (text_eq a.pe b.pe) three.0 in
    let one = and_parts (text_eq a.user b.user) (text_eq a.project b.project) two.0 in
    let set = texts_equal a.set b.set first.0 in
    let rule = eqb-true a.rule b.rule first.1 in
    let user = texts_equal a.user b.user one.0 in
    let project = texts_equal a.project b.project one.1 in
    let pe = texts_equal a.pe b.pe two.1 in
    let queue = texts_equal a.queue b.queue three.1 in
    let host = texts_equal a.host b.host four.1 in
    let resource = texts_equal a.resource b.resource last.1 in
    λ i. record { set = set i; rule = rule i; user = user i; project = project i; pe = pe i; queue = queue i; host = host i; resource = resource i }

key_same : (a : QuotaKey) → same_key a a ≡ true
key_same a = simp (text_same, eq-eqb a.rule a.rule refl)

pub limits_equal : (a b : LimitId) → same_limit a b ≡ true → a ≡ b
limits_equal (Instance a name) (Instance b other) e =
    let parts = and_parts (same_instance a b) (text_eq name other) e in ap (λ x. Instance x name) (instances_equal a b parts.0) ∙ ap (λ n. Instance b n) (texts_equal name other parts.1)
limits_equal (Host a name) (Host b other) e =
    let parts = and_parts (text_eq a b) (text_eq name other) e in ap (λ x. Host x name) (texts_equal a b parts.0) ∙ ap (λ n. Host b n) (texts_equal name other parts.1)
limits_equal (Global name) (Global other) e = ap Global (texts_equal name other e)
limits_equal (Pe name) (Pe other) e = ap Pe (texts_equal name other e)
limits_equal (Quota a) (Quota b) e = ap Quota (keys_equal a b e)
limits_equal (Booked n a) (Booked m b) e =
    let parts = and_parts (n == m) (same_instance a b) e in ap (λ x. Booked x a) (eqb-true n m parts.0) ∙ ap (λ x. Booked m x) (instances_equal a b parts.1)
limits_equal _ _ e = absurd (true≢false (sym e))

pub limit_same : (a : LimitId) → same_limit a a ≡ true
limit_same (Instance a name) = and_from (same_instance a a) (text_eq name name) (instance_same a) (text_same name)
limit_same (Host a name) = and_from (text_eq a a) (text_eq name name) (text_same a) (text_same name)
limit_same (Global name) = text_same name
limit_same (Pe name) = text_same name
limit_same (Quota a) = key_same a
limit_same (Booked n a) = and_from (n == n) (same_instance a a) (eq-eqb n n refl) (instance_same a)
