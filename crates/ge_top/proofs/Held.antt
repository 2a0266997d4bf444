-- What is written, and what is held behind it.
use Rattle.std.proofs.Common.{◌≡◌, ℕ, ◌+◌, List, [], ◌++◌, length, take, Option, Some, None, Result, Ok, Err, OnOk, OnErr, refl, ap, ◌∙◌, sym, subst, append_assoc, append-nil, arith}
use Rattle.std.proofs.lemmas.List.{length-append, take-append-le, append_cancel_left}
use Rattle.std.proofs.Math.Seq.{take-append-add}
use Rattle.ge_outside.specs.Streams.{Gains, GainsPrefix, Gains-append}
use Rattle.ge_top.specs.Holding.{with_held, HasGained}

pub Gains-nothing : {T : Type 0} (old : Option (List T)) → Gains old old []
Gains-nothing None = tt
Gains-nothing (Some xs) = sym (append-nil xs)

pub nothing-held : (now : Option (List ℕ)) → with_held now [] ≡ now
nothing-held None = refl
nothing-held (Some bytes) = ap Some (append-nil bytes)

-- the held bytes are all written
pub all-written : (old new : Option (List ℕ)) (held : List ℕ) → Gains old new held → new ≡ with_held old held
all-written None None held gains = refl
all-written None (Some new) held gains = absurd gains
all-written (Some old) None held gains = absurd gains
all-written (Some old) (Some new) held gains = ap Some gains

pub one-more-held : (now : Option (List ℕ)) (held reply : List ℕ) → Gains (with_held now held) (with_held now (held ++ reply)) reply
one-more-held None held reply = tt
one-more-held (Some bytes) held reply = sym (append_assoc bytes held reply)

pub gained-nothing : (now : Option (List ℕ)) → HasGained now now
gained-nothing now = ([], Gains-nothing now)

pub gained-more : (old now after : Option (List ℕ)) → HasGained old now → HasGained now after → HasGained old after
gained-more old now after first second = (first.0 ++ second.0, Gains-append old now after first.0 second.0 first.1 second.1)

pub gained-front : (old new : Option (List ℕ)) (bytes : List ℕ) → GainsPrefix old new bytes → HasGained old new
gained-front old new bytes front = (take front.0 bytes, front.2)

-- a front of what is held is one of that and a reply behind it
pub front-longer : (old new : Option (List ℕ)) (held reply : List ℕ) → GainsPrefix old new held → GainsPrefix old new (held ++ reply)
front-longer old new held reply front =
    (front.0, omega (arith, front.1, length-append held reply), rw (take-append-le front.0 held reply front.1) front.2)

-- what is held is written, and a front of the reply behind it
pub front-behind : (old now new : Option (List ℕ)) (held reply : List ℕ) → Gains old now held → GainsPrefix now new reply → GainsPrefix old new (held ++ reply)
front-behind old now new held reply gains front = (
  length held + front.0,
  omega (arith, front.1, length-append held reply),
  rw (take-append-add held reply front.0) (Gains-append old now new held (take front.0 reply) gains front.2),
)

-- what was to be written is what was written and what is held; so a front of what is held makes a front of it
pub front-of-whole : (old now after : Option (List ℕ)) (held whole : List ℕ) → HasGained old now → Gains old (with_held now held) whole
    → GainsPrefix now after held → GainsPrefix old after whole
front-of-whole None None None held whole gained gains front = (0, omega arith, tt)
front-of-whole None None (Some after) held whole gained gains front = absurd front.2
front-of-whole None (Some now) after held whole gained gains front = absurd gained.1
front-of-whole (Some old) None after held whole gained gains front = absurd gained.1
front-of-whole (Some old) (Some now) None held whole gained gains front = absurd front.2
front-of-whole (Some old) (Some now) (Some after) held whole gained gains front =
    let done = gained.0 in
    let same : done ++ held ≡ whole =
    append_cancel_left old (done ++ held) whole (sym (append_assoc old done held) ∙ ap (λ z. z ++ held) (sym gained.1) ∙ gains) in
    subst (λ z. GainsPrefix (Some old) (Some after) z) same (front-behind (Some old) (Some now) (Some after) done held gained.1 front)

-- with what is held, that much is gained
pub held-gains : (now : Option (List ℕ)) (held : List ℕ) → Gains now (with_held now held) held
held-gains None held = tt
held-gains (Some bytes) held = refl

-- a write behind what is held fails, or not
pub front-late : {E : Type 0} (result : Result Unit E) (old now new : Option (List ℕ)) (held reply : List ℕ) → now ≡ with_held old held
    → OnErr result (GainsPrefix now new reply) → OnErr result (GainsPrefix old new (held ++ reply))
front-late (Ok done) old now new held reply is front = tt
front-late (Err fault) old now new held reply is front =
    front-behind old now new held reply (subst (λ z. Gains old z held) (sym is) (held-gains old held)) front

pub gained-either : {E : Type 0} (result : Result Unit E) (old new : Option (List ℕ)) (bytes : List ℕ) → OnOk result (Gains old new bytes)
    → OnErr result (GainsPrefix old new bytes) → HasGained old new
gained-either (Ok done) old new bytes whole front = (bytes, whole)
gained-either (Err fault) old new bytes whole front = gained-front old new bytes front
