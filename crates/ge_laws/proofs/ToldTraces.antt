-- The replies of a trace say which events found no memory.
use Rattle.std.proofs.Common.{◌≡◌, ℕ, ◌==◌, ◌&&◌, ◌++◌, not, Bool, true, false, List, [], ◌∷◌, flat_map, refl, ap, sym, ◌∙◌, arith}
use Rattle.std.specs.Prelude.{◌≢◌}
use Rattle.std.specs.Bool.{beq}
use Rattle.std.specs.List.{list_all}
use Rattle.ge_model_rows.specs.ClusterRows.{Cluster}
use Rattle.ge_model_rows.specs.EventRows.{Event, Reply}
use Rattle.ge_model_core.specs.Plan.{plan_of}
use Rattle.ge_model_core.specs.Render.{rendered}
use Rattle.ge_model_core.specs.Trace.{answer_of, after_entries, output}
use Rattle.ge_laws.specs.PlannedEvents.{replies_of, tells_memory}
use Rattle.ge_laws.proofs.ToldPlans.{plan_told}

abbrev written : List (Bool × Reply) → List ℕ
written replies = flat_map (λ reply. rendered reply.1) replies

pub written_replies : (c : Cluster) (events : List Event) (marks : List Bool) → output plan_of c events marks ≡ written (replies_of c events marks)
written_replies c events [] = refl
written_replies c [] (mark ∷ marks) = refl
written_replies c (e ∷ events) (mark ∷ marks) = by (answer_of plan_of c e mark).stop (written_replies after events marks)
  where
    after : Cluster
    after = after_entries c (answer_of plan_of c e mark).entry

    reply : Reply
    reply = (answer_of plan_of c e mark).reply

    by : (stop : Bool) → output plan_of after events marks ≡ written (replies_of after events marks)
        → rendered reply ++ elim stop [ true ↦ [] | false ↦ output plan_of after events marks ]
        ≡ written ((mark, reply) ∷ elim stop [ true ↦ [] | false ↦ replies_of after events marks ])
    by true more = refl
    by false more = ap (λ z. rendered reply ++ z) more

-- one reply
one_told : (c : Cluster) (e : Event) (mark : Bool) → tells_memory (mark, (answer_of plan_of c e mark).reply) ≡ true
one_told c e true = by ((plan_of c e).reply.code) (plan_told c e).other
  where
    by : (code : ℕ) → code ≢ 99 → beq (code == 99) (not true) ≡ true
    by code other = differs (code == 99) (λ is. other (grind arith))
      where
        differs : (same : Bool) → (same ≡ true → ⊥) → beq same false ≡ true
        differs true none = absurd (none refl)
        differs false none = refl
one_told c e false = refl

pub told_replies : (c : Cluster) (events : List Event) (marks : List Bool) → list_all tells_memory (replies_of c events marks) ≡ true
told_replies c events [] = refl
told_replies c [] (mark ∷ marks) = refl
told_replies c (e ∷ events) (mark ∷ marks) = by (answer_of plan_of c e mark).stop (one_told c e mark) (told_replies after events marks)
  where
    after : Cluster
    after = after_entries c (answer_of plan_of c e mark).entry

    both : (one more : Bool) → one ≡ true → more ≡ true → (one && more) ≡ true
    both true true one more = refl
    both true false one more = more
    both false more one rest = one

    by : (stop : Bool) → tells_memory (mark, (answer_of plan_of c e mark).reply) ≡ true → list_all tells_memory (replies_of after events marks) ≡ true
        → list_all tells_memory ((mark, (answer_of plan_of c e mark).reply) ∷ elim stop [ true ↦ [] | false ↦ replies_of after events marks ]) ≡ true
    by true one more = both (tells_memory (mark, (answer_of plan_of c e mark).reply)) true one refl
    by false one more = both (tells_memory (mark, (answer_of plan_of c e mark).reply)) (list_all tells_memory (replies_of after events marks)) one more
