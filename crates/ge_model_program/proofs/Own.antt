-- The last of the replies to the events of a frame is that to its own, and a frame has one.
use Rattle.std.proofs.Common.{◌≡◌, ℕ, ◌<◌, Bool, true, false, List, [], ◌∷◌, ◌++◌, length, refl, subst, sym, arith}
use Rattle.ge_model_rows.specs.ClusterRows.{Cluster}
use Rattle.ge_model_rows.specs.EventRows.{Event, Reply, Planned}
use Rattle.ge_model_program.specs.Traced.{traced}
use Rattle.ge_model_wire.specs.Payloads.{event_in_payload}
use Rattle.ge_model_program.specs.Moments.{frame_moment, is_due, runs_before, frame_events}
use Rattle.ge_model_program.specs.Answered.{FrameMarks, marks_of, own_reply, framed, frame_trace}

behind_one : (q : Reply) (more : List Reply) (r : Reply) → own_reply more ≡ r ∷ [] → own_reply (q ∷ more) ≡ r ∷ []
behind_one q [] r e = cc
behind_one q (x ∷ more) r e = e

pub own_last : (init : List Reply) (r : Reply) → own_reply (init ++ r ∷ []) ≡ r ∷ []
own_last [] r = refl
own_last (q ∷ init) r = behind_one q (init ++ r ∷ []) r (own_last init r)

own-some : (q : Reply) (more : List Reply) → (r : Reply) × (own_reply (q ∷ more) ≡ r ∷ [])
own-some q [] = (q, refl)
own-some q (s ∷ more) = own-some s more

framed-some : (replies : List Reply) (r : Reply) → own_reply replies ≡ r ∷ [] → 0 < length (framed (own_reply replies))
framed-some replies r is = subst (λ (rs : List Reply). 0 < length (framed rs)) (sym is) (omega arith)

of-some : (replies : List Reply) → 0 < length replies → 0 < length (framed (own_reply replies))
of-some [] some = absurd (omega (arith, some))
of-some (q ∷ more) some = let r = own-some q more in framed-some (q ∷ more) r.0 r.1

module _ (plan : Cluster → Event → Planned) where
  by-due : (c : Cluster) (due : Bool) (moment : ℕ) (e : Event) (m : FrameMarks) → 0 < length (framed (own_reply (traced plan c (runs_before due moment ++ e ∷ []) (marks_of due m)).replies))
  by-due c true moment e m = of-some (traced plan c (runs_before true moment ++ e ∷ []) (marks_of true m)).replies (omega arith)
  by-due c false moment e m = of-some (traced plan c (runs_before false moment ++ e ∷ []) (marks_of false m)).replies (omega arith)

  -- the frame of a reply has bytes
  pub reply-some : (c : Cluster) (clock : ℕ) (payload : List ℕ) (m : FrameMarks) → 0 < length (framed (own_reply (frame_trace plan c clock payload m).replies))
  unfolding frame_events frame_trace
  reply-some c clock payload m = by-due c (is_due c (frame_moment c clock)) (frame_moment c clock) (event_in_payload (frame_moment c clock) payload) m
