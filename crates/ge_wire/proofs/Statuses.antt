-- What each status tells of how a question ended.
use Rattle.std.proofs.Common.{◌≡◌, ◌≢◌, ◌⊎◌, ◌↔◌, ℕ, ◌<◌, ◌≤◌, ◌==◌, true, false, List, length, refl, sym, ◌∙◌, arith, inl, inr, Option, Some, None, IfSome}
use Rattle.std.specs.List.{list_any}
use Rattle.ge_outside.specs.Streams.{Gains, GainsPrefix}
use Rattle.ge_model_wire.specs.Questions.{is_acceptance, payload_of}
use Rattle.ge_limits.specs.Limits.{text_bytes}
use Rattle.ge_wire.specs.Endings.{IsAskStatus, IsCutShort, IsUnasked, IsUnanswered, ending_status, OnReply, OnFailed}
use Rattle.ge_wire.specs.Asked.{AnswerBlames, IsSendable, Printed}
use Rattle.ge_wire.specs.declared.endings.AskFault.{AskFault}
use Rattle.ge_wire.specs.declared.endings.AskFault.TheVariants as fault
use Rattle.ge_wire.specs.declared.endings.Ending.{Ending}
use Rattle.ge_wire.specs.declared.endings.Ending.TheVariants as ending

pub statuses-of : (e : Ending) → IsAskStatus (ending_status e)
statuses-of ending.Accepted = refl
statuses-of ending.Refused = refl
statuses-of ending.Unwritten = refl
statuses-of (ending.Failed fault.Usage) = refl
statuses-of (ending.Failed fault.Input) = refl
statuses-of (ending.Failed fault.Connection) = refl
statuses-of (ending.Failed fault.Memory) = refl

-- the reasons of 2, 6 and 9
pub reasons-of : (e : Ending) (usage read connection : Type 0) → OnFailed e (λ why. AnswerBlames why usage read connection)
    → (ending_status e ≡ 2 → usage) × (ending_status e ≡ 6 → read) × (ending_status e ≡ 9 → connection)
reasons-of ending.Accepted usage read connection blames = (λ p. cc p, λ p. cc p, λ p. cc p)
reasons-of ending.Refused usage read connection blames = (λ p. cc p, λ p. cc p, λ p. cc p)
reasons-of ending.Unwritten usage read connection blames = (λ p. cc p, λ p. cc p, λ p. cc p)
reasons-of (ending.Failed fault.Usage) usage read connection blames = (λ p. blames, λ p. cc p, λ p. cc p)
reasons-of (ending.Failed fault.Input) usage read connection blames = (λ p. cc p, λ p. blames, λ p. cc p)
reasons-of (ending.Failed fault.Connection) usage read connection blames = (λ p. cc p, λ p. cc p, λ p. blames)
reasons-of (ending.Failed fault.Memory) usage read connection blames = (λ p. cc p, λ p. cc p, λ p. cc p)

-- the reason of 7
pub unwritten-of : (e : Ending) (write : Type 0) → (e ≡ ending.Unwritten → write) → ending_status e ≡ 7 → write
unwritten-of ending.Accepted write cause p = cc p
unwritten-of ending.Refused write cause p = cc p
unwritten-of ending.Unwritten write cause p = cause refl
unwritten-of (ending.Failed fault.Usage) write cause p = cc p
unwritten-of (ending.Failed fault.Input) write cause p = cc p
unwritten-of (ending.Failed fault.Connection) write cause p = cc p
unwritten-of (ending.Failed fault.Memory) write cause p = cc p

-- nothing was sent at 2 and 6
pub unasked-of : (e : Ending) (kept : Type 0) → OnFailed e (λ why. IsUnasked why → kept) → (ending_status e ≡ 2) ⊎ (ending_status e ≡ 6) → kept
unasked-of ending.Accepted kept holds (inl p) = cc p
unasked-of ending.Accepted kept holds (inr p) = cc p
unasked-of ending.Refused kept holds (inl p) = cc p
unasked-of ending.Refused kept holds (inr p) = cc p
unasked-of ending.Unwritten kept holds (inl p) = cc p
unasked-of ending.Unwritten kept holds (inr p) = cc p
unasked-of (ending.Failed fault.Usage) kept holds p = holds tt
unasked-of (ending.Failed fault.Input) kept holds p = holds tt
unasked-of (ending.Failed fault.Connection) kept holds (inl p) = cc p
unasked-of (ending.Failed fault.Connection) kept holds (inr p) = cc p
unasked-of (ending.Failed fault.Memory) kept holds (inl p) = cc p
unasked-of (ending.Failed fault.Memory) kept holds (inr p) = cc p

-- nothing was written where there was no reply
pub unprinted-of : (e : Ending) (kept : Type 0) → OnFailed e (λ why. kept) → IsUnanswered (ending_status e) → kept
unprinted-of ending.Accepted kept holds none = absurd (none.0 refl)
unprinted-of ending.Refused kept holds none = absurd (none.1 refl)
unprinted-of ending.Unwritten kept holds none = absurd (none.2 refl)
unprinted-of (ending.Failed why) kept holds none = holds

-- what holds of the reply at 0 and 1, and at 7
pub answered-of : (e : Ending) (P : List ℕ → Type 0) (old new : Option (List ℕ)) → OnReply e ((reply : List ℕ) × P reply × Printed e old new reply) → (ending_status e ≡ 0) ⊎ (ending_status e ≡ 1)
    → (reply : List ℕ) × P reply × Gains old new reply × ((ending_status e ≡ 0) ↔ (is_acceptance reply ≡ true))
answered-of ending.Accepted P old new told s = (told.0, told.1, told.2.0, (λ _. told.2.1, λ _. refl))
answered-of ending.Refused P old new told s = (told.0, told.1, told.2.0, (λ z. cc z, λ t. cc (sym t ∙ told.2.1)))
answered-of ending.Unwritten P old new told (inl p) = cc p
answered-of ending.Unwritten P old new told (inr p) = cc p
answered-of (ending.Failed fault.Usage) P old new told (inl p) = cc p
answered-of (ending.Failed fault.Usage) P old new told (inr p) = cc p
answered-of (ending.Failed fault.Input) P old new told (inl p) = cc p
answered-of (ending.Failed fault.Input) P old new told (inr p) = cc p
answered-of (ending.Failed fault.Connection) P old new told (inl p) = cc p
answered-of (ending.Failed fault.Connection) P old new told (inr p) = cc p
answered-of (ending.Failed fault.Memory) P old new told (inl p) = cc p
answered-of (ending.Failed fault.Memory) P old new told (inr p) = cc p

pub cut-of : (e : Ending) (P : List ℕ → Type 0) (old new : Option (List ℕ)) → OnReply e ((reply : List ℕ) × P reply × Printed e old new reply) → ending_status e ≡ 7
    → (reply : List ℕ) × P reply × GainsPrefix old new reply
cut-of ending.Accepted P old new told p = cc p
cut-of ending.Refused P old new told p = cc p
cut-of ending.Unwritten P old new told p = told
cut-of (ending.Failed fault.Usage) P old new told p = cc p
cut-of (ending.Failed fault.Input) P old new told p = cc p
cut-of (ending.Failed fault.Connection) P old new told p = cc p
cut-of (ending.Failed fault.Memory) P old new told p = cc p

-- a text that is too long was not sent, so no reply came and no connection failed
pub too-long-of : (e : Ending) (user group : List ℕ) (input old new : Option (List ℕ)) (P : List ℕ → Type 0) (usage read connection : Type 0)
    → OnReply e ((reply : List ℕ) × P reply × Printed e old new reply) → ((reply : List ℕ) → P reply → IsSendable user group input)
    → OnFailed e (λ why. AnswerBlames why usage read (IsSendable user group input × connection))
    → IfSome input (λ text. text_bytes < length (payload_of user group text) → IsCutShort (ending_status e))
too-long-of e user group None old new P usage read connection told short blames = tt
too-long-of ending.Accepted user group (Some text) old new P usage read connection told short blames = λ long. absurd (omega (arith, long, short told.0 told.1))
too-long-of ending.Refused user group (Some text) old new P usage read connection told short blames = λ long. absurd (omega (arith, long, short told.0 told.1))
too-long-of ending.Unwritten user group (Some text) old new P usage read connection told short blames = λ long. absurd (omega (arith, long, short told.0 told.1))
too-long-of (ending.Failed fault.Usage) user group (Some text) old new P usage read connection told short blames = λ long. inl refl
too-long-of (ending.Failed fault.Input) user group (Some text) old new P usage read connection told short blames = λ long. inr (inl refl)
too-long-of (ending.Failed fault.Connection) user group (Some text) old new P usage read connection told short blames = λ long. absurd (omega (arith, long, blames.0))
too-long-of (ending.Failed fault.Memory) user group (Some text) old new P usage read connection told short blames = λ long. inr (inr refl)
