-- How a question ends.
use Rattle.std.specs.Prelude.{◌≡◌, ◌≢◌, ◌⊎◌, ℕ, ◌==◌, IsTrue, [], ◌∷◌}
use Rattle.std.specs.List.{list_any}
use Rattle.ge_wire.specs.declared.endings.AskFault.{AskFault}
use Rattle.ge_wire.specs.declared.endings.AskFault.TheVariants as fault
use Rattle.ge_wire.specs.declared.endings.Ending.{Ending}
use Rattle.ge_wire.specs.declared.endings.Ending.TheVariants as ending

-- Exit statuses: 0 accepted, 1 refused, 2 faulty words or a text that is too long, 6 a read of the input failed, 7 a write
-- of the reply failed, 9 the connection failed, 10 want of memory.
abbrev pub IsAskStatus : ℕ → Type 0
IsAskStatus status = IsTrue (list_any (λ s. s == status) (0 ∷ 1 ∷ 2 ∷ 6 ∷ 7 ∷ 9 ∷ 10 ∷ []))

abbrev pub fault_status : AskFault → ℕ
fault_status fault.Usage = 2
fault_status fault.Input = 6
fault_status fault.Connection = 9
fault_status fault.Memory = 10

abbrev pub ending_status : Ending → ℕ
ending_status ending.Accepted = 0
ending_status ending.Refused = 1
ending_status ending.Unwritten = 7
ending_status (ending.Failed why) = fault_status why

-- what holds where there was a reply, where it was written, and where there was none, with the reason
abbrev pub OnReply : Ending → Type 0 → Type 0
OnReply ending.Accepted P = P
OnReply ending.Refused P = P
OnReply ending.Unwritten P = P
OnReply (ending.Failed why) P = Unit {0}

abbrev pub OnFailed : Ending → (AskFault → Type 0) → Type 0
OnFailed ending.Accepted P = Unit {0}
OnFailed ending.Refused P = Unit {0}
OnFailed ending.Unwritten P = Unit {0}
OnFailed (ending.Failed why) P = P why

-- a text that is too long is told so, unless a read failed or memory was wanting before
abbrev pub IsCutShort : ℕ → Type 0
IsCutShort status = (status ≡ 2) ⊎ ((status ≡ 6) ⊎ (status ≡ 10))

-- there was no reply to write
abbrev pub IsUnanswered : ℕ → Type 0
IsUnanswered status = (status ≢ 0) × (status ≢ 1) × (status ≢ 7)

-- nothing was sent
abbrev pub IsUnasked : AskFault → Type 0
IsUnasked fault.Usage = Unit {0}
IsUnasked fault.Input = Unit {0}
IsUnasked fault.Connection = ⊥
IsUnasked fault.Memory = ⊥
