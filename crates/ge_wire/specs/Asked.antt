-- What a client's question asks, answers and leaves.
use Rattle.std.specs.Prelude.{◌≡◌, ◌⊎◌, ◌↔◌, ℕ, ◌<◌, ◌≤◌, true, false, List, [], ◌∷◌, ◌++◌, length, Option, Some, None, Result, Ok, Err, IfSome}
use Rattle.ge_limits.specs.Limits as limit
use Rattle.ge_outside.specs.Doors.{ClosedLink}
use Rattle.ge_outside.specs.Streams.{Gains, GainsPrefix}
use Rattle.ge_model_grammar.specs.Sources.{IsReadToEnd}
use Rattle.ge_model_wire.specs.Frames.{link_bytes, request_frame, is_no_reply, first_reply, taken_of_reply}
use Rattle.ge_model_wire.specs.Questions.{payload_of, is_acceptance}
use Rattle.ge_wire.specs.declared.faults.WireFault.{WireFault}
use Rattle.ge_wire.specs.declared.faults.WireFault.TheVariants as wire
use Rattle.ge_wire.specs.declared.endings.AskFault.{AskFault}
use Rattle.ge_wire.specs.declared.endings.AskFault.TheVariants as fault
use Rattle.ge_wire.specs.declared.endings.Ending.{Ending}
use Rattle.ge_wire.specs.declared.endings.Ending.TheVariants as ending

-- a connection's bytes begin with no reply, or with one that is too long
abbrev pub HasNoReply : List ℕ → Type 0
HasNoReply bytes = (is_no_reply bytes ≡ true) ⊎ (link_bytes ≤ taken_of_reply bytes)

-- what a reply on a connection is, and where there is none
abbrev pub TalksAs : Option (List ℕ) → Result (List ℕ) WireFault → Type 0
TalksAs None result = Unit {0}
TalksAs (Some bytes) (Ok text) = (is_no_reply bytes ≡ false) × (text ≡ first_reply bytes)
TalksAs (Some bytes) (Err wire.Read) = Unit {0}
TalksAs (Some bytes) (Err wire.Write) = Unit {0}
TalksAs (Some bytes) (Err (wire.Frame place)) = HasNoReply bytes
TalksAs (Some bytes) (Err wire.Long) = HasNoReply bytes
TalksAs (Some bytes) (Err wire.NoMemory) = Unit {0}

-- a read and a write fail with a reason
abbrev pub Blames : Result (List ℕ) WireFault → Type 0 → Type 0 → Type 0
Blames (Ok text) read write = Unit {0}
Blames (Err wire.Read) read write = read
Blames (Err wire.Write) read write = write
Blames (Err (wire.Frame place)) read write = Unit {0}
Blames (Err wire.Long) read write = Unit {0}
Blames (Err wire.NoMemory) read write = Unit {0}

-- The first of the connections to come was asked with one frame and given back, and its bytes began with the reply.
abbrev pub Asked : Option (List (List ℕ)) → Option (List (List ℕ)) → Option (List ClosedLink) → Option (List ClosedLink) → List ℕ → List ℕ → Type 0
Asked (Some (bytes ∷ others)) coming (Some closed) closed_new payload text =
    (link : ClosedLink) × (coming ≡ Some others) × (closed_new ≡ Some (closed ++ link ∷ [])) × (link.written ≡ request_frame payload) × (is_no_reply bytes ≡ false) × (text ≡ first_reply bytes)
Asked _ coming closed closed_new payload text = Unit {0}

-- no reply begins the bytes of the first connection, where the door tells
abbrev pub FirstHasNoReply : Option (List (List ℕ)) → Type 0
FirstHasNoReply (Some (bytes ∷ others)) = HasNoReply bytes
FirstHasNoReply (Some []) = ⊥
FirstHasNoReply None = Unit {0}

-- a connection fails where the door or a link did, or where no reply came
abbrev pub ConnectionFails : Type 0 → Type 0 → Option (List (List ℕ)) → Type 0
ConnectionFails doors links coming = doors ⊎ (links ⊎ FirstHasNoReply coming)

abbrev pub DoorBlames : Result (List ℕ) AskFault → Type 0 → Type 0 → Option (List (List ℕ)) → Type 0
DoorBlames (Ok text) doors links coming = Unit {0}
DoorBlames (Err fault.Usage) doors links coming = ⊥
DoorBlames (Err fault.Input) doors links coming = ⊥
DoorBlames (Err fault.Connection) doors links coming = ConnectionFails doors links coming
DoorBlames (Err fault.Memory) doors links coming = Unit {0}

-- what would be sent for these names and this input, where it tells, is longer than a request may be
abbrev pub IsTooLong : List ℕ → List ℕ → Option (List ℕ) → Type 0
IsTooLong user group input = IfSome input (λ text. limit.text_bytes < length (payload_of user group text))

-- and it is not
abbrev pub IsSendable : List ℕ → List ℕ → Option (List ℕ) → Type 0
IsSendable user group input = IfSome input (λ text. length (payload_of user group text) ≤ limit.text_bytes)

-- a payload isn't made where it would be too long, where a read failed, or for want of memory
abbrev pub PayloadBlames : Result (List ℕ) AskFault → Type 0 → Type 0 → Type 0
PayloadBlames (Ok payload) long read = Unit {0}
PayloadBlames (Err fault.Usage) long read = long
PayloadBlames (Err fault.Input) long read = read
PayloadBlames (Err fault.Connection) long read = ⊥
PayloadBlames (Err fault.Memory) long read = Unit {0}

-- an answer to names and an input: the words are no question or too long, a read, the connection or memory failed
abbrev pub AnswerBlames : AskFault → Type 0 → Type 0 → Type 0 → Type 0
AnswerBlames fault.Usage usage read connection = usage
AnswerBlames fault.Input usage read connection = read
AnswerBlames fault.Connection usage read connection = connection
AnswerBlames fault.Memory usage read connection = Unit {0}

-- A reply came: what was sent is the line of the names and the whole input, in one frame over one connection, which was
-- given back, and the reply is the text with which its bytes began.
pub record Replies (user group : List ℕ) (input rest : Option (List ℕ)) (coming coming_new : Option (List (List ℕ))) (closed closed_new : Option (List ClosedLink)) (reply : List ℕ) : Type 0 where
  pub payload : List ℕ
  pub sent : IfSome input (λ text. payload ≡ payload_of user group text)
  pub fits : length payload ≤ limit.text_bytes
  pub ended : IsReadToEnd rest
  pub asked : Asked coming coming_new closed closed_new payload reply

-- the reply was written, and whether it accepts; where a write failed, a front of it was written
abbrev pub Printed : Ending → Option (List ℕ) → Option (List ℕ) → List ℕ → Type 0
Printed ending.Accepted old new reply = Gains old new reply × (is_acceptance reply ≡ true)
Printed ending.Refused old new reply = Gains old new reply × (is_acceptance reply ≡ false)
Printed ending.Unwritten old new reply = GainsPrefix old new reply
Printed (ending.Failed why) old new reply = ⊥

-- the same where a write failed: a front of the reply was written
abbrev pub Cut : List ℕ × List ℕ → Option (List ℕ) → Option (List ℕ) → Option (List (List ℕ)) → Option (List (List ℕ)) → Option (List ClosedLink) → Option (List ClosedLink)
    → Option (List ℕ) → Option (List ℕ) → Type 0
Cut names input rest coming coming_new closed closed_new out out_new =
    (reply : List ℕ) × Replies names.0 names.1 input rest coming coming_new closed closed_new reply × GainsPrefix out out_new reply

-- the same of a whole question with these words, by its status: 0 exactly where the reply accepts
abbrev pub Answers : ℕ → List ℕ × List ℕ → Option (List ℕ) → Option (List ℕ) → Option (List (List ℕ)) → Option (List (List ℕ)) → Option (List ClosedLink) → Option (List ClosedLink)
    → Option (List ℕ) → Option (List ℕ) → Type 0
Answers status names input rest coming coming_new closed closed_new out out_new =
    (reply : List ℕ) × Replies names.0 names.1 input rest coming coming_new closed closed_new reply × Gains out out_new reply × ((status ≡ 0) ↔ (is_acceptance reply ≡ true))
