-- What reading and writing frames answers.
use Rattle.std.specs.Prelude.{◌≡◌, ◌≢◌, ℕ, ◌+◌, ◌<◌, ◌≤◌, ◌^◌, ◌==◌, Bool, true, false, nat_le, if◌then◌else◌, List, [], length, drop, Option, Some, None, Result, Ok, Err, IfSome}
use Rattle.ge_model_wire.specs.Frames.{link_bytes, is_no_frame, first_payload, behind_first, taken_of, is_no_reply, first_reply, behind_reply, taken_of_reply}
use Rattle.ge_wire.specs.declared.faults.WireFault.{WireFault}
use Rattle.ge_wire.specs.declared.faults.WireFault.TheVariants as fault

-- writing fails by a write alone
abbrev pub IsWriteAlone : {T : Type 0} → Result T WireFault → Type 0
IsWriteAlone (Ok x) = Unit {0}
IsWriteAlone (Err fault.Read) = ⊥
IsWriteAlone (Err fault.Write) = Unit {0}
IsWriteAlone (Err (fault.Frame place)) = ⊥
IsWriteAlone (Err fault.Long) = ⊥
IsWriteAlone (Err fault.NoMemory) = ⊥

-- taking bytes fails by a read, with a reason, or for want of memory
abbrev pub OnlyTakes : {T : Type 0} → Result T WireFault → Type 0 → Type 0
OnlyTakes (Ok x) reason = Unit {0}
OnlyTakes (Err fault.Read) reason = reason
OnlyTakes (Err fault.Write) reason = ⊥
OnlyTakes (Err (fault.Frame place)) reason = ⊥
OnlyTakes (Err fault.Long) reason = ⊥
OnlyTakes (Err fault.NoMemory) reason = Unit {0}

-- reading a frame fails by a read, with a reason, or tells the place of the frame; never by a write
abbrev pub OnlyReads : {T : Type 0} → Result T WireFault → ℕ → Type 0 → Type 0
OnlyReads (Ok x) at reason = Unit {0}
OnlyReads (Err fault.Read) at reason = reason
OnlyReads (Err fault.Write) at reason = ⊥
OnlyReads (Err (fault.Frame place)) at reason = place ≡ at
OnlyReads (Err fault.Long) at reason = Unit {0}
OnlyReads (Err fault.NoMemory) at reason = Unit {0}

-- how many bytes the frame has that was read
abbrev pub frame_len : Option (List ℕ) → ℕ
frame_len None = 0
frame_len (Some payload) = 4 + length payload

-- a frame was read, and its payload is so
abbrev pub OnFrame : Result (Option (List ℕ)) WireFault → (List ℕ → Type 0) → Type 0
OnFrame (Ok (Some payload)) P = P payload
OnFrame (Ok None) P = Unit {0}
OnFrame (Err f) P = Unit {0}

-- What reading a frame at a place tells of what is left of a source before and after it.
abbrev pub Reads : Option (List ℕ) → Option (List ℕ) → ℕ → Result (Option (List ℕ)) WireFault → Type 0
Reads None new at result = Unit {0}
Reads (Some bytes) new at (Ok None) = (bytes ≡ []) × (at < link_bytes) × (new ≡ Some [])
Reads (Some bytes) new at (Ok (Some payload)) =
    (is_no_frame bytes ≡ false) × (payload ≡ first_payload bytes) × (new ≡ Some (behind_first bytes)) × (at + taken_of bytes < link_bytes)
Reads (Some bytes) new at (Err fault.Read) = Unit {0}
Reads (Some bytes) new at (Err fault.Write) = ⊥
Reads (Some bytes) new at (Err (fault.Frame place)) = (bytes ≢ []) × (is_no_frame bytes ≡ true) × (at + taken_of bytes < link_bytes)
Reads (Some bytes) new at (Err fault.Long) = link_bytes ≤ at + taken_of bytes
Reads (Some bytes) new at (Err fault.NoMemory) = Unit {0}

-- the same of a reply
abbrev pub ReadsReply : Option (List ℕ) → Option (List ℕ) → Result (List ℕ) WireFault → Type 0
ReadsReply None new result = Unit {0}
ReadsReply (Some bytes) new (Ok text) =
    (is_no_reply bytes ≡ false) × (text ≡ first_reply bytes) × (new ≡ Some (behind_reply bytes)) × (taken_of_reply bytes < link_bytes)
ReadsReply (Some bytes) new (Err fault.Read) = Unit {0}
ReadsReply (Some bytes) new (Err fault.Write) = ⊥
ReadsReply (Some bytes) new (Err (fault.Frame place)) = (is_no_reply bytes ≡ true) × (taken_of_reply bytes < link_bytes)
ReadsReply (Some bytes) new (Err fault.Long) = link_bytes ≤ taken_of_reply bytes
ReadsReply (Some bytes) new (Err fault.NoMemory) = Unit {0}

-- The answer to reading a frame at a place, by the bytes that are left, where no read fails and there is memory.
abbrev pub frame_answer : ℕ → List ℕ → Result (Option (List ℕ)) WireFault
frame_answer at bytes =
    if nat_le link_bytes (at + taken_of bytes) then Err fault.Long
    else (if length bytes == 0 then Ok None
    else (if is_no_frame bytes then Err (fault.Frame at) else Ok (Some (first_payload bytes))))

-- the answer to reading a reply
abbrev pub reply_answer : List ℕ → Result (List ℕ) WireFault
reply_answer bytes =
    if nat_le link_bytes (taken_of_reply bytes) then Err fault.Long
    else (if is_no_reply bytes then Err (fault.Frame 0) else Ok (first_reply bytes))

-- a result is this one, unless a read failed or memory was wanting
abbrev pub IsUnlessCut : {T : Type 0} → Result T WireFault → Result T WireFault → Type 0
IsUnlessCut (Ok x) answer = Ok x ≡ answer
IsUnlessCut (Err fault.Read) answer = Unit {0}
IsUnlessCut (Err fault.Write) answer = ⊥
IsUnlessCut (Err (fault.Frame place)) answer = Err (fault.Frame place) ≡ answer
IsUnlessCut (Err fault.Long) answer = Err fault.Long ≡ answer
IsUnlessCut (Err fault.NoMemory) answer = Unit {0}

-- Each answer comes exactly where its condition holds: the conditions are those of one function of the bytes.
abbrev pub ReadsExactly : Option (List ℕ) → ℕ → Result (Option (List ℕ)) WireFault → Type 0
ReadsExactly rest at result = IfSome rest (λ bytes. IsUnlessCut result (frame_answer at bytes))

abbrev pub ReadsReplyExactly : Option (List ℕ) → Result (List ℕ) WireFault → Type 0
ReadsReplyExactly rest result = IfSome rest (λ bytes. IsUnlessCut result (reply_answer bytes))
