-- Each answer to a reading comes exactly where its condition holds, since the conditions are those of one function.
use Rattle.std.proofs.Common.{◌≡◌, ◌≢◌, ℕ, ◌+◌, ◌≤◌, ◌<◌, ◌==◌, Bool, true, false, nat_le, if◌then◌else◌, List, [], ◌∷◌, length, refl, sym, ap, arith, Option, Some, None, Result, Ok, Err}
use Rattle.std.proofs.lemmas.Bool.Decides.{nat_tests}
use Rattle.ge_model_wire.specs.Frames.{link_bytes, is_no_frame, first_payload, taken_of, is_no_reply, first_reply, taken_of_reply}
use Rattle.ge_wire.specs.Answers.{Reads, ReadsReply, OnlyReads, ReadsExactly, ReadsReplyExactly}
use Rattle.ge_wire.specs.declared.faults.WireFault.{WireFault}
use Rattle.ge_wire.specs.declared.faults.WireFault.TheVariants as fault

-- bytes that aren't none are one or more
is-some : (bytes : List ℕ) → bytes ≢ [] → (length bytes == 0) ≡ false
is-some [] some = absurd (some refl)
is-some (b ∷ bytes) some = grind (arith, nat_tests)

pub reads-exactly : (old new : Option (List ℕ)) (at : ℕ) (r : Result (Option (List ℕ)) WireFault) (reason : Type 0) → Reads old new at r → OnlyReads r at reason → ReadsExactly old at r
reads-exactly None new at r reason reads alone = tt
reads-exactly (Some bytes) new at (Ok None) reason reads alone =
    let below : nat_le link_bytes (at + taken_of bytes) ≡ false = rw reads.0 (grind (arith, nat_tests, reads.1)) in
    let empty : (length bytes == 0) ≡ true = rw reads.0 refl in
    rw below (rw empty refl)
reads-exactly (Some bytes) new at (Ok (Some payload)) reason reads alone =
    let below : nat_le link_bytes (at + taken_of bytes) ≡ false = grind (arith, nat_tests, reads.3) in
    let some : (length bytes == 0) ≡ false = grind (arith, nat_tests, reads.0) in
    rw below (rw some (rw reads.0 (ap (λ p. Ok (Some p)) reads.1)))
reads-exactly (Some bytes) new at (Err fault.Read) reason reads alone = tt
reads-exactly (Some bytes) new at (Err fault.Write) reason reads alone = absurd reads
reads-exactly (Some bytes) new at (Err (fault.Frame place)) reason reads alone =
    let below : nat_le link_bytes (at + taken_of bytes) ≡ false = grind (arith, nat_tests, reads.2) in
    rw below (rw (is-some bytes reads.0) (rw reads.1 (ap (λ p. Err (fault.Frame p)) alone)))
reads-exactly (Some bytes) new at (Err fault.Long) reason reads alone =
    let most : nat_le link_bytes (at + taken_of bytes) ≡ true = grind (arith, nat_tests, reads) in
    rw most refl
reads-exactly (Some bytes) new at (Err fault.NoMemory) reason reads alone = tt

pub reads-reply-exactly : (old new : Option (List ℕ)) (r : Result (List ℕ) WireFault) (reason : Type 0) → ReadsReply old new r → OnlyReads r 0 reason → ReadsReplyExactly old r
reads-reply-exactly None new r reason reads alone = tt
reads-reply-exactly (Some bytes) new (Ok text) reason reads alone =
    let below : nat_le link_bytes (taken_of_reply bytes) ≡ false = grind (arith, nat_tests, reads.3) in
    rw below (rw reads.0 (ap (λ t. Ok t) reads.1))
reads-reply-exactly (Some bytes) new (Err fault.Read) reason reads alone = tt
reads-reply-exactly (Some bytes) new (Err fault.Write) reason reads alone = absurd reads
reads-reply-exactly (Some bytes) new (Err (fault.Frame place)) reason reads alone =
    let below : nat_le link_bytes (taken_of_reply bytes) ≡ false = grind (arith, nat_tests, reads.1) in
    rw below (rw reads.0 (ap (λ p. Err (fault.Frame p)) alone))
reads-reply-exactly (Some bytes) new (Err fault.Long) reason reads alone =
    let most : nat_le link_bytes (taken_of_reply bytes) ≡ true = grind (arith, nat_tests, reads) in
    rw most refl
reads-reply-exactly (Some bytes) new (Err fault.NoMemory) reason reads alone = tt
