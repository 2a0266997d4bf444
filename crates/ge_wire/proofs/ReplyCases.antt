-- What each answer to the reading of a reply tells of the bytes that were left.
use Rattle.std.proofs.Common.{◌≡◌, ℕ, ◌+◌, ◌-◌, ◌*◌, ◌^◌, ◌≤◌, ◌<◌, min, Bool, true, false, ◌||◌, List, [], ◌∷◌, ◌++◌, length, take, drop, slice_index, refl, sym, ap, ◌∙◌, arith, Option, Some, None, Result, Ok, Err, append_assoc}
use Rattle.std.specs.Int.{w64, from_be_bytes}
use Rattle.std.proofs.lemmas.List.{length-append, append-nil}
use Rattle.std.proofs.Math.Seq.{take-append_seam, drop-append_seam}
use Rattle.std.proofs.lemmas.Bool.Decides.{nat_tests}
use Rattle.ge_model_grammar.specs.Sources.{Moved, IsReadToEnd}
use Rattle.ge_model_wire.specs.Frames.{link_bytes, reply_size, is_no_reply, first_reply, taken_of_reply}
use Rattle.ge_wire.specs.Answers.{ReadsReply}
use Rattle.ge_wire.specs.declared.faults.WireFault.{WireFault}
use Rattle.ge_wire.specs.declared.faults.WireFault.TheVariants as fault

-- eight bytes say the size
pub size-of : (bytes head rest : List ℕ) → bytes ≡ head ++ rest → length head ≡ 8 → reply_size bytes ≡ from_be_bytes w64 head
unfolding reply_size
size-of bytes head rest cut eight = ap (λ x. from_be_bytes w64 x) (ap (λ b. take 8 b) cut ∙ ap (λ n. take n (head ++ rest)) (sym eight) ∙ take-append_seam head rest)

pub long-reply : (old mid new : Option (List ℕ)) (head payload : List ℕ) (size : ℕ) → Moved old mid [] head → Moved mid new [] payload → length head ≡ 8 → size ≡ from_be_bytes w64 head
    → length payload ≤ size → link_bytes ≤ 8 + length payload → ReadsReply old new (Err fault.Long)
long-reply None mid new head payload size first second eight says few most = tt
long-reply (Some bytes) None new head payload size first second eight says few most = absurd first
long-reply (Some bytes) (Some mid) None head payload size first second eight says few most = absurd second
long-reply (Some bytes) (Some mid) (Some rest) head payload size first second eight says few most =
    let cut : bytes ≡ head ++ (payload ++ rest) = first ∙ ap (λ m. head ++ m) second in
    let same : reply_size bytes ≡ size = size-of bytes head (payload ++ rest) cut eight ∙ sym says in
    grind (arith, nat_tests, same, ap length cut, length-append head (payload ++ rest), length-append payload rest, eight, few, most)

pub part-reply : (old mid new : Option (List ℕ)) (head payload : List ℕ) (place size : ℕ) → Moved old mid [] head → Moved mid new [] payload → IsReadToEnd new → length head ≡ 8 → size ≡ from_be_bytes w64 head
    → length payload < size → 8 + length payload < link_bytes → ReadsReply old new (Err (fault.Frame place))
part-reply None mid new head payload place size first second end eight says few below = tt
part-reply (Some bytes) None new head payload place size first second end eight says few below = absurd first
part-reply (Some bytes) (Some mid) None head payload place size first second end eight says few below = absurd second
part-reply (Some bytes) (Some mid) (Some rest) head payload place size first second end eight says few below =
    let cut : bytes ≡ head ++ payload = first ∙ ap (λ m. head ++ m) (second ∙ ap (λ r. payload ++ r) end ∙ append-nil payload) in
    let same : reply_size bytes ≡ size = size-of bytes head payload cut eight ∙ sym says in
    (grind (arith, nat_tests, same, ap length cut, length-append head payload, eight, few), grind (arith, nat_tests, same, ap length cut, length-append head payload, eight, few, below))

pub whole-reply : (old mid new : Option (List ℕ)) (head payload : List ℕ) (size : ℕ) → Moved old mid [] head → Moved mid new [] payload → length head ≡ 8 → size ≡ from_be_bytes w64 head
    → length payload ≡ size → 8 + size < link_bytes → ReadsReply old new (Ok payload)
whole-reply None mid new head payload size first second eight says full below = tt
whole-reply (Some bytes) None new head payload size first second eight says full below = absurd first
whole-reply (Some bytes) (Some mid) None head payload size first second eight says full below = absurd second
whole-reply (Some bytes) (Some mid) (Some rest) head payload size first second eight says full below =
    let cut : bytes ≡ head ++ (payload ++ rest) = first ∙ ap (λ m. head ++ m) second in
    let same : reply_size bytes ≡ size = size-of bytes head (payload ++ rest) cut eight ∙ sym says in
    let behind : drop 8 bytes ≡ payload ++ rest = ap (λ b. drop 8 b) cut ∙ ap (λ n. drop n (head ++ (payload ++ rest))) (sym eight) ∙ drop-append_seam head (payload ++ rest) in
    let long : length (head ++ payload) ≡ 8 + size = omega (arith, length-append head payload, eight, full) in (
      grind (arith, nat_tests, same, ap length cut, length-append head (payload ++ rest), length-append payload rest, eight, full),
      sym (ap (λ n. take n (drop 8 bytes)) (same ∙ sym full) ∙ ap (λ b. take (length payload) b) behind ∙ take-append_seam payload rest),
      ap (λ r. Some r) (sym (ap (λ n. drop (8 + n) bytes) same ∙ ap (λ n. drop n bytes) (sym long) ∙ ap (λ b. drop (length (head ++ payload)) b) (cut ∙ sym (append_assoc head payload rest)) ∙ drop-append_seam (head ++ payload) rest)),
      grind (arith, nat_tests, same, ap length cut, length-append head (payload ++ rest), length-append payload rest, eight, full, below),
    )
