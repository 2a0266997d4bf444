-- What each answer to a read tells of the bytes that were left: a head, what followed it, and the rest.
use Rattle.std.proofs.Common.{◌≡◌, ◌≢◌, ℕ, ◌+◌, ◌-◌, ◌*◌, ◌^◌, ◌≤◌, ◌<◌, min, Bool, true, false, ◌||◌, List, [], ◌∷◌, ◌++◌, length, take, drop, slice_index, refl, sym, ap, subst, ◌∙◌, arith, Option, Some, None, Result, Ok, Err, append_assoc}
use Rattle.std.specs.Int.{w32, w64, from_be_bytes}
use Rattle.std.proofs.lemmas.List.{length-append, append-nil}
use Rattle.std.proofs.Math.Seq.{take-length, take-append_seam, drop-append_seam}
use Rattle.std.proofs.lemmas.Bool.Decides.{nat_tests}
use Rattle.ge_model_grammar.specs.Sources.{Moved, IsReadToEnd}
use Rattle.ge_model_wire.specs.Frames.{link_bytes, frame_size, is_no_frame, is_no_size, first_payload, behind_first, taken_of}
use Rattle.ge_wire.specs.Answers.{Reads}
use Rattle.ge_wire.specs.declared.faults.WireFault.{WireFault}
use Rattle.ge_wire.specs.declared.faults.WireFault.TheVariants as fault

-- a front as long as the whole
pub take-all : (n : ℕ) (xs : List ℕ) → n ≡ length xs → take n xs ≡ xs
take-all n xs same = ap (λ m. take m xs) same ∙ take-length xs

-- a front of so many, with something behind it
pub take-front : (n : ℕ) (front rest : List ℕ) → length front ≡ n → take n (front ++ rest) ≡ front
take-front n front rest same = ap (λ m. take m (front ++ rest)) (sym same) ∙ take-append_seam front rest

-- what moved behind nothing
pub behind-none : (old new : Option (List ℕ)) (start after : List ℕ) → start ≡ [] → Moved old new start after → Moved old new [] after
behind-none old new start after none moved = subst (λ (xs : List ℕ). Moved old new xs after) none moved

-- four bytes say the size
pub size-of : (bytes head rest : List ℕ) → bytes ≡ head ++ rest → length head ≡ 4 → frame_size bytes ≡ from_be_bytes w32 head
unfolding frame_size
size-of bytes head rest cut four = ap (λ x. from_be_bytes w32 x) (ap (λ b. take 4 b) cut ∙ ap (λ n. take n (head ++ rest)) (sym four) ∙ take-append_seam head rest)

-- the answers where only a head was read
pub long-head : (bytes head rest : List ℕ) (at : ℕ) → bytes ≡ head ++ rest → length head ≤ 4 → link_bytes ≤ at + length head → link_bytes ≤ at + taken_of bytes
long-head bytes head rest at cut few most = grind (arith, nat_tests, ap length cut, length-append head rest, few, most)

pub ends-in-head : (bytes head : List ℕ) (at : ℕ) → bytes ≡ head → length head < 4 → 0 < length head → at + length head < link_bytes
    → (bytes ≢ []) × (is_no_frame bytes ≡ true) × (at + taken_of bytes < link_bytes)
ends-in-head bytes head at cut few some below =
    (λ none. omega (arith, some, ap length (sym cut ∙ none)), grind (arith, nat_tests, ap length cut, few), grind (arith, nat_tests, ap length cut, few, below))

pub no-size : (bytes head rest : List ℕ) (at size : ℕ) → bytes ≡ head ++ rest → length head ≡ 4 → size ≡ from_be_bytes w32 head → is_no_size size ≡ true → at + 4 < link_bytes
    → (bytes ≢ []) × (is_no_frame bytes ≡ true) × (at + taken_of bytes < link_bytes)
no-size bytes head rest at size cut four says none below =
    let same : frame_size bytes ≡ size = size-of bytes head rest cut four ∙ sym says in (
      λ empty. omega (arith, four, ap length (sym cut ∙ empty), length-append head rest),
      grind (arith, nat_tests, none, same, ap length cut, length-append head rest, four),
      grind (arith, nat_tests, none, same, ap length cut, length-append head rest, four, below),
    )

-- the answers where a payload was read too
pub long-payload : (bytes head payload rest : List ℕ) (at size : ℕ) → bytes ≡ head ++ (payload ++ rest) → length head ≡ 4 → size ≡ from_be_bytes w32 head → is_no_size size ≡ false
    → length payload ≤ size → link_bytes ≤ at + (4 + length payload) → link_bytes ≤ at + taken_of bytes
long-payload bytes head payload rest at size cut four says good few most =
    let same : frame_size bytes ≡ size = size-of bytes head (payload ++ rest) cut four ∙ sym says in
    grind (arith, nat_tests, good, same, ap length cut, length-append head (payload ++ rest), length-append payload rest, four, few, most)

pub ends-in-payload : (bytes head payload : List ℕ) (at size : ℕ) → bytes ≡ head ++ payload → length head ≡ 4 → size ≡ from_be_bytes w32 head → is_no_size size ≡ false
    → length payload < size → at + (4 + length payload) < link_bytes → (bytes ≢ []) × (is_no_frame bytes ≡ true) × (at + taken_of bytes < link_bytes)
ends-in-payload bytes head payload at size cut four says good few below =
    let same : frame_size bytes ≡ size = size-of bytes head payload cut four ∙ sym says in (
      λ empty. omega (arith, four, ap length (sym cut ∙ empty), length-append head payload),
      grind (arith, nat_tests, good, same, ap length cut, length-append head payload, four, few),
      grind (arith, nat_tests, good, same, ap length cut, length-append head payload, four, few, below),
    )

pub whole-frame : (bytes head payload rest : List ℕ) (at size : ℕ) → bytes ≡ head ++ (payload ++ rest) → length head ≡ 4 → size ≡ from_be_bytes w32 head → is_no_size size ≡ false
    → length payload ≡ size → at + (4 + size) < link_bytes
    → (is_no_frame bytes ≡ false) × (payload ≡ first_payload bytes) × (rest ≡ behind_first bytes) × (at + taken_of bytes < link_bytes)
whole-frame bytes head payload rest at size cut four says good full below =
    let same : frame_size bytes ≡ size = size-of bytes head (payload ++ rest) cut four ∙ sym says in
    let behind : drop 4 bytes ≡ payload ++ rest = ap (λ b. drop 4 b) cut ∙ ap (λ n. drop n (head ++ (payload ++ rest))) (sym four) ∙ drop-append_seam head (payload ++ rest) in
    let long : length (head ++ payload) ≡ 4 + size = omega (arith, length-append head payload, four, full) in (
      grind (arith, nat_tests, good, same, ap length cut, length-append head (payload ++ rest), length-append payload rest, four, full),
      sym (ap (λ n. take n (drop 4 bytes)) (same ∙ sym full) ∙ ap (λ b. take (length payload) b) behind ∙ take-append_seam payload rest),
      sym (ap (λ n. drop (4 + n) bytes) same ∙ ap (λ n. drop n bytes) (sym long) ∙ ap (λ b. drop (length (head ++ payload)) b) (cut ∙ sym (append_assoc head payload rest)) ∙ drop-append_seam (head ++ payload) rest),
      grind (arith, nat_tests, good, same, ap length cut, length-append head (payload ++ rest), length-append payload rest, four, full, below),
    )

-- the same where a source may not tell
pub reads-no-size : (old mid : Option (List ℕ)) (head : List ℕ) (at place size : ℕ) → Moved old mid [] head → length head ≡ 4 → size ≡ from_be_bytes w32 head → is_no_size size ≡ true → at + 4 < link_bytes
    → Reads old mid at (Err (fault.Frame place))
reads-no-size None mid head at place size moved four says none below = tt
reads-no-size (Some bytes) None head at place size moved four says none below = absurd moved
reads-no-size (Some bytes) (Some rest) head at place size moved four says none below = no-size bytes head rest at size moved four says none below

pub reads-long-payload : (old mid new : Option (List ℕ)) (head payload : List ℕ) (at size : ℕ) → Moved old mid [] head → Moved mid new [] payload → length head ≡ 4 → size ≡ from_be_bytes w32 head → is_no_size size ≡ false
    → length payload ≤ size → link_bytes ≤ at + (4 + length payload) → Reads old new at (Err fault.Long)
reads-long-payload None mid new head payload at size first second four says good few most = tt
reads-long-payload (Some bytes) None new head payload at size first second four says good few most = absurd first
reads-long-payload (Some bytes) (Some mid) None head payload at size first second four says good few most = absurd second
reads-long-payload (Some bytes) (Some mid) (Some rest) head payload at size first second four says good few most =
    long-payload bytes head payload rest at size (first ∙ ap (λ m. head ++ m) second) four says good few most

pub reads-part : (old mid new : Option (List ℕ)) (head payload : List ℕ) (at place size : ℕ) → Moved old mid [] head → Moved mid new [] payload → IsReadToEnd new → length head ≡ 4 → size ≡ from_be_bytes w32 head → is_no_size size ≡ false
    → length payload < size → at + (4 + length payload) < link_bytes → Reads old new at (Err (fault.Frame place))
reads-part None mid new head payload at place size first second end four says good few below = tt
reads-part (Some bytes) None new head payload at place size first second end four says good few below = absurd first
reads-part (Some bytes) (Some mid) None head payload at place size first second end four says good few below = absurd second
reads-part (Some bytes) (Some mid) (Some rest) head payload at place size first second end four says good few below =
    ends-in-payload bytes head payload at size (first ∙ ap (λ m. head ++ m) (second ∙ ap (λ r. payload ++ r) end ∙ append-nil payload)) four says good few below

pub reads-whole : (old mid new : Option (List ℕ)) (head payload : List ℕ) (at size : ℕ) → Moved old mid [] head → Moved mid new [] payload → length head ≡ 4 → size ≡ from_be_bytes w32 head → is_no_size size ≡ false
    → length payload ≡ size → at + (4 + size) < link_bytes → Reads old new at (Ok (Some payload))
reads-whole None mid new head payload at size first second four says good full below = tt
reads-whole (Some bytes) None new head payload at size first second four says good full below = absurd first
reads-whole (Some bytes) (Some mid) None head payload at size first second four says good full below = absurd second
reads-whole (Some bytes) (Some mid) (Some rest) head payload at size first second four says good full below =
    let whole = whole-frame bytes head payload rest at size (first ∙ ap (λ m. head ++ m) second) four says good full below in
    (whole.0, whole.1, ap (λ r. Some r) whole.2, whole.3)

pub reads-long-head : (old new : Option (List ℕ)) (head : List ℕ) (at : ℕ) → Moved old new [] head → length head ≤ 4 → link_bytes ≤ at + length head → Reads old new at (Err fault.Long)
reads-long-head None new head at moved few most = tt
reads-long-head (Some bytes) None head at moved few most = absurd moved
reads-long-head (Some bytes) (Some rest) head at moved few most = long-head bytes head rest at moved few most

pub reads-none : (old new : Option (List ℕ)) (head : List ℕ) (at : ℕ) → Moved old new [] head → IsReadToEnd new → length head ≡ 0 → at < link_bytes → Reads old new at (Ok None)
reads-none None new head at moved end none below = tt
reads-none (Some bytes) None head at moved end none below = absurd moved
reads-none (Some bytes) (Some rest) [] at moved end none below = (moved ∙ end, below, ap (λ r. Some r) end)
reads-none (Some bytes) (Some rest) (b ∷ head) at moved end none below = cc none

pub reads-cut-head : (old new : Option (List ℕ)) (head : List ℕ) (at place : ℕ) → Moved old new [] head → IsReadToEnd new → length head < 4 → 0 < length head → at + length head < link_bytes
    → Reads old new at (Err (fault.Frame place))
reads-cut-head None new head at place moved end few some below = tt
reads-cut-head (Some bytes) None head at place moved end few some below = absurd moved
reads-cut-head (Some bytes) (Some rest) head at place moved end few some below =
    ends-in-head bytes head at (moved ∙ ap (λ r. head ++ r) end ∙ append-nil head) few some below
