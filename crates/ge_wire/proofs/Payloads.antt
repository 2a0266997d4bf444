-- What is sent: a line of names, and the input behind it.
use Rattle.std.proofs.Common.{◌≡◌, ℕ, ◌+◌, ◌<◌, ◌≤◌, min, List, [], ◌∷◌, ◌++◌, length, take, refl, sym, ap, ◌∙◌, arith, append_assoc, Option, Some, None, IfSome}
use Rattle.std.proofs.lemmas.List.{length-append, length-take, append-nil}
use Rattle.ge_limits.specs.Limits.{text_bytes}
use Rattle.ge_outside.specs.Doors.{ClosedLink}
use Rattle.ge_model_grammar.specs.Sources.{Moved, IsReadToEnd}
use Rattle.ge_model_wire.specs.Questions.{payload_of}
use Rattle.ge_wire.specs.Asked.{IsSendable, IsTooLong, Replies}

-- the line, made of its parts
pub line-of : (user group : List ℕ) → ((user ++ 32 ∷ []) ++ group) ++ 10 ∷ [] ≡ payload_of user group []
line-of user group = ap (λ xs. xs ++ 10 ∷ []) (append_assoc user (32 ∷ []) group)

-- a payload is the line and the text
pub payload-of : (user group text : List ℕ) → payload_of user group [] ++ text ≡ payload_of user group text
payload-of user group text = append_assoc (user ++ 32 ∷ group) (10 ∷ []) text

-- the whole input was read behind the line
pub sent-of : (user group line payload : List ℕ) (old new : Option (List ℕ)) → line ≡ payload_of user group [] → Moved old new line payload → IsReadToEnd new → IfSome old (λ text. payload ≡ payload_of user group text)
sent-of user group line payload None new same moved end = tt
sent-of user group line payload (Some text) None same moved end = absurd moved
sent-of user group line payload (Some text) (Some rest) same moved end =
    sym (append-nil payload) ∙ ap (λ xs. payload ++ xs) (sym end) ∙ sym moved ∙ ap (λ xs. xs ++ text) same ∙ payload-of user group text

-- more was read than may be sent
pub too-long : (user group line bytes : List ℕ) (old new : Option (List ℕ)) → line ≡ payload_of user group [] → Moved old new line bytes → text_bytes < length bytes → IsTooLong user group old
too-long user group line bytes None new same moved long = tt
too-long user group line bytes (Some text) None same moved long = absurd moved
too-long user group line bytes (Some text) (Some rest) same moved long =
    omega (arith, long, length-append bytes rest, ap length moved, ap length (ap (λ xs. xs ++ text) same ∙ payload-of user group text))

-- the line alone is longer than what may be sent
pub too-long-line : (user group line : List ℕ) (old : Option (List ℕ)) → line ≡ payload_of user group [] → text_bytes < length line → IsTooLong user group old
too-long-line user group line None same long = tt
too-long-line user group line (Some text) same long =
    omega (arith, long, length-append line text, ap length (ap (λ xs. xs ++ text) same ∙ payload-of user group text))

-- what was replied to could be sent
pub sendable-of : (user group : List ℕ) (input rest : Option (List ℕ)) (coming coming_new : Option (List (List ℕ))) (closed closed_new : Option (List ClosedLink)) (reply : List ℕ)
    → Replies user group input rest coming coming_new closed closed_new reply → IsSendable user group input
sendable-of user group None rest coming coming_new closed closed_new reply r = tt
sendable-of user group (Some text) rest coming coming_new closed closed_new reply r = omega (arith, r.fits, ap length r.sent)

-- a payload that was read whole could be sent
pub sendable : (user group payload : List ℕ) (input : Option (List ℕ)) → IfSome input (λ text. payload ≡ payload_of user group text) → length payload ≤ text_bytes → IsSendable user group input
sendable user group payload None sent fits = tt
sendable user group payload (Some text) sent fits = omega (arith, fits, ap length sent)

-- a payload that begins with the line has a byte
pub some-of : (user group line payload : List ℕ) (n : ℕ) → line ≡ payload_of user group [] → take n payload ≡ line → 0 < length payload
some-of user group line payload n same kept =
    let one : length ((user ++ 32 ∷ group) ++ 10 ∷ []) ≡ length (user ++ 32 ∷ group) + 1 = length-append (user ++ 32 ∷ group) (10 ∷ []) in
    let line_is : length line ≡ length ((user ++ 32 ∷ group) ++ 10 ∷ []) = ap length same in
    let taken : length (take n payload) ≡ length line = ap length kept in
    omega (arith, taken, line_is, one, length-take n payload)
