-- The requests that a script begins with.
use Rattle.std.proofs.Common.{◌≡◌, ℕ, ◌+◌, ◌<◌, true, false, List, [], ◌∷◌, ◌++◌, take, drop, length, refl, ap, ◌∙◌, sym, append_assoc, arith}
use Rattle.std.proofs.lemmas.List.{drop-drop}
use Rattle.std.proofs.Math.Seq.{take-add}
use Rattle.ge_model_grammar.specs.ScriptLines.{lines_of, is_header, put_line, cut_requests, requests_in, requests_of}
use Rattle.ge_model_grammar.proofs.FirstLine.{first_len, lines_of-first_at, is_header-first_len, is_header-first}

put_text : (line : List ℕ) (p : List ℕ × List (List ℕ)) → is_header line ≡ false → put_line line p ≡ (line ++ p.0, p.1)
put_text line (text, requests) h = rw h refl

put_header : (line : List ℕ) (p : List ℕ × List (List ℕ)) → is_header line ≡ true → put_line line p ≡ ([], (line ++ p.0) ∷ p.1)
put_header line (text, requests) h = rw h refl

-- the line that was taken belongs to the request before it
pub next_text_line : (bs : List ℕ) (end n : ℕ) → 0 < length (drop end bs) → is_header (drop end bs) ≡ false
    → lines_of (drop end bs) ≡ take n (drop end bs) ∷ lines_of (drop n (drop end bs))
    → requests_of bs ≡ (take end bs ++ (cut_requests (lines_of (drop end bs))).0) ∷ (cut_requests (lines_of (drop end bs))).1
    → requests_of bs ≡ (take (end + n) bs ++ (cut_requests (lines_of (drop (end + n) bs))).0) ∷ (cut_requests (lines_of (drop (end + n) bs))).1
next_text_line bs end n some text is so_far =
    let rest = cut_requests (lines_of (drop n (drop end bs))) in
    let after : cut_requests (lines_of (drop end bs)) ≡ (take n (drop end bs) ++ rest.0, rest.1) =
    ap cut_requests is ∙ put_text (take n (drop end bs)) rest (is_header-first (drop end bs) n some is ∙ text) in
    let joined : take end bs ++ (take n (drop end bs) ++ rest.0) ≡ take (end + n) bs ++ rest.0 =
    rw (take-add end n bs, append_assoc) in
    let onward : drop (end + n) bs ≡ drop n (drop end bs) = sym (drop-drop n end bs) in
    rw onward (rw (← joined) (rw after at so_far))

-- what is left begins a request or is empty, so it is the requests that are left
pub rest_of_requests : (bs : List ℕ) → (0 < length bs → is_header bs ≡ true) → cut_requests (lines_of bs) ≡ ([], requests_of bs)
rest_of_requests [] header = refl
rest_of_requests (b ∷ bs) header =
    let at = lines_of-first_at b bs in
    let line = take (first_len (b ∷ bs)) (b ∷ bs) in
    let rest = cut_requests (lines_of (drop (first_len (b ∷ bs)) (b ∷ bs))) in
    let begins : is_header line ≡ true = is_header-first_len (b ∷ bs) ∙ header (omega arith) in
    ap cut_requests at ∙ put_header line rest begins ∙ ap (λ (r : List (List ℕ)). ([], requests_in r)) (sym at)
