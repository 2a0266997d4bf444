-- The requests that are given one by one are those of the whole script.
use Rattle.std.proofs.Common.{◌≡◌, ℕ, zero, suc, ◌+◌, ◌*◌, ◌<◌, ◌≤◌, ◌==◌, ◌||◌, Bool, true, false, if◌then◌else◌, List, [], ◌∷◌, ◌++◌, length, decimal, codes, refl, ap, ◌∙◌, sym, append_assoc, append-nil, arith}
use Rattle.std.specs.Prelude.{map, flat_map}
use Rattle.std.proofs.lemmas.Bool.{true≢false}
use Rattle.std.proofs.lemmas.List.Folds.{list_any-append}
use Rattle.ge_model_rows.specs.Pieces.{is_digits, has_byte}
use Rattle.ge_model_rows.proofs.Digits.{decimal_digits, all_digits, digits_without}
use Rattle.ge_model_grammar.specs.ScriptLines.{is_line_feed, put_byte, lines_of, is_header, put_line, cut_requests, requests_in, requests_of}
use Rattle.ge_model_grammar.specs.Events.{event_of, events_of}
use Rattle.ge_script.proofs.FirstRequest.{rest_of_requests}
use Rattle.ge_model_grammar.specs.Generated.{request, opening_requests, reserve_word, submit_line, submit_request, run_request, end_line, end_request, has_run, has_end, requests_from, generated_requests, script_of_requests, generated_script, state_behind_job}
use Rattle.ge_outside.specs.Draws.{next_state, drawn}

-- ---- lines without a line feed inside

abbrev IsBare : List ℕ → Type 0
IsBare line = has_byte 10 line ≡ false

abbrev closed : List ℕ → List ℕ
closed line = line ++ 10 ∷ []

bare-append : (xs ys : List ℕ) → IsBare xs → IsBare ys → IsBare (xs ++ ys)
bare-append xs ys left right = list_any-append (λ b. b == 10) xs ys ∙ (λ i. left i || right i)

bare-number : (n : ℕ) → IsBare (decimal n)
bare-number n = digits_without 10 (decimal n) refl (all_digits (decimal n) (decimal_digits n))

neither : (u v : Bool) → (u || v) ≡ false → (u ≡ false) × (v ≡ false)
neither true v h = absurd (true≢false h)
neither false v h = (refl, h)

plain-byte : (b : ℕ) (first : List ℕ) (others : List (List ℕ)) → is_line_feed b ≡ false → put_byte b (first ∷ others) ≡ (b ∷ first) ∷ others
plain-byte b first others plain = rw plain refl

first-line : (line rest : List ℕ) → IsBare line → lines_of (line ++ (10 ∷ rest)) ≡ closed line ∷ lines_of rest
first-line [] rest bare = refl
first-line (b ∷ line) rest bare =
    let (here, later) = neither (b == 10) (has_byte 10 line) bare in
    ap (put_byte b) (first-line line rest later) ∙ plain-byte b (closed line) (lines_of rest) here

-- ---- the text of a request, and what follows it

abbrev AreTexts : List (List ℕ) → Type 0
AreTexts [] = Unit {0}
AreTexts (line ∷ lines) = IsBare line × (is_header (closed line) ≡ false) × AreTexts lines

abbrev Begins : List ℕ → Type 0
Begins rest = 0 < length rest → is_header rest ≡ true

text-line : (line : List ℕ) (p : List ℕ × List (List ℕ)) → is_header line ≡ false → put_line line p ≡ (line ++ p.0, p.1)
text-line line (text, requests) h = rw h refl

cut-texts : (lines : List (List ℕ)) (rest : List ℕ) → AreTexts lines → Begins rest
    → ◌≡◌ {A = List ℕ × List (List ℕ)} (cut_requests (lines_of (flat_map closed lines ++ rest))) (flat_map closed lines, requests_of rest)
cut-texts [] rest texts begins = rest_of_requests rest begins
cut-texts (line ∷ lines) rest texts begins =
    let behind = flat_map closed lines ++ rest in
    let apart : (closed line ++ flat_map closed lines) ++ rest ≡ line ++ (10 ∷ behind) =
    append_assoc (closed line) (flat_map closed lines) rest ∙ append_assoc line (10 ∷ []) behind in
    ap (λ bytes. cut_requests (lines_of bytes)) apart
    ∙ ap cut_requests (first-line line behind texts.0)
    ∙ text-line (closed line) (cut_requests (lines_of behind)) texts.1
    ∙ ap (λ (p : List ℕ × List (List ℕ)). (closed line ++ p.0, p.1)) (cut-texts lines rest texts.2 begins)

-- a request by its lines: the header begins one whatever follows, and no text line does
record IsRequest (bytes : List ℕ) : Type 0 where
  header : List ℕ
  lines : List (List ℕ)
  is : bytes ≡ closed header ++ flat_map closed lines
  bare : IsBare header
  begins : (more : List ℕ) → is_header (header ++ more) ≡ true
  texts : AreTexts lines

request-first : (bytes rest : List ℕ) (r : IsRequest bytes) → Begins rest → requests_of (bytes ++ rest) ≡ bytes ∷ requests_of rest
request-first bytes rest r begins =
    let behind = flat_map closed r.lines ++ rest in
    let apart : bytes ++ rest ≡ r.header ++ (10 ∷ behind) =
    ap (λ z. z ++ rest) r.is ∙ append_assoc (closed r.header) (flat_map closed r.lines) rest ∙ append_assoc r.header (10 ∷ []) behind in
    ap requests_of apart
    ∙ ap requests_in (first-line r.header behind r.bare)
    ∙ ap (λ (p : List ℕ × List (List ℕ)). (closed r.header ++ p.0) ∷ p.1) (cut-texts r.lines rest r.texts begins)
    ∙ ap (λ z. z ∷ requests_of rest) (sym r.is)

abbrev AreRequests : List (List ℕ) → Type 0
AreRequests [] = Unit {0}
AreRequests (r ∷ requests) = IsRequest r × AreRequests requests

all-begin : (requests : List (List ℕ)) → AreRequests requests → Begins (script_of_requests requests)
all-begin [] are some = absurd (omega arith)
all-begin (r ∷ requests) are some =
    let one = are.0 in
    let apart : r ++ script_of_requests requests ≡ one.header ++ (10 ∷ (flat_map closed one.lines ++ script_of_requests requests)) =
    ap (λ z. z ++ script_of_requests requests) one.is
    ∙ append_assoc (closed one.header) (flat_map closed one.lines) (script_of_requests requests)
    ∙ append_assoc one.header (10 ∷ []) (flat_map closed one.lines ++ script_of_requests requests) in
    ap is_header apart ∙ one.begins (10 ∷ (flat_map closed one.lines ++ script_of_requests requests))

requests-back : (requests : List (List ℕ)) → AreRequests requests → requests_of (script_of_requests requests) ≡ requests
requests-back [] are = refl
requests-back (r ∷ requests) are =
    request-first r (script_of_requests requests) are.0 (all-begin requests are.1) ∙ ap (λ z. r ∷ z) (requests-back requests are.1)

-- ---- the requests that are given

digits-begin : (digits more : List ℕ) → is_digits digits ≡ true → is_header (64 ∷ (digits ++ more)) ≡ true
digits-begin [] more are = absurd (true≢false (sym are))
digits-begin (d ∷ digits) more are = grind arith

-- a request of one text line
one-line : (moment : ℕ) (user group line : List ℕ) → IsBare user → IsBare group → IsBare line → is_header (closed line) ≡ false → IsRequest (request moment user group line)
one-line moment user group line bare_user bare_group bare_line text = record {
  header = header;
  lines = line ∷ [];
  is = same;
  bare = bare-append (codes "@" ++ decimal moment ++ codes " " ++ user ++ codes " ") group
      (bare-append (codes "@" ++ decimal moment ++ codes " " ++ user) (codes " ")
      (bare-append (codes "@" ++ decimal moment ++ codes " ") user
      (bare-append (codes "@" ++ decimal moment) (codes " ") (bare-append (codes "@") (decimal moment) refl (bare-number moment)) refl) bare_user) refl) bare_group;
  begins = λ more. ap is_header (ahead more) ∙ digits-begin (decimal moment) (codes " " ++ (user ++ (codes " " ++ (group ++ more)))) (decimal_digits moment);
  texts = (bare_line, text, tt);
}
  where
    header : List ℕ
    header = codes "@" ++ decimal moment ++ codes " " ++ user ++ codes " " ++ group

    same : request moment user group line ≡ closed header ++ (closed line ++ [])
    same = append_assoc (closed header) line (codes "\n") ∙ ap (λ z. closed header ++ z) (sym (append-nil (closed line)))

    ahead : (more : List ℕ) → header ++ more ≡ 64 ∷ (decimal moment ++ (codes " " ++ (user ++ (codes " " ++ (group ++ more)))))
    ahead more =
        append_assoc (codes "@" ++ decimal moment ++ codes " " ++ user ++ codes " ") group more
        ∙ append_assoc (codes "@" ++ decimal moment ++ codes " " ++ user) (codes " ") (group ++ more)
        ∙ append_assoc (codes "@" ++ decimal moment ++ codes " ") user (codes " " ++ (group ++ more))
        ∙ append_assoc (codes "@" ++ decimal moment) (codes " ") (user ++ (codes " " ++ (group ++ more)))
        ∙ append_assoc (codes "@") (decimal moment) (codes " " ++ (user ++ (codes " " ++ (group ++ more))))

bare-reserve : (draw : ℕ) → IsBare (reserve_word draw)
bare-reserve draw = by (draw == 0)
  where
    by : (t : Bool) → IsBare (if t then codes "y" else codes "n")
    by true = refl
    by false = refl

bare-submit : (job minutes reserve : ℕ) → IsBare (submit_line job minutes reserve)
bare-submit job minutes reserve =
    let a = bare-append (codes "qsub -N g") (decimal job) refl (bare-number job) in
    let b = bare-append (codes "qsub -N g" ++ decimal job) (codes " -l h_rt=") a refl in
    let c = bare-append (codes "qsub -N g" ++ decimal job ++ codes " -l h_rt=") (decimal (60 * (minutes + 1))) b (bare-number (60 * (minutes + 1))) in
    let d = bare-append (codes "qsub -N g" ++ decimal job ++ codes " -l h_rt=" ++ decimal (60 * (minutes + 1))) (codes " -R ") c refl in
    let e = bare-append (codes "qsub -N g" ++ decimal job ++ codes " -l h_rt=" ++ decimal (60 * (minutes + 1)) ++ codes " -R ") (reserve_word reserve) d (bare-reserve reserve) in
    bare-append (codes "qsub -N g" ++ decimal job ++ codes " -l h_rt=" ++ decimal (60 * (minutes + 1)) ++ codes " -R " ++ reserve_word reserve) (codes " work") e refl

bare-end : (serial seconds : ℕ) → IsBare (end_line serial seconds)
bare-end serial seconds =
    let a = bare-append (codes "end ") (decimal serial) refl (bare-number serial) in
    let b = bare-append (codes "end " ++ decimal serial) (codes " 0 ") a refl in
    let c = bare-append (codes "end " ++ decimal serial ++ codes " 0 ") (decimal seconds) b (bare-number seconds) in
    bare-append (codes "end " ++ decimal serial ++ codes " 0 " ++ decimal seconds) (codes " 0 0") c refl

is-submit : (job state : ℕ) → IsRequest (submit_request job state)
unfolding submit_request
is-submit job state =
    let first = next_state state in
    let second = next_state first in
    let third = next_state second in
    one-line (10 * job) (codes "u" ++ decimal (drawn first 5)) (codes "gen") (submit_line job (drawn second 20) (drawn third 4))
    (bare-append (codes "u") (decimal (drawn first 5)) refl (bare-number (drawn first 5))) refl (bare-submit job (drawn second 20) (drawn third 4)) refl

is-run : (job : ℕ) → IsRequest (run_request job)
unfolding run_request
is-run job = one-line _ _ _ _ refl refl refl refl

is-end : (job state : ℕ) → IsRequest (end_request job state)
unfolding end_request
is-end job state = one-line _ _ _ _ refl refl (bare-end _ _) refl

if-any : (t : Bool) (r : List ℕ) (rest : List (List ℕ)) → IsRequest r → AreRequests rest → AreRequests ((if t then r ∷ [] else []) ++ rest)
if-any true r rest one are = (one, are)
if-any false r rest one are = are

are-from : (more job state : ℕ) → AreRequests (requests_from more job state)
are-from zero job state = tt
are-from (suc more) job state = (
  is-submit job state,
  if-any (has_run job) (run_request job) _ (is-run job)
      (if-any (has_end job) (end_request job (state_behind_job state)) _ (is-end job (state_behind_job state))
      (are-from more (job + 1) (if has_end job then next_state (state_behind_job state) else state_behind_job state))),
)

opening : (header : List ℕ) (lines : List (List ℕ)) → IsBare header → ((more : List ℕ) → is_header (header ++ more) ≡ true) → AreTexts lines → IsRequest (closed header ++ flat_map closed lines)
opening header lines bare begins texts = record { header = header; lines = lines; is = refl; bare = bare; begins = begins; texts = texts }

host : (name : List ℕ) → IsBare name → is_header (closed name) ≡ false → IsRequest (closed (codes "@0 root root") ++ flat_map closed (codes "qconf -Ae" ∷ name ∷ []))
host name bare text = opening (codes "@0 root root") (codes "qconf -Ae" ∷ name ∷ []) refl (λ more. refl) (refl, refl, (bare, text, tt))

queue : IsRequest (closed (codes "@0 root root") ++ flat_map closed (codes "qconf -Aq" ∷ codes "qname gen.q" ∷ codes "hostlist g0 g1 g2 g3 g4 g5 g6 g7" ∷ codes "slots 4" ∷ []))
queue = opening (codes "@0 root root") (codes "qconf -Aq" ∷ codes "qname gen.q" ∷ codes "hostlist g0 g1 g2 g3 g4 g5 g6 g7" ∷ codes "slots 4" ∷ []) refl (λ more. refl) (refl, refl, (refl, refl, (refl, refl, (refl, refl, tt))))

settings : IsRequest (closed (codes "@0 root root") ++ flat_map closed (codes "qconf -Msconf" ∷ codes "max_reservation 4" ∷ []))
settings = opening (codes "@0 root root") (codes "qconf -Msconf" ∷ codes "max_reservation 4" ∷ []) refl (λ more. refl) (refl, refl, (refl, refl, tt))

are-opening : (rest : List (List ℕ)) → AreRequests rest → AreRequests (opening_requests ++ rest)
are-opening rest are =
    let h0 = host (codes "hostname g0") refl refl in
    let h1 = host (codes "hostname g1") refl refl in
    let h2 = host (codes "hostname g2") refl refl in
    let h3 = host (codes "hostname g3") refl refl in
    let h4 = host (codes "hostname g4") refl refl in
    let h5 = host (codes "hostname g5") refl refl in
    let h6 = host (codes "hostname g6") refl refl in
    let h7 = host (codes "hostname g7") refl refl in
    (h0, (h1, (h2, (h3, (h4, (h5, (h6, (h7, (queue, (settings, are))))))))))

-- the script's requests are those that are given
pub requests_of-generated : (number : ℕ) → requests_of (generated_script number) ≡ generated_requests number
unfolding generated_requests
requests_of-generated number = requests-back (opening_requests ++ requests_from number 1 number) (are-opening (requests_from number 1 number) (are-from number 1 number))

-- and its events are theirs
pub events_of-generated : (number : ℕ) → events_of (generated_script number) ≡ map event_of (generated_requests number)
unfolding events_of
events_of-generated number = ap (map event_of) (requests_of-generated number)

-- a job brings three requests at most
if-length : (t : Bool) (r : List ℕ) (rest : List (List ℕ)) → length ((if t then r ∷ [] else []) ++ rest) ≤ 1 + length rest
if-length true r rest = omega arith
if-length false r rest = omega arith

from-few : (more job state : ℕ) → length (requests_from more job state) ≤ 3 * more
from-few zero job state = omega arith
from-few (suc more) job state =
    let behind = state_behind_job state in
    let later = if has_end job then next_state behind else behind in
    let rest = requests_from more (job + 1) later in
    let ends = (if has_end job then end_request job behind ∷ [] else []) ++ rest in
    omega (arith, from-few more (job + 1) later, if-length (has_run job) (run_request job) ends, if-length (has_end job) (end_request job behind) rest)

pub requests-few : (number : ℕ) → length (generated_requests number) ≤ 10 + 3 * number
unfolding generated_requests
requests-few number = omega (arith, from-few number 1 number)
