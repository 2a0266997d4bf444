-- Where the first request of a script ends, of which only a front may be read yet.
use Rattle.std.proofs.Common.{◌≡◌, ℕ, zero, suc, ◌+◌, ◌-◌, ◌<◌, ◌≤◌, ⊎_elim, Bool, true, false, cond, ◌&&◌, ◌||◌, if◌then◌else◌, nat_lt, Option, Some, None, List, [], ◌∷◌, ◌++◌, take, drop, length, refl, ap, ◌∙◌, sym, subst, arith}
use Rattle.std.specs.Prelude.{map}
use Rattle.std.specs.List.{onto_first}
use Rattle.std.proofs.lemmas.Bool.{true≢false, cases_order, lt-ltb}
use Rattle.std.proofs.lemmas.List.{length-drop, length-take, length-append, drop-drop, take-append-le, take-append-drop, drop-append-le, append-nil}
use Rattle.ge_model_grammar.specs.ScriptLines.{is_line_feed, lines_of, is_header, has_long_line, cut_requests, requests_in, requests_of}
use Rattle.ge_model_grammar.proofs.FirstLine.{first_len, lines_of-first_at, is_header-first_len}
use Rattle.ge_rows.specs.declared.events.Form.TheVariants.{TooLong}
use Rattle.ge_model_grammar.specs.Events.{unread, event_in, event_of, events_of}
use Rattle.ge_limits.specs.Limits as limit
use Rattle.ge_script.specs.Pieces.{ends_request, HasPassed, coming_of}

-- how many bytes stand before the first line that begins a request, the first line aside unless it begins here
abbrev first_end : Bool → List ℕ → ℕ
first_end at_line [] = 0
first_end false (b ∷ bs) = suc (first_end (is_line_feed b) bs)
first_end true (b ∷ bs) = elim (is_header (b ∷ bs)) [ true ↦ 0 | false ↦ suc (first_end (is_line_feed b) bs) ]

-- the text before the first header, and the requests from there on
abbrev TextEnds : List ℕ → Type 0
TextEnds bs = ◌≡◌ {A = List ℕ × List (List ℕ)} (cut_requests (lines_of bs)) (take (first_end true bs) bs, requests_of (drop (first_end true bs) bs))

-- the first request ends before the next header
abbrev RequestEnds : ℕ → List ℕ → Type 0
RequestEnds b bs = requests_of (b ∷ bs) ≡ (b ∷ take (first_end (is_line_feed b) bs) bs) ∷ requests_of (drop (first_end (is_line_feed b) bs) bs)

abbrev TailEnds : List ℕ → Type 0
TailEnds [] = Unit {0}
TailEnds (c ∷ cs) = RequestEnds c cs

onto-requests : (b : ℕ) (lines : List (List ℕ)) → requests_in (onto_first b lines) ≡ onto_first b (requests_in lines)
onto-requests b [] = refl
onto-requests b (l ∷ ls) = refl

request-by : (t : Bool) (b : ℕ) (bs : List ℕ) → TextEnds bs → TailEnds bs
    → requests_in (cond t ((b ∷ []) ∷ lines_of bs) (onto_first b (lines_of bs))) ≡ (b ∷ take (first_end t bs) bs) ∷ requests_of (drop (first_end t bs) bs)
request-by true b bs text tail = ap (λ (p : List ℕ × List (List ℕ)). (b ∷ p.0) ∷ p.1) text
request-by false b [] text tail = refl
request-by false b (c ∷ cs) text tail = onto-requests b (lines_of (c ∷ cs)) ∙ ap (onto_first b) tail

-- the text before the first header by the first request
cut-by : (l : List ℕ) (ls : List (List ℕ)) (first : List ℕ) (others : List (List ℕ)) → requests_in (l ∷ ls) ≡ first ∷ others
    → cut_requests (l ∷ ls) ≡ elim (is_header l) as (λ t. List ℕ × List (List ℕ)) [ true ↦ ([], first ∷ others) | false ↦ (first, others) ]
cut-by l ls first others is =
    let same : l ++ (cut_requests ls).0 ≡ first = cc in
    let rest : (cut_requests ls).1 ≡ others = cc in
    elim (is_header l) as (λ t. cond t ([], (l ++ (cut_requests ls).0) ∷ (cut_requests ls).1) (l ++ (cut_requests ls).0, (cut_requests ls).1) ≡ elim t as (λ t. List ℕ × List (List ℕ)) [ true ↦ ([], first ∷ others) | false ↦ (first, others) ])
    [ true ↦ (λ i. ([], same i ∷ rest i)) | false ↦ (λ i. (same i, rest i)) ]

text-of : (h : Bool) (bs : List ℕ) (k : ℕ) (first : List ℕ) (others : List (List ℕ)) → requests_of bs ≡ first ∷ others → first ≡ take k bs → others ≡ requests_of (drop k bs)
    → ◌≡◌ {A = List ℕ × List (List ℕ)} (elim h as (λ t. List ℕ × List (List ℕ)) [ true ↦ ([], first ∷ others) | false ↦ (first, others) ])
    (take (elim h as (λ t. ℕ) [ true ↦ 0 | false ↦ k ]) bs, requests_of (drop (elim h as (λ t. ℕ) [ true ↦ 0 | false ↦ k ]) bs))
text-of true bs k first others all front back = λ i. ([], sym all i)
text-of false bs k first others all front back = λ i. (front i, back i)

text-ends : (c : ℕ) (cs : List ℕ) → RequestEnds c cs → TextEnds (c ∷ cs)
text-ends c cs request =
    let bs = c ∷ cs in
    let l = take (first_len bs) bs in
    let ls = lines_of (drop (first_len bs) bs) in
    let lines : lines_of bs ≡ l ∷ ls = lines_of-first_at c cs in
    let k = first_end (is_line_feed c) cs in
    ap cut_requests lines
    ∙ cut-by l ls (c ∷ take k cs) (requests_of (drop k cs)) (ap requests_in (sym lines) ∙ request)
    ∙ ap (λ h. elim h as (λ t. List ℕ × List (List ℕ)) [ true ↦ ([], (c ∷ take k cs) ∷ requests_of (drop k cs)) | false ↦ (c ∷ take k cs, requests_of (drop k cs)) ]) (is_header-first_len bs)
    ∙ text-of (is_header bs) bs (suc k) (c ∷ take k cs) (requests_of (drop k cs)) request refl refl

both-end : (bs : List ℕ) → TextEnds bs × ((b : ℕ) → RequestEnds b bs)
both-end [] = (refl, λ b. request-by (is_line_feed b) b [] refl tt)
both-end (c ∷ cs) =
    let rest = both-end cs in
    let request : RequestEnds c cs = rest.1 c in
    let text : TextEnds (c ∷ cs) = text-ends c cs request in
    (text, λ b. request-by (is_line_feed b) b (c ∷ cs) text request)

-- one step of the search for the end
first_end-here : (t : Bool) (c : ℕ) (cs : List ℕ) → (t && is_header (c ∷ cs)) ≡ true → first_end t (c ∷ cs) ≡ 0
first_end-here true c cs here = ap (λ t. elim t as (λ u. ℕ) [ true ↦ 0 | false ↦ suc (first_end (is_line_feed c) cs) ]) here
first_end-here false c cs here = absurd (true≢false (sym here))

first_end-later : (t : Bool) (c : ℕ) (cs : List ℕ) → (t && is_header (c ∷ cs)) ≡ false → first_end t (c ∷ cs) ≡ suc (first_end (is_line_feed c) cs)
first_end-later true c cs later = ap (λ t. elim t as (λ u. ℕ) [ true ↦ 0 | false ↦ suc (first_end (is_line_feed c) cs) ]) later
first_end-later false c cs later = refl

-- a place that ends a request, and none before it
first_end-is : (b : ℕ) (bs : List ℕ) (end : ℕ) → end ≤ length bs → ((k : ℕ) → k < end → ends_request (drop k (b ∷ bs)) ≡ false)
    → (end < length bs → ends_request (drop end (b ∷ bs)) ≡ true) → first_end (is_line_feed b) bs ≡ end
first_end-is b [] end within before here = omega arith
first_end-is b (c ∷ cs) zero within before here = first_end-here (is_line_feed b) c cs (here (omega arith))
first_end-is b (c ∷ cs) (suc end) within before here =
    first_end-later (is_line_feed b) c cs (before 0 (omega arith))
    ∙ ap suc (first_end-is c cs end (omega arith) (λ k less. before (suc k) (omega arith)) (λ less. here (omega arith)))

-- the first request ends at the first place that ends one, or at the end
pub request-ends : (bs : List ℕ) (end : ℕ) → end < length bs → ((k : ℕ) → k < end → ends_request (drop k bs) ≡ false)
    → (suc end < length bs → ends_request (drop end bs) ≡ true) → requests_of bs ≡ take (suc end) bs ∷ requests_of (drop (suc end) bs)
request-ends [] end within before here = absurd (omega arith)
request-ends (b ∷ bs) end within before here =
    let is : first_end (is_line_feed b) bs ≡ end = first_end-is b bs end (omega arith) before (λ less. here (omega arith)) in
    (both-end bs).1 b ∙ (λ i. (b ∷ take (is i) bs) ∷ requests_of (drop (is i) bs))

-- two bytes behind the first tell whether a request ends there
ends-told : (bs more : List ℕ) → 3 ≤ length bs → ends_request (bs ++ more) ≡ ends_request bs
ends-told [] more three = absurd (omega arith)
ends-told (a ∷ []) more three = absurd (omega arith)
ends-told (a ∷ b ∷ []) more three = absurd (omega arith)
ends-told (a ∷ b ∷ c ∷ bs) more three = refl

ends-later : (bs more : List ℕ) (k : ℕ) → k + 3 ≤ length bs → ends_request (drop k (bs ++ more)) ≡ ends_request (drop k bs)
ends-later bs more k room =
    ap ends_request (drop-append-le k bs more (omega arith)) ∙ ends-told (drop k bs) more (omega (arith, length-drop k bs))

-- what follows changes nothing of what was passed
pub passed_more : (passed : ℕ) (bs more : List ℕ) → HasPassed passed bs → HasPassed passed (bs ++ more)
passed_more passed bs more has k less =
    (omega (arith, (has k less).0, length-append bs more), ends-later bs more k (has k less).0 ∙ (has k less).1)

-- no request ends before this place
abbrev pub NoneEnds : ℕ → List ℕ → Type 0
NoneEnds end bs = (k : ℕ) → k < end → ends_request (drop k bs) ≡ false

-- the first of these bytes are the first request, and it doesn't matter what follows
abbrev pub IsFirst : ℕ → List ℕ → List ℕ → Type 0
IsFirst n bs more = requests_of (bs ++ more) ≡ take n bs ∷ requests_of (drop n bs ++ more)

-- a first request whose end was seen is the first one whatever follows
front-first : (bs more : List ℕ) (end : ℕ) → end + 3 ≤ length bs → NoneEnds end bs → ends_request (drop end bs) ≡ true → IsFirst (suc end) bs more
front-first bs more end room before here =
    let front : take (suc end) (bs ++ more) ≡ take (suc end) bs = take-append-le (suc end) bs more (omega arith) in
    let back : drop (suc end) (bs ++ more) ≡ drop (suc end) bs ++ more = drop-append-le (suc end) bs more (omega arith) in
    request-ends (bs ++ more) end (omega (arith, length-append bs more)) (λ k less. ends-later bs more k (omega arith) ∙ before k less) (λ less. ends-later bs more end room ∙ here)
    ∙ (λ i. front i ∷ requests_of (back i))

-- nor does it matter where nothing follows
whole-first : (bs more : List ℕ) (n : ℕ) → requests_of bs ≡ take n bs ∷ requests_of (drop n bs) → more ≡ [] → IsFirst n bs more
whole-first bs more n is none =
    ap (λ m. requests_of (bs ++ m)) none ∙ ap requests_of (append-nil bs) ∙ is
    ∙ (λ i. take n bs ∷ requests_of (sym (append-nil (drop n bs)) i)) ∙ (λ i. take n bs ∷ requests_of (drop n bs ++ sym none i))

-- what was passed before, and what was passed now
both-passed : (from end limit : ℕ) (bs : List ℕ) → HasPassed from bs → ((k : ℕ) → from ≤ k → k < end → (k < limit) × (ends_request (drop k bs) ≡ false)) → NoneEnds end bs
both-passed from end limit bs passed none k less =
    ⊎_elim (λ same. (none k (omega (arith, same)) less).1) (λ other. ⊎_elim (λ before. (passed k before).1) (λ behind. (none k (omega arith) less).1) other) (cases_order k from)

-- one place more that ends none
pub passed-next : (from at limit : ℕ) (bs : List ℕ) → ((k : ℕ) → from ≤ k → k < at → (k < limit) × (ends_request (drop k bs) ≡ false))
    → at < limit → ends_request (drop at bs) ≡ false → (k : ℕ) → from ≤ k → k < at + 1 → (k < limit) × (ends_request (drop k bs) ≡ false)
passed-next from at limit bs so_far less none k behind before =
    ⊎_elim (λ same. (omega (arith, same), ap (λ n. ends_request (drop n bs)) same ∙ none)) (λ other. ⊎_elim (λ earlier. so_far k behind earlier) (λ later. absurd (omega arith)) other) (cases_order k at)

-- the first place that ends a request, among those that can be judged
pub first-known : (bs : List ℕ) (ended : Bool) (from end limit n : ℕ) → limit ≡ cond ended (length bs) (length bs - 2) → HasPassed from bs
    → ((k : ℕ) → from ≤ k → k < end → (k < limit) × (ends_request (drop k bs) ≡ false)) → (end < limit → ends_request (drop end bs) ≡ true)
    → end < limit → n ≡ end + 1 → (more : List ℕ) → (ended ≡ true → more ≡ []) → IsFirst n bs more
first-known bs true from end limit n is passed none here less size more last =
    let same : n ≡ suc end = omega arith in
    rw same (whole-first bs more (suc end) (request-ends bs end (omega arith) (both-passed from end limit bs passed none) (λ one. here less)) (last refl))
first-known bs false from end limit n is passed none here less size more last =
    let same : n ≡ suc end = omega arith in
    rw same (front-first bs more end (omega arith) (both-passed from end limit bs passed none) (here less))

-- all that there is, where none of it ends a request
pub all-known : (bs : List ℕ) (ended : Bool) (from end limit : ℕ) → limit ≡ cond ended (length bs) (length bs - 2) → ended ≡ true → 0 < length bs → HasPassed from bs
    → ((k : ℕ) → from ≤ k → k < end → (k < limit) × (ends_request (drop k bs) ≡ false)) → limit ≤ end → (more : List ℕ) → (ended ≡ true → more ≡ []) → IsFirst (length bs) bs more
all-known [] ended from end limit is all some passed none far more last = absurd (omega arith)
all-known (b ∷ bs) true from end limit is all some passed none far more last =
    whole-first (b ∷ bs) more (suc (length bs)) (request-ends (b ∷ bs) (length bs) (omega arith) (λ k less. both-passed from end limit (b ∷ bs) passed none k (omega arith)) (λ more. absurd (omega arith))) (last refl)
all-known (b ∷ bs) false from end limit is all some passed none far more last = absurd (true≢false (sym all))

-- what was passed, where more may follow
pub passed-known : (bs : List ℕ) (ended : Bool) (from end limit : ℕ) → limit ≡ cond ended (length bs) (length bs - 2) → ended ≡ false → HasPassed from bs
    → ((k : ℕ) → from ≤ k → k < end → (k < limit) × (ends_request (drop k bs) ≡ false)) → HasPassed end bs
passed-known bs true from end limit is open_end passed none k less = absurd (true≢false open_end)
passed-known bs false from end limit is open_end passed none k less =
    ⊎_elim (λ same. here (omega (arith, same))) (λ other. ⊎_elim (λ before. passed k before) (λ behind. here (omega arith)) other) (cases_order k from)
  where
    here : from ≤ k → (k + 3 ≤ length bs) × (ends_request (drop k bs) ≡ false)
    here behind = (omega (arith, (none k behind less).0), (none k behind less).1)

-- ---- a request that is too long whatever follows

-- where the first request ends
record Ends (bs : List ℕ) : Type 0 where
  end : ℕ
  within : end < length bs
  before : NoneEnds end bs
  here : suc end < length bs → ends_request (drop end bs) ≡ true

ends-by : (b c : ℕ) (cs : List ℕ) (t : Bool) → (is_line_feed b && is_header (c ∷ cs)) ≡ t → Ends (c ∷ cs) → Ends (b ∷ c ∷ cs)
ends-by b c cs true is later = record { end = 0; within = omega arith; before = λ k less. absurd (omega arith); here = λ less. is }
ends-by b c cs false is later = record { end = suc later.end; within = omega (arith, later.within); before = before; here = λ less. later.here (omega arith) }
  where
    before : NoneEnds (suc later.end) (b ∷ c ∷ cs)
    before zero less = is
    before (suc k) less = later.before k (omega arith)

some-end : (b : ℕ) (bs : List ℕ) → Ends (b ∷ bs)
some-end b [] = record { end = 0; within = omega arith; before = λ k less. absurd (omega arith); here = λ less. absurd (omega arith) }
some-end b (c ∷ cs) = ends-by b c cs (is_line_feed b && is_header (c ∷ cs)) refl (some-end c cs)

-- it ends behind what was passed
end-behind : (passed : ℕ) (bs : List ℕ) (e : Ends bs) → HasPassed passed bs → passed ≤ e.end
end-behind passed bs e has =
    ⊎_elim (λ same. omega (arith, same)) (λ other. ⊎_elim (λ less. absurd (true≢false (sym (e.here (omega (arith, (has e.end less).0))) ∙ (has e.end less).1))) (λ more. omega arith) other) (cases_order e.end passed)

too-long : (bytes : List ℕ) → limit.text_bytes < length bytes → event_of bytes ≡ unread TooLong
too-long bytes long = by (nat_lt limit.text_bytes (length bytes)) (has_long_line (lines_of bytes)) (lt-ltb limit.text_bytes (length bytes) long)
  where
    by : (t u : Bool) → t ≡ true → (if t || u then unread TooLong else event_in (lines_of bytes)) ≡ unread TooLong
    by true u is = refl
    by false u is = absurd (true≢false (sym is))

events-first : (bs : List ℕ) (n : ℕ) → requests_of bs ≡ take n bs ∷ requests_of (drop n bs) → limit.text_bytes < length (take n bs)
    → events_of bs ≡ unread TooLong ∷ map event_of (requests_of (drop n bs))
unfolding events_of
events-first bs n is long = ap (map event_of) is ∙ (λ i. too-long (take n bs) long i ∷ map event_of (requests_of (drop n bs)))

-- the front of a request that is too long may be let go, where what stays is too long as well
skipped : (passed skip : ℕ) (bs : List ℕ) → HasPassed passed bs → 0 < passed → limit.text_bytes + skip ≤ passed → events_of (drop skip bs) ≡ events_of bs
skipped passed skip [] has some room = absurd (omega (arith, (has 0 some).0))
skipped passed skip (b ∷ bs) has some room =
    let e = some-end b bs in
    let behind : passed ≤ e.end = end-behind passed (b ∷ bs) e has in
    let all = b ∷ bs in
    let left = drop skip all in
    let end = e.end - skip in
    let size : length left ≡ length all - skip = length-drop skip all in
    let whole : requests_of all ≡ take (suc e.end) all ∷ requests_of (drop (suc e.end) all) = request-ends all e.end e.within e.before e.here in
    let place : (k : ℕ) → drop k left ≡ drop (skip + k) all = λ k. drop-drop k skip all in
    let same : skip + end ≡ e.end = omega arith in
    let part : requests_of left ≡ take (suc end) left ∷ requests_of (drop (suc end) left) =
    request-ends left end (omega (arith, e.within)) (λ k less. ap ends_request (place k) ∙ e.before (skip + k) (omega arith))
    (λ less. ap ends_request (place end ∙ ap (λ k. drop k all) same) ∙ e.here (omega arith)) in
    let rest : drop (suc end) left ≡ drop (suc e.end) all = place (suc end) ∙ ap (λ k. drop k all) (let s : skip + suc end ≡ suc e.end = omega arith in s) in
    events-first left (suc end) part (omega (arith, length-take (suc end) left, e.within))
    ∙ (λ i. unread TooLong ∷ map event_of (requests_of (rest i)))
    ∙ sym (events-first all (suc e.end) whole (omega (arith, length-take (suc e.end) all, e.within)))

pub coming-skipped : (passed skip : ℕ) (bs : List ℕ) (rest : Option (List ℕ)) → HasPassed passed bs → 0 < passed → limit.text_bytes + skip ≤ passed
    → coming_of (drop skip bs) rest ≡ coming_of bs rest
coming-skipped passed skip bs None has some room = refl
coming-skipped passed skip bs (Some rest) has some room =
    let joined : drop skip (bs ++ rest) ≡ drop skip bs ++ rest = drop-append-le skip bs rest (omega (arith, (has skip (omega arith)).0)) in
    ap (λ z. Some (events_of z)) (sym joined) ∙ ap Some (skipped passed skip (bs ++ rest) (passed_more passed bs rest has) some room)

-- what was passed, seen from a later place
pub passed-skipped : (passed skip less : ℕ) (bs : List ℕ) → HasPassed passed bs → less + skip ≤ passed → HasPassed less (drop skip bs)
passed-skipped passed skip less bs has room k small =
    (omega (arith, (has (skip + k) (omega arith)).0, length-drop skip bs), ap ends_request (drop-drop k skip bs) ∙ (has (skip + k) (omega arith)).1)

-- what was passed, where more bytes were put behind
pub passed-kept : (passed : ℕ) (before after : List ℕ) → take (length before) after ≡ before → HasPassed passed before → HasPassed passed after
passed-kept passed before after kept has =
    let split : before ++ drop (length before) after ≡ after = ap (λ bs. bs ++ drop (length before) after) (sym kept) ∙ take-append-drop (length before) after in
    subst (λ bs. HasPassed passed bs) split (passed_more passed before (drop (length before) after) has)
