-- What each step of reading in pieces does to the events to come.
use Rattle.std.proofs.Common.{◌≡◌, ℕ, ◌+◌, ◌-◌, ◌^◌, ◌<◌, ◌≤◌, Bool, true, false, cond, List, [], ◌∷◌, ◌++◌, take, drop, length, Option, Some, None, refl, ap, ◌∙◌, sym, subst, arith}
use Rattle.std.specs.Prelude.{map, option_map, not, MatchBool, ⊤}
use Rattle.std.proofs.lemmas.Bool.{true≢false}
use Rattle.std.specs.List.{copy_within}
use Rattle.std.proofs.lemmas.List.{length-append, length-drop, take_all}
use Rattle.std.proofs.lemmas.List.Edits.{take-paste}
use Rattle.ge_rows.specs.declared.events.Event.{Event}
use Rattle.ge_model_grammar.specs.ScriptLines.{requests_of}
use Rattle.ge_model_grammar.specs.Events.{event_of, events_of}
use Rattle.ge_model_grammar.specs.Sources.{Moved, IsReadToEnd}
use Rattle.ge_script.specs.Pieces.{coming_of, total_of, GivesNext}

-- nothing is held at first
pub coming-first : (rest : Option (List ℕ)) → coming_of [] rest ≡ option_map events_of rest
coming-first None = refl
coming-first (Some rest) = refl

pub total-first : (count : ℕ) (rest : Option (List ℕ)) → count ≡ 0 → total_of count rest ≡ option_map length rest
total-first count None is = refl
total-first count (Some rest) is = ap Some (omega (arith, is))

-- bytes that move from the source to what is held change neither
pub coming-moved : (before after : List ℕ) (old new : Option (List ℕ)) → Moved old new before after → coming_of after new ≡ coming_of before old
coming-moved before after None None moved = refl
coming-moved before after None (Some new) moved = absurd moved
coming-moved before after (Some old) None moved = absurd moved
coming-moved before after (Some old) (Some new) moved = ap (λ bytes. Some (events_of bytes)) (sym moved)

pub total-moved : (given : ℕ) (before after : List ℕ) (old new : Option (List ℕ)) → Moved old new before after
    → total_of (given + length after) new ≡ total_of (given + length before) old
total-moved given before after None None moved = refl
total-moved given before after None (Some new) moved = absurd moved
total-moved given before after (Some old) None moved = absurd moved
total-moved given before after (Some old) (Some new) moved =
    ap Some (omega (arith, ap length moved, length-append before old, length-append after new))

events-split : (bytes more after : List ℕ) (n : ℕ) (event : Event) → requests_of (bytes ++ more) ≡ take n bytes ∷ requests_of (drop n bytes ++ more)
    → event ≡ event_of (take n bytes) → after ≡ drop n bytes → events_of (bytes ++ more) ≡ event ∷ events_of (after ++ more)
unfolding events_of
events-split bytes more after n event is first rest = ap (map event_of) is ∙ (λ i. sym first i ∷ map event_of (requests_of (sym rest i ++ more)))

-- the first request of what is held is the next event
pub gives-next : (start : Option (List Event)) (bytes after : List ℕ) (rest : Option (List ℕ)) (ended : Bool) (n : ℕ) (event : Event) → coming_of bytes rest ≡ start
    → ((more : List ℕ) → (ended ≡ true → more ≡ []) → requests_of (bytes ++ more) ≡ take n bytes ∷ requests_of (drop n bytes ++ more))
    → (ended ≡ true → IsReadToEnd rest) → event ≡ event_of (take n bytes) → after ≡ drop n bytes → GivesNext start (coming_of after rest) (Some event)
gives-next start bytes after None ended n event is first last by back = subst (λ o. GivesNext o None (Some event)) is tt
gives-next start bytes after (Some more) ended n event is first last by back =
    subst (λ o. GivesNext o (Some (events_of (after ++ more))) (Some event)) is (events-split bytes more after n event (first more last) by back)

events-none : events_of [] ≡ []
unfolding events_of
events-none = refl

-- nothing is held and nothing is left
pub gives-none : (start : Option (List Event)) (bytes : List ℕ) (rest : Option (List ℕ)) → coming_of bytes rest ≡ start → bytes ≡ [] → IsReadToEnd rest
    → GivesNext start (coming_of bytes rest) None
gives-none start bytes None is none last = subst (λ o. GivesNext o None None) is tt
gives-none start bytes (Some rest) is none last =
    let nothing : events_of (bytes ++ rest) ≡ [] = (λ i. events_of (none i ++ last i)) ∙ events-none in
    subst (λ o. GivesNext o (Some (events_of (bytes ++ rest))) None) is (nothing, nothing)

-- each turn reads some bytes or the end
pub reads-on : (ended later : Bool) (n m : ℕ) → ended ≡ false → n < 2 ^ 40 → (later ≡ false → n < m) → n ≤ m → (2 ^ 40 - m) + cond later 0 1 < (2 ^ 40 - n) + cond ended 0 1
reads-on true later n m going room more le = absurd (true≢false going)
reads-on false true n m going room more le = omega arith
reads-on false false n m going room more le = omega (arith, more refl)

-- the bytes from a place on, moved to the front
pub moved_front : (xs : List ℕ) (start : ℕ) → start ≤ length xs → take (length xs - start) (copy_within xs start (length xs) 0) ≡ drop start xs
moved_front xs start within =
    let n = length xs - start in
    let here : n ≡ 0 + n = omega arith in
    let all : take n (drop start xs) ≡ drop start xs = take_all n (drop start xs) (omega (arith, length-drop start xs)) in
    ap (λ m. take m (copy_within xs start (length xs) 0)) here ∙ take-paste xs 0 (drop start xs) n (omega arith) (omega (arith, length-drop start xs)) ∙ all

-- the end is read where nothing was
pub ended-by : {P : Type 0} (some : Bool) → MatchBool some ⊤ P → not some ≡ true → P
ended-by true last none = absurd (true≢false (sym none))
ended-by false last none = last
