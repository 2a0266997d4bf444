-- What a task finds at instances in its window, and hosts that are kept.
use Rattle.std.proofs.Common.{◌≡◌, ℕ, ◌+◌, ◌<◌, ◌==◌, inl, inr, Bool, true, false, ◌||◌, cond, List, [], ◌∷◌, length, get_or, slice_set, slice_index_or, Option, Some, None, refl, sym, subst, ap, ◌∙◌, arith, get_or-set_same, get_or-set_other, below_more}
use Rattle.std.specs.Prelude.{nat_lt, nat_le, IfSome}
use Rattle.std.proofs.lemmas.Bool.{cond-true, cond-false, cond_both, cases_Bool, cases_eq, and_parts, or_left, or_right, true≢false, leb-true, ltb-true, eq-eqb}
use Rattle.std.proofs.lemmas.List.{length-set, get_or_read}
use Rattle.std.proofs.lemmas.List.Folds.{list_any_at}
use Rattle.std.proofs.lemmas.Option.{slice_get-get_or}
use Rattle.ge_capacities.specs.declared.counting.Counted.{Counted}
use Rattle.ge_model_rows.specs.ScheduleRows.{Booking}
use Rattle.ge_attempts.specs.declared.looking.Found.{Found}
use Rattle.ge_attempts.specs.declared.looking.Found.TheVariants.{Enough, TooLittle, Nothing}
use Rattle.ge_attempts.specs.declared.rests.Rest.{Rest}
use Rattle.ge_attempts.specs.declared.rests.Left.{Left}
use Rattle.ge_attempts.specs.Rests.{is_short, are_short, left_then, is_short_then, are_short_then, found_of, IsFound, is_inside, IsOut, FindsAt, known_there, known_of, AreShortLater, is_kept, AreKept}

second_false : (a b : Bool) → (a || b) ≡ false → b ≡ false
second_false true b e = absurd (true≢false e)
second_false false b e = e

module _ (booked : List Booking) (from : ℕ) (asked : List Counted) where
  module _ (rest : Rest) where
    abbrev below : Bool
    below = nat_lt (left_then booked from rest) rest.least

    abbrev more : Bool
    more = is_short asked rest.resource (left_then booked from rest)

    too_little : found_of booked from asked rest ≡ TooLittle → is_short_then booked from asked rest ≡ true
    too_little e =
        elim (cases_Bool below) [
          | inl under ↦ or_left below more under
          | inr over ↦
              elim (cases_Bool more) [
                | inl short ↦ or_right below more short
                | inr enough ↦
                    let is : found_of booked from asked rest ≡ Enough = cond-false below Nothing (cond more TooLittle Enough) over ∙ cond-false more TooLittle Enough enough in
                    let both : Enough ≡ TooLittle = sym is ∙ e in
                    absurd cc
              ]
        ]

    nothing : found_of booked from asked rest ≡ Nothing → below ≡ true
    nothing e =
        elim (cases_Bool below) [
          | inl under ↦ under
          | inr over ↦
              let is : found_of booked from asked rest ≡ cond more TooLittle Enough = cond-false below Nothing (cond more TooLittle Enough) over in
              let other : cond more TooLittle Enough ≡ Nothing = sym is ∙ e in
              elim (cases_Bool more) [
                | inl short ↦ let both : TooLittle ≡ Nothing = sym (cond-true more TooLittle Enough short) ∙ other in absurd cc
                | inr enough ↦ let both : Enough ≡ Nothing = sym (cond-false more TooLittle Enough enough) ∙ other in absurd cc
              ]
        ]

  -- by one limit of all
  module _ (rests : List Rest) (i : ℕ) (rest : Rest) (found : Found) (inside : i < length rests) (at : rest ≡ get_or rests i rest) (is : found ≡ found_of booked from asked rest) where
    pub found_short : found ≡ TooLittle → are_short_then booked from asked rests ≡ true
    found_short e = list_any_at (is_short_then booked from asked) rests i rest inside (ap (is_short_then booked from asked) (sym at) ∙ too_little rest (sym is ∙ e))

    pub found_nothing : found ≡ Nothing → (are_short_then booked from asked rests ≡ true) × (are_short_then booked from [] rests ≡ true)
    found_nothing e =
        let under : below rest ≡ true = nothing rest (sym is ∙ e) in (
          list_any_at (is_short_then booked from asked) rests i rest inside (ap (is_short_then booked from asked) (sym at) ∙ or_left (below rest) (more rest) under),
          list_any_at (is_short_then booked from []) rests i rest inside (ap (is_short_then booked from []) (sym at) ∙ or_left (below rest) false under),
        )

  module _ (now until : ℕ) where
    module _ (rests : List Rest) where
      -- a moment that is known lies in the window
      pub found_inside : (known : Option ℕ) → is_inside from until known ≡ true → IfSome known (λ moment. are_short_then booked moment [] rests ≡ true) → IsOut now booked from until asked rests
      found_inside None e short = absurd (true≢false (sym e))
      found_inside (Some moment) e short =
          let parts = and_parts (nat_le from moment) (nat_lt moment until) e in
          record { known = Some moment; by = (leb-true from moment parts.0, ltb-true moment until parts.1, short) }

      pub found_now : (found : Found) → (from == now) ≡ true → found ≡ cond (are_short asked rests) TooLittle Enough → FindsAt now booked from until asked rests found
      found_now found same is =
          subst (λ (f : Found). FindsAt now booked from until asked rests f) (sym is)
          (cond_both (are_short asked rests) TooLittle Enough (λ (f : Found). FindsAt now booked from until asked rests f)
          (λ e. record { known = None; by = cond-true (from == now) (are_short asked rests) (are_short_then booked from asked rests) same ∙ e })
          (λ _. tt))

      pub found_later : (found : Found) → (from == now) ≡ false → IsFound booked from asked rests found → FindsAt now booked from until asked rests found
      found_later Enough other is = tt
      found_later TooLittle other is = record { known = None; by = cond-false (from == now) (are_short asked rests) (are_short_then booked from asked rests) other ∙ is }
      found_later Nothing other is = (record { known = None; by = cond-false (from == now) (are_short asked rests) (are_short_then booked from asked rests) other ∙ is.0 }, is.1)

    -- at a place
    module _ (lefts : List Left) (place : ℕ) (left : Left) (inside : place < length lefts) (here : left ≡ slice_index_or lefts place left) where
      abbrev pub ArePlaces : List Bool → ℕ → Type 0
      ArePlaces kept end = AreKept now booked from until asked lefts end kept

      kept_more : (old new : List Bool) → ArePlaces old place → ((q : ℕ) → is_kept new q ≡ false → is_kept old q ≡ false) → (is_kept new left.host ≡ false → IsOut now booked from until asked left.rests) → ArePlaces new (place + 1)
      kept_more old new were fewer out = record {
        out = λ k none less gone.
            below_more (λ (n : ℕ). (d : Left) → is_kept new (slice_index_or lefts n d).host ≡ false → IsOut now booked from until asked (slice_index_or lefts n d).rests) place
            (λ n under d e. were.out n d under (fewer (slice_index_or lefts n d).host e))
            (λ d. subst (λ (l : Left). is_kept new l.host ≡ false → IsOut now booked from until asked l.rests) (get_or_read lefts place left inside here d) out)
            k less none gone;
      }

      -- its host is kept
      pub kept_host : (old new : List Bool) → ArePlaces old place → ((q : ℕ) → is_kept new q ≡ (left.host == q || is_kept old q)) → ArePlaces new (place + 1)
      kept_host old new were keeps =
          kept_more old new were (λ q gone. second_false (left.host == q) (is_kept old q) (sym (keeps q) ∙ gone))
          (λ gone. absurd (true≢false (sym (keeps left.host ∙ or_left (left.host == left.host) (is_kept old left.host) (eq-eqb left.host left.host refl)) ∙ gone)))

      -- it isn't, since something keeps the task from the instance
      pub kept_without : (kept : List Bool) → ArePlaces kept place → IsOut now booked from until asked left.rests → ArePlaces kept (place + 1)
      kept_without kept were out = kept_more kept kept were (λ q gone. gone) (λ _. out)

      module _ (later : List (Option ℕ)) (are : AreShortLater booked lefts later) where
        -- the moment that is known there
        pub known_here : (known : Option ℕ) (items : List (Option ℕ)) → items ≡ later → known ≡ known_of items place → IfSome known (λ moment. are_short_then booked moment [] left.rests ≡ true)
        known_here known items same is =
            let long = are.long in
            let there : place < length later = omega (arith, inside, long) in
            let known_is : known ≡ slice_index_or later place None = is ∙ ap (λ ms. known_of ms place) same ∙ ap known_there (slice_get-get_or later place None there) in
            subst (λ (k : Option ℕ). IfSome k (λ moment. are_short_then booked moment [] left.rests ≡ true)) (sym known_is)
            (subst (λ (l : Left). IfSome (slice_index_or later place None) (λ moment. are_short_then booked moment [] l.rests ≡ true)) (sym here) (are.each place left inside))

        -- one more moment is known
        pub noted_here : (new : List (Option ℕ)) → new ≡ slice_set later place (Some from) → are_short_then booked from [] left.rests ≡ true → AreShortLater booked lefts new
        noted_here new sets short =
            let long = are.long in
            let there : place < length later = omega (arith, inside, long) in
            let put : slice_index_or new place None ≡ Some from = ap (λ ms. slice_index_or ms place None) sets ∙ get_or-set_same later place (Some from) None there in
            let stays : (k : ℕ) → (k ≡ place → ⊥) → slice_index_or new k None ≡ slice_index_or later k None = λ k other. ap (λ ms. slice_index_or ms k None) sets ∙ get_or-set_other later place k (Some from) None other in
            record {
              long = ap (λ ms. length ms) sets ∙ length-set later place (Some from) ∙ long;
              each = λ k none within.
                  elim (cases_eq k place) [
                    | inl this ↦
                        subst (λ n. IfSome (slice_index_or new n None) (λ moment. are_short_then booked moment [] (slice_index_or lefts n none).rests ≡ true)) (sym this)
                        (subst (λ (known : Option ℕ). IfSome known (λ moment. are_short_then booked moment [] (slice_index_or lefts place none).rests ≡ true)) (sym put)
                        (subst (λ (l : Left). are_short_then booked from [] l.rests ≡ true) (get_or_read lefts place left inside here none) short))
                    | inr other ↦
                        subst (λ (known : Option ℕ). IfSome known (λ moment. are_short_then booked moment [] (slice_index_or lefts k none).rests ≡ true)) (sym (stays k other)) (are.each k none within)
                  ];
            }
