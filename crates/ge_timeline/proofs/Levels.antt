-- Laws of step functions: a point that is put in changes nothing, one part of the points is raised, and a window.
use Rattle.std.proofs.Common.{◌≡◌, ℕ, ◌+◌, ◌-◌, ◌≤◌, ◌<◌, ◌⊎◌, inl, inr, true, false, Bool, cond, ◌&&◌, max, List, [], ◌∷◌, ◌++◌, map, take, drop, length, get_or, refl, sym, ap, subst, ◌∙◌, arith, zero, suc}
use Rattle.std.specs.Prelude.{fold, nat_le, nat_lt, count_by, slice_range}
use Rattle.std.specs.List.{insert}
use Rattle.std.specs.List.Sorted.{IsNonDecreasingBy}
use Rattle.std.proofs.lemmas.Bool.{cases_lt, cases_Bool, le-leb, lt-leb, lt-ltb, le-ltb, and_from, and_left, and_right, cond_both, cond-true, cond-false}
use Rattle.std.proofs.lemmas.List.{map-append, take-append-drop, length-drop, get_or-drop, get_or_read, get_or_default, drop_more, get_or-take}
use Rattle.std.proofs.lemmas.List.Edits.{split_between}
use Rattle.std.proofs.lemmas.List.Sums.{fold-append, sum_by-cons, sum_by-append}
use Rattle.ge_timeline.specs.declared.points.Point.{Point}
use Rattle.ge_timeline.specs.StepFunctions.{seen, level, AllAbove, Rises, moments, IsRising, last_sum, with_more, raised, is_in, level_with, higher, greatest, points_in, with_raised, HasMoments}

abbrev pub AllBy : ℕ → List ℕ → Type 0
AllBy m [] = Unit {0}
AllBy m (x ∷ xs) = (x ≤ m) × AllBy m xs

abbrev pub AllBelow : ℕ → List ℕ → Type 0
AllBelow m [] = Unit {0}
AllBelow m (x ∷ xs) = (x < m) × AllBelow m xs

above_less : (m n : ℕ) (xs : List ℕ) → m ≤ n → AllAbove n xs → AllAbove m xs
above_less m n [] h a = tt
above_less m n (x ∷ xs) h a = (omega (arith, h, a.0), above_less m n xs h a.1)

by_more : (m n : ℕ) (xs : List ℕ) → m ≤ n → AllBy m xs → AllBy n xs
by_more m n [] h a = tt
by_more m n (x ∷ xs) h a = (omega (arith, h, a.0), by_more m n xs h a.1)

by_from_below : (m : ℕ) (xs : List ℕ) → AllBelow m xs → AllBy m xs
by_from_below m [] a = tt
by_from_below m (x ∷ xs) a = (omega (arith, a.0), by_from_below m xs a.1)

-- from facts by places

pub by_from_places : (m : ℕ) (ps : List Point) (i : ℕ) → ((k : ℕ) (d : Point) → k < i → (get_or ps k d).at ≤ m) → i ≤ length ps → AllBy m (moments (take i ps))
by_from_places m [] zero f h = tt
by_from_places m [] (suc i) f h = tt
by_from_places m (p ∷ ps) zero f h = tt
by_from_places m (p ∷ ps) (suc i) f h = (f 0 p (omega arith), by_from_places m ps i (λ k d l. f (suc k) d (omega (arith, l))) (omega (arith, h)))

pub below_from_places : (m : ℕ) (ps : List Point) (i : ℕ) → ((k : ℕ) (d : Point) → k < i → (get_or ps k d).at < m) → i ≤ length ps → AllBelow m (moments (take i ps))
below_from_places m [] zero f h = tt
below_from_places m [] (suc i) f h = tt
below_from_places m (p ∷ ps) zero f h = tt
below_from_places m (p ∷ ps) (suc i) f h = (f 0 p (omega arith), below_from_places m ps i (λ k d l. f (suc k) d (omega (arith, l))) (omega (arith, h)))

pub above_from_places : (m : ℕ) (ps : List Point) (i : ℕ) → ((k : ℕ) (d : Point) → i ≤ k → k < length ps → m < (get_or ps k d).at) → AllAbove m (moments (drop i ps))
above_from_places m [] zero f = tt
above_from_places m [] (suc i) f = tt
above_from_places m (p ∷ ps) zero f = (f 0 p (omega arith) (omega arith), above_from_places m ps zero (λ k d h l. f (suc k) d (omega arith) (omega (arith, l))))
above_from_places m (p ∷ ps) (suc i) f = above_from_places m ps i (λ k d h l. f (suc k) d (omega (arith, h)) (omega (arith, l)))

above_at : (m : ℕ) (ps : List Point) (j : ℕ) (d : Point) → AllAbove m (moments ps) → j < length ps → m < (get_or ps j d).at
above_at m [] j d a h = absurd (omega (arith, h))
above_at m (p ∷ ps) zero d a h = a.0
above_at m (p ∷ ps) (suc j) d a h = above_at m ps j d a.1 (omega (arith, h))

rises_at : (ps : List Point) (i j : ℕ) (d : Point) → Rises (moments ps) → i < j → j < length ps → (get_or ps i d).at < (get_or ps j d).at
rises_at [] i j d r h l = absurd (omega (arith, l))
rises_at (p ∷ ps) i zero d r h l = absurd (omega (arith, h))
rises_at (p ∷ ps) zero (suc j) d r h l = above_at p.at ps j d r.0 (omega (arith, l))
rises_at (p ∷ ps) (suc i) (suc j) d r h l = rises_at ps i j d r.1 (omega (arith, h)) (omega (arith, l))

pub rises_from_places : (ps : List Point) → IsRising ps → Rises (moments ps)
rises_from_places [] f = tt
rises_from_places (p ∷ ps) f =
    (above_from_places p.at ps 0 (λ k d h l. f 0 (suc k) d (omega arith) (omega (arith, l))), rises_from_places ps (λ i j d h l. f (suc i) (suc j) d (omega (arith, h)) (omega (arith, l))))

rising : (ps : List Point) → Rises (moments ps) → IsRising ps
rising ps r i j d h l = rises_at ps i j d r h l

-- the points of a list that rises

above_insert : (x m : ℕ) (xs ys : List ℕ) → AllAbove x (xs ++ ys) → x < m → AllAbove x (xs ++ m ∷ ys)
above_insert x m [] ys a h = (h, a)
above_insert x m (z ∷ zs) ys a h = (a.0, above_insert x m zs ys a.1 h)

rises_insert : (xs ys : List ℕ) (m : ℕ) → Rises (xs ++ ys) → AllBelow m xs → AllAbove m ys → Rises (xs ++ m ∷ ys)
rises_insert [] ys m r b a = (a, r)
rises_insert (x ∷ xs) ys m r b a = (above_insert x m xs ys r.0 b.0, rises_insert xs ys m r.1 b.1 a)

rises_right : (xs ys : List ℕ) → Rises (xs ++ ys) → Rises ys
rises_right [] ys r = r
rises_right (x ∷ xs) ys r = rises_right xs ys r.1

above_right : (m : ℕ) (xs ys : List ℕ) → AllAbove m (xs ++ ys) → AllAbove m ys
above_right m [] ys a = a
above_right m (x ∷ xs) ys a = above_right m xs ys a.1

above_left : (m : ℕ) (xs ys : List ℕ) → AllAbove m (xs ++ ys) → AllAbove m xs
above_left m [] ys a = tt
above_left m (x ∷ xs) ys a = (a.0, above_left m xs ys a.1)

moments_parts : (ps : List Point) (i : ℕ) → moments ps ≡ moments (take i ps) ++ moments (drop i ps)
moments_parts ps i = sym (ap moments (take-append-drop i ps)) ∙ map-append (λ (p : Point). p.at) (take i ps) (drop i ps)

pub inserted_rises : (ps : List Point) (i : ℕ) (q : Point) → IsRising ps → AllBelow q.at (moments (take i ps)) → AllAbove q.at (moments (drop i ps)) → IsRising (insert ps i q)
inserted_rises ps i q r b a =
    rising (insert ps i q)
    (subst Rises (sym (map-append (λ (p : Point). p.at) (take i ps) (q ∷ drop i ps))) (rises_insert (moments (take i ps)) (moments (drop i ps)) q.at (subst Rises (moments_parts ps i) (rises_from_places ps r)) b a))

-- what is seen at a moment

unseen : (t s : ℕ) (ps : List Point) → AllAbove t (moments ps) → fold (seen t) s ps ≡ s
unseen t s [] a = refl
unseen t s (p ∷ ps) a = rw (lt-leb p.at t a.0) (unseen t s ps a.1)

all_seen : (t s : ℕ) (ps : List Point) → AllBy t (moments ps) → fold (seen t) s ps ≡ fold (λ (sum : ℕ) (p : Point). p.sum) s ps
all_seen t s [] a = refl
all_seen t s (p ∷ ps) a = rw (le-leb p.at t a.0) (all_seen t p.sum ps a.1)

level_parts : (t : ℕ) (ps qs : List Point) → level (ps ++ qs) t ≡ fold (seen t) (level ps t) qs
level_parts t ps qs = fold-append (seen t) 0 ps qs

level_split : (t : ℕ) (ps : List Point) (i : ℕ) → level ps t ≡ fold (seen t) (level (take i ps) t) (drop i ps)
level_split t ps i = sym (ap (λ (xs : List Point). level xs t) (take-append-drop i ps)) ∙ level_parts t (take i ps) (drop i ps)

-- a point that goes on with the last number changes no number
pub level_inserted : (ps : List Point) (i : ℕ) (q : Point) → AllBelow q.at (moments (take i ps)) → q.sum ≡ last_sum (take i ps) → (t : ℕ) → level (insert ps i q) t ≡ level ps t
level_inserted ps i q b s t =
    let more : level (insert ps i q) t ≡ fold (seen t) (seen t (level (take i ps) t) q) (drop i ps) = level_parts t (take i ps) (q ∷ drop i ps) in
    let same : seen t (level (take i ps) t) q ≡ level (take i ps) t =
    elim (cases_lt t q.at) [
      | inl before ↦ rw (lt-leb q.at t before) refl
      | inr since ↦
          let all : level (take i ps) t ≡ last_sum (take i ps) = all_seen t 0 (take i ps) (by_more q.at t (moments (take i ps)) since (by_from_below q.at (moments (take i ps)) b)) in
          rw (le-leb q.at t since) (s ∙ sym all)
    ] in
    more ∙ ap (λ n. fold (seen t) n (drop i ps)) same ∙ sym (level_split t ps i)

-- what is raised

raised_fold : (t amount s : ℕ) (ps : List Point) → fold (seen t) (with_more amount s) (map (raised amount) ps) ≡ with_more amount (fold (seen t) s ps)
raised_fold t amount s [] = refl
raised_fold t amount s (p ∷ ps) =
    elim (cases_Bool (nat_le p.at t)) [
      | inl on ↦
          ap (λ n. fold (seen t) n (map (raised amount) ps)) (cond-true (nat_le p.at t) (with_more amount p.sum) (with_more amount s) on)
          ∙ raised_fold t amount p.sum ps
          ∙ sym (ap (λ n. with_more amount (fold (seen t) n ps)) (cond-true (nat_le p.at t) p.sum s on))
      | inr off ↦
          ap (λ n. fold (seen t) n (map (raised amount) ps)) (cond-false (nat_le p.at t) (with_more amount p.sum) (with_more amount s) off)
          ∙ raised_fold t amount s ps
          ∙ sym (ap (λ n. with_more amount (fold (seen t) n ps)) (cond-false (nat_le p.at t) p.sum s off))
    ]

pub raised_moments : (amount : ℕ) (ps : List Point) → moments (map (raised amount) ps) ≡ moments ps
raised_moments amount [] = refl
raised_moments amount (p ∷ ps) = ap (λ xs. p.at ∷ xs) (raised_moments amount ps)

-- the points from one on until before another are raised
level_raised : (amount t : ℕ) (front : List Point) (b : Point) (mid : List Point) (c : Point) (behind : List Point) → Rises (moments (b ∷ mid ++ c ∷ behind))
    → level (front ++ (map (raised amount) (b ∷ mid) ++ c ∷ behind)) t ≡ level_with b.at c.at amount t (level (front ++ (b ∷ mid ++ c ∷ behind)) t)
level_raised amount t front b mid c behind r =
    let s : ℕ = level front t in
    let apart : moments (mid ++ c ∷ behind) ≡ moments mid ++ c.at ∷ moments behind = map-append (λ (p : Point). p.at) mid (c ∷ behind) in
    let later : AllAbove b.at (moments mid ++ c.at ∷ moments behind) = subst (AllAbove b.at) apart r.0 in
    let last : AllAbove c.at (moments behind) = (rises_right (moments mid) (c.at ∷ moments behind) (subst Rises apart r.1)).0 in
    let old : level (front ++ (b ∷ mid ++ c ∷ behind)) t ≡ fold (seen t) (fold (seen t) s (b ∷ mid)) (c ∷ behind) = level_parts t front (b ∷ mid ++ c ∷ behind) ∙ fold-append (seen t) s (b ∷ mid) (c ∷ behind) in
    let new : level (front ++ (map (raised amount) (b ∷ mid) ++ c ∷ behind)) t ≡ fold (seen t) (fold (seen t) s (map (raised amount) (b ∷ mid))) (c ∷ behind) =
    level_parts t front (map (raised amount) (b ∷ mid) ++ c ∷ behind) ∙ fold-append (seen t) s (map (raised amount) (b ∷ mid)) (c ∷ behind) in
    elim (cases_lt t b.at) [
      | inl before ↦
          let all : AllAbove t (moments mid ++ c.at ∷ moments behind) = above_less t b.at (moments mid ++ c.at ∷ moments behind) (omega (arith, before)) later in
          let first : AllAbove t (moments (b ∷ mid)) = (before, above_left t (moments mid) (c.at ∷ moments behind) all) in
          let kept : fold (seen t) s (b ∷ mid) ≡ s = unseen t s (b ∷ mid) first in
          let still : fold (seen t) s (map (raised amount) (b ∷ mid)) ≡ s = unseen t s (map (raised amount) (b ∷ mid)) (subst (AllAbove t) (sym (raised_moments amount (b ∷ mid))) first) in
          let off : is_in b.at c.at t ≡ false = and_left (nat_le b.at t) (nat_lt t c.at) (lt-leb b.at t before) in
          new ∙ ap (λ n. fold (seen t) n (c ∷ behind)) (still ∙ sym kept) ∙ sym old ∙ sym (cond-false _ _ _ off)
      | inr since ↦ elim (cases_lt t c.at) [
        | inl within ↦
            let past : AllAbove t (moments (c ∷ behind)) = (within, above_less t c.at (moments behind) (omega (arith, within)) last) in
            let on : is_in b.at c.at t ≡ true = and_from (nat_le b.at t) (nat_lt t c.at) (le-leb b.at t since) (lt-ltb t c.at within) in
            let first : fold (seen t) s (b ∷ mid) ≡ fold (seen t) b.sum mid = ap (λ n. fold (seen t) n mid) (cond-true (nat_le b.at t) b.sum s (le-leb b.at t since)) in
            let more : fold (seen t) s (map (raised amount) (b ∷ mid)) ≡ with_more amount (fold (seen t) b.sum mid) =
            ap (λ n. fold (seen t) n (map (raised amount) mid)) (cond-true (nat_le b.at t) (with_more amount b.sum) s (le-leb b.at t since)) ∙ raised_fold t amount b.sum mid in
            let was : level (front ++ (b ∷ mid ++ c ∷ behind)) t ≡ fold (seen t) b.sum mid = old ∙ unseen t (fold (seen t) s (b ∷ mid)) (c ∷ behind) past ∙ first in
            new ∙ unseen t (fold (seen t) s (map (raised amount) (b ∷ mid))) (c ∷ behind) past ∙ more ∙ ap (with_more amount) (sym was) ∙ sym (cond-true _ _ _ on)
        | inr after ↦
            let reset : (n : ℕ) → fold (seen t) n (c ∷ behind) ≡ fold (seen t) c.sum behind = λ n. ap (λ m. fold (seen t) m behind) (cond-true (nat_le c.at t) c.sum n (le-leb c.at t after)) in
            let off : is_in b.at c.at t ≡ false = and_right (nat_le b.at t) (nat_lt t c.at) (le-ltb t c.at after) in
            new ∙ reset (fold (seen t) s (map (raised amount) (b ∷ mid))) ∙ sym (reset (fold (seen t) s (b ∷ mid))) ∙ sym old ∙ sym (cond-false _ _ _ off)
      ]
    ]

-- a window

abbrev pub best : ℕ → ℕ → Point → ℕ
best until most p = cond (nat_lt p.at until) (max most p.sum) most

low_stays : (from until s : ℕ) (ps : List Point) → AllBy from (moments ps) → fold (higher from until) s ps ≡ s
low_stays from until s [] a = refl
low_stays from until s (p ∷ ps) a = rw (le-ltb from p.at a.0) (low_stays from until s ps a.1)

high_best : (from until s : ℕ) (ps : List Point) → AllAbove from (moments ps) → fold (higher from until) s ps ≡ fold (best until) s ps
high_best from until s [] a = refl
high_best from until s (p ∷ ps) a = rw (lt-ltb from p.at a.0) (high_best from until (best until s p) ps a.1)

-- the number at the window's first moment, where the points by it are known
pub level_is_last : (ps : List Point) (i from : ℕ) → AllBy from (moments (take i ps)) → AllAbove from (moments (drop i ps)) → level ps from ≡ last_sum (take i ps)
level_is_last ps i from low high = level_split from ps i ∙ unseen from (level (take i ps) from) (drop i ps) high ∙ all_seen from 0 (take i ps) low

pub greatest_is : (ps : List Point) (i from until : ℕ) → AllBy from (moments (take i ps)) → AllAbove from (moments (drop i ps)) → from < until → greatest ps from until ≡ fold (best until) (last_sum (take i ps)) (drop i ps)
greatest_is ps i from until low high some =
    let s = level ps from in
    cond-true _ _ _ (lt-ltb from until some)
    ∙ ap (λ (xs : List Point). fold (higher from until) s xs) (sym (take-append-drop i ps))
    ∙ fold-append (higher from until) s (take i ps) (drop i ps)
    ∙ ap (λ n. fold (higher from until) n (drop i ps)) (low_stays from until s (take i ps) low)
    ∙ high_best from until s (drop i ps) high
    ∙ ap (λ n. fold (best until) n (drop i ps)) (level_is_last ps i from low high)

none_in : (from until : ℕ) (ps : List Point) → AllBy from (moments ps) → points_in from until ps ≡ 0
none_in from until [] a = refl
none_in from until (p ∷ ps) a =
    let rest = none_in from until ps a.1 in
    let one = sum_by-cons (λ (q : Point). cond (nat_lt from q.at && nat_lt q.at until) 1 0) p ps in
    let zero_here : ◌≡◌ {A = ℕ} (cond (nat_lt from p.at && nat_lt p.at until) 1 0) 0 = rw (le-ltb from p.at a.0) refl in
    omega (arith, rest, one, zero_here)

same_in : (from until : ℕ) (ps : List Point) → AllAbove from (moments ps) → points_in from until ps ≡ count_by (λ (q : Point). nat_lt q.at until) ps
same_in from until [] a = refl
same_in from until (p ∷ ps) a =
    let rest = same_in from until ps a.1 in
    let one = sum_by-cons (λ (q : Point). cond (nat_lt from q.at && nat_lt q.at until) 1 0) p ps in
    let other = sum_by-cons (λ (q : Point). cond (nat_lt q.at until) 1 0) p ps in
    let here : ◌≡◌ {A = ℕ} (cond (nat_lt from p.at && nat_lt p.at until) 1 0) (cond (nat_lt p.at until) 1 0) = rw (lt-ltb from p.at a.0) refl in
    omega (arith, rest, one, other, here)

pub points_in_is : (ps : List Point) (i from until : ℕ) → AllBy from (moments (take i ps)) → AllAbove from (moments (drop i ps)) → points_in from until ps ≡ count_by (λ (q : Point). nat_lt q.at until) (drop i ps)
points_in_is ps i from until low high =
    let parts = sum_by-append (λ (q : Point). cond (nat_lt from q.at && nat_lt q.at until) 1 0) (take i ps) (drop i ps) in
    let first = none_in from until (take i ps) low in
    let second = same_in from until (drop i ps) high in
    ap (λ (xs : List Point). points_in from until xs) (sym (take-append-drop i ps)) ∙ omega (arith, parts, first, second)

pub rising_rest : (ps : List Point) (i : ℕ) → IsRising ps → IsRising (drop i ps)
rising_rest ps i r = rising (drop i ps) (rises_right (moments (take i ps)) (moments (drop i ps)) (subst Rises (moments_parts ps i) (rises_from_places ps r)))

-- the greatest number bounds each of the window, and is one of them

bounds : (until t s m : ℕ) (ps : List Point) → t < until → s ≤ m → fold (seen t) s ps ≤ fold (best until) m ps
bounds until t s m [] before h = h
bounds until t s m (p ∷ ps) before h =
    let next : seen t s p ≤ best until m p =
    elim (cases_lt t p.at) [
      | inl later ↦ rw (lt-leb p.at t later) (cond_both (nat_lt p.at until) (max m p.sum) m (λ n. s ≤ n) (λ _. omega (arith, h)) (λ _. h))
      | inr by ↦ rw (le-leb p.at t by) (rw (lt-ltb p.at until (omega (arith, by, before))) (omega arith))
    ] in
    bounds until t (seen t s p) (best until m p) ps before next

-- the number is the one before, or that of a moment
Met : ℕ → ℕ → ℕ → List Point → ℕ → Type 0
Met from until m ps n = (n ≡ m) ⊎ ((t : ℕ) × (from < t) × (t < until) × ((s : ℕ) → fold (seen t) s ps ≡ n))

met : (from until m : ℕ) (ps : List Point) → AllAbove from (moments ps) → Rises (moments ps) → Met from until m ps (fold (best until) m ps)
unfolding Met
met from until m [] a r = inl refl
met from until m (p ∷ ps) a r =
    elim (met from until (best until m p) ps a.1 r.1) [
      | inr one ↦ inr (one.0, one.1, one.2, λ s. one.3 (seen one.0 s p))
      | inl same ↦ elim (cases_lt p.at until) [
        | inr late ↦ inl (same ∙ cond-false _ _ _ (le-ltb p.at until late))
        | inl inside ↦
            let top : best until m p ≡ max m p.sum = cond-true _ _ _ (lt-ltb p.at until inside) in
            elim (cases_lt m p.sum) [
              | inr low ↦ inl (omega (arith, same, top, low))
              | inl high ↦
                  let is : fold (best until) (best until m p) ps ≡ p.sum = omega (arith, same, top, high) in
                  inr (p.at, a.0, inside, λ s. rw (le-leb p.at p.at (omega arith)) (unseen p.at p.sum ps r.0) ∙ sym is)
            ]
      ]
    ]

-- a loop that stops at a late point

late_stays : (until m : ℕ) (ps : List Point) → ((k : ℕ) (d : Point) → k < length ps → until ≤ (get_or ps k d).at) → fold (best until) m ps ≡ m
late_stays until m [] f = refl
late_stays until m (p ∷ ps) f = rw (le-ltb p.at until (f 0 p (omega arith))) (late_stays until m ps (λ k d h. f (suc k) d (omega (arith, h))))

-- the greatest so far only grows
best_more : (until m : ℕ) (p : Point) → m ≤ best until m p
best_more until m p = by (nat_lt p.at until)
  where
    by : (b : Bool) → m ≤ cond b (max m p.sum) m
    by true = omega arith
    by false = omega arith

best_grows : (until m : ℕ) (ps : List Point) → m ≤ fold (best until) m ps
best_grows until m [] = omega arith
best_grows until m (p ∷ ps) = let here = best_more until m p in let rest = best_grows until (best until m p) ps in omega (arith, here, rest)

-- where that of a part is above a bound, so is that of all
pub best_above : (ps : List Point) (i until m bound n : ℕ) → bound < m → fold (best until) m (drop i ps) ≡ n → true ≡ nat_lt bound n
best_above ps i until m bound n above is = let grown = best_grows until m (drop i ps) in sym (lt-ltb bound n (omega (arith, above, grown, is)))

pub stops_late : (ps : List Point) (i until m : ℕ) (p : Point) (n : ℕ) → IsRising ps → i < length ps → p ≡ get_or ps i p → until ≤ p.at → fold (best until) m (drop i ps) ≡ n → m ≡ n
stops_late ps i until m p n r within is late e =
    let each : (k : ℕ) (d : Point) → k < length (drop i ps) → until ≤ (get_or (drop i ps) k d).at =
    λ k d h.
    let inside : i + k < length ps = omega (arith, h, length-drop i ps) in
    let here : p ≡ get_or ps i d = get_or_read ps i p within is d in
    let first : until ≤ (get_or ps i d).at = subst (λ (q : Point). until ≤ q.at) here late in
    rw (get_or-drop i ps k d) (elim (cases_lt 0 k) [
      | inl some ↦ let after = r i (i + k) d (omega (arith, some)) inside in omega (arith, first, after)
      | inr none ↦ let same : i + k ≡ i = omega (arith, none) in subst (λ j. until ≤ (get_or ps j d).at) (sym same) first
    ]) in
    sym (late_stays until m (drop i ps) each) ∙ e

-- places

pub by_all : (ps : List Point) (m moment : ℕ) (z : Point) → IsRising ps → m < length ps → (get_or ps m z).at ≤ moment → (k : ℕ) (d : Point) → k < m + 1 → (get_or ps k d).at ≤ moment
by_all ps m moment z r within here k d h =
    let at : get_or ps m d ≡ get_or ps m z = get_or_default ps m d z within in
    let last : (get_or ps m d).at ≤ moment = rw at here in
    elim (cases_lt k m) [
      | inl less ↦ let before = r k m d less within in omega (arith, before, last)
      | inr more ↦ let same : k ≡ m = omega (arith, h, more) in rw same last
    ]

pub later_all : (ps : List Point) (m moment : ℕ) (z : Point) → IsRising ps → m < length ps → moment < (get_or ps m z).at → (k : ℕ) (d : Point) → m ≤ k → k < length ps → moment < (get_or ps k d).at
later_all ps m moment z r within here k d h inside =
    let at : get_or ps m d ≡ get_or ps m z = get_or_default ps m d z within in
    let first : moment < (get_or ps m d).at = rw at here in
    elim (cases_lt m k) [
      | inl less ↦ let after = r m k d less inside in omega (arith, after, first)
      | inr more ↦ let same : k ≡ m = omega (arith, h, more) in rw same first
    ]

-- the points before the place of a moment that has none
pub below_place : (ps : List Point) (place moment : ℕ) (z : Point) → IsRising ps → place ≤ length ps → ((k : ℕ) (d : Point) → k < place → (get_or ps k d).at ≤ moment)
    → (place ≡ 0) ⊎ ((get_or ps (place - 1) z).at ≡ moment → ⊥) → AllBelow moment (moments (take place ps))
below_place ps place moment z r within by apart =
    below_from_places moment ps place (λ k d h.
    elim apart [
      | inl none ↦ absurd (omega (arith, h, none))
      | inr other ↦
          let inside : place - 1 < length ps = omega (arith, within, h) in
          let at : get_or ps (place - 1) d ≡ get_or ps (place - 1) z = get_or_default ps (place - 1) d z inside in
          let most : (get_or ps (place - 1) d).at ≤ moment = by (place - 1) d (omega (arith, h)) in
          let differs : (get_or ps (place - 1) d).at ≡ moment → ⊥ = rw at other in
          elim (cases_lt k (place - 1)) [
            | inl less ↦ let before = r k (place - 1) d less inside in omega (arith, before, most)
            | inr more ↦ let same : k ≡ place - 1 = omega (arith, h, more) in rw same (omega (arith, most, differs))
          ]
    ]) within

-- a point that is put in at the place of its moment
pub put_in_rises : (ps : List Point) (place moment sum : ℕ) → IsRising ps → AllBelow moment (moments (take place ps)) → ((k : ℕ) (d : Point) → place ≤ k → k < length ps → moment < (get_or ps k d).at)
    → IsRising (insert ps place (record { at = moment; sum = sum }))
put_in_rises ps place moment sum r below later = inserted_rises ps place (record { at = moment; sum = sum }) r below (above_from_places moment ps place later)

pub put_in_same : (ps : List Point) (place moment sum : ℕ) → AllBelow moment (moments (take place ps)) → sum ≡ last_sum (take place ps) → (t : ℕ) → level (insert ps place (record { at = moment; sum = sum })) t ≡ level ps t
put_in_same ps place moment sum below is t = level_inserted ps place (record { at = moment; sum = sum }) below is t

-- a part of the points is raised

pub raised_rises : (ps : List Point) (amount first end : ℕ) → first ≤ end → IsRising ps → IsRising (with_raised amount first end ps)
raised_rises ps amount first end h r =
    let mid = slice_range ps first end in
    let same : moments (with_raised amount first end ps) ≡ moments ps =
    map-append (λ (p : Point). p.at) (take first ps) (map (raised amount) mid ++ drop end ps)
    ∙ ap (λ xs. moments (take first ps) ++ xs) (map-append (λ (p : Point). p.at) (map (raised amount) mid) (drop end ps) ∙ ap (λ xs. xs ++ moments (drop end ps)) (raised_moments amount mid))
    ∙ sym (ap moments (split_between ps first end h) ∙ map-append (λ (p : Point). p.at) (take first ps) (mid ++ drop end ps) ∙ ap (λ xs. moments (take first ps) ++ xs) (map-append (λ (p : Point). p.at) mid (drop end ps))) in
    rising (with_raised amount first end ps) (subst Rises (sym same) (rises_from_places ps r))

pub raised_level : (ps : List Point) (amount first end from until : ℕ) (z : Point) → IsRising ps → first < end → end < length ps → (get_or ps first z).at ≡ from → (get_or ps end z).at ≡ until
    → (t : ℕ) → level (with_raised amount first end ps) t ≡ level_with from until amount t (level ps t)
raised_level ps amount first end from until z r h within begins ends t =
    let b = get_or ps first z in
    let c = get_or ps end z in
    let rest : drop first ps ≡ b ∷ drop (first + 1) ps = drop_more ps first z (omega (arith, h, within)) in
    let behind = drop (end + 1) ps in
    let mid = take (end - first - 1) (drop (first + 1) ps) in
    let long : end - first ≡ suc (end - first - 1) = omega (arith, h) in
    let part : slice_range ps first end ≡ b ∷ mid = ap (λ n. take n (drop first ps)) long ∙ ap (λ xs. take (suc (end - first - 1)) xs) rest in
    let last : drop end ps ≡ c ∷ behind = drop_more ps end z within in
    let parts : ps ≡ take first ps ++ (b ∷ mid ++ c ∷ behind) = split_between ps first end (omega (arith, h)) ∙ ap (λ xs. take first ps ++ (xs ++ drop end ps)) part ∙ ap (λ xs. take first ps ++ (b ∷ mid ++ xs)) last in
    let rises : Rises (moments (b ∷ mid ++ c ∷ behind)) =
    rises_right (moments (take first ps)) (moments (b ∷ mid ++ c ∷ behind))
    (subst Rises (map-append (λ (p : Point). p.at) (take first ps) (b ∷ mid ++ c ∷ behind)) (subst (λ xs. Rises (moments xs)) parts (rises_from_places ps r))) in
    let now : with_raised amount first end ps ≡ take first ps ++ (map (raised amount) (b ∷ mid) ++ c ∷ behind) =
    ap (λ xs. take first ps ++ (map (raised amount) xs ++ drop end ps)) part ∙ ap (λ xs. take first ps ++ (map (raised amount) (b ∷ mid) ++ xs)) last in
    ap (λ (xs : List Point). level xs t) now
    ∙ level_raised amount t (take first ps) b mid c behind rises
    ∙ ap (λ (xs : List Point). level_with b.at c.at amount t (level xs t)) (sym parts)
    ∙ ap (λ n. level_with n c.at amount t (level ps t)) begins
    ∙ ap (λ n. level_with from n amount t (level ps t)) ends

-- a place in a common front
pub front_at : (xs ys : List Point) (n i : ℕ) (z : Point) → i < n → take n xs ≡ take n ys → get_or xs i z ≡ get_or ys i z
front_at xs ys n i z h e = sym (get_or-take n xs i z h) ∙ ap (λ (l : List Point). get_or l i z) e ∙ get_or-take n ys i z h

-- the greatest number of a window bounds each number of it, and is one of them

Placed : ℕ → List Point → Type 0
Placed from ps = (i : ℕ) × AllBy from (moments (take i ps)) × AllAbove from (moments (drop i ps))

place_in : (from : ℕ) (ps : List Point) → Rises (moments ps) → Placed from ps
unfolding Placed
place_in from [] r = (0, tt, tt)
place_in from (p ∷ ps) r =
    elim (cases_lt from p.at) [
      | inl later ↦ (0, tt, (later, above_less from p.at (moments ps) (omega (arith, later)) r.0))
      | inr by ↦ let rest = place_in from ps r.1 in (suc rest.0, (by, rest.1), rest.2)
    ]

pub level_within : (ps : List Point) (from until t : ℕ) → IsRising ps → from ≤ t → t < until → level ps t ≤ greatest ps from until
unfolding Placed
level_within ps from until t r since before =
    let at = place_in from ps (rises_from_places ps r) in
    let i = at.0 in
    let some : from < until = omega (arith, since, before) in
    let here : level ps t ≡ fold (seen t) (last_sum (take i ps)) (drop i ps) =
    level_split t ps i ∙ ap (λ n. fold (seen t) n (drop i ps)) (all_seen t 0 (take i ps) (by_more from t (moments (take i ps)) since at.1)) in
    let top = bounds until t (last_sum (take i ps)) (last_sum (take i ps)) (drop i ps) before (omega arith) in
    let is = greatest_is ps i from until at.1 at.2 some in
    omega (arith, here, top, is)

pub level_met : (ps : List Point) (from until : ℕ) → IsRising ps → from < until → (t : ℕ) × (from ≤ t) × (t < until) × (level ps t ≡ greatest ps from until)
unfolding Placed Met
level_met ps from until r some =
    let at = place_in from ps (rises_from_places ps r) in
    let i = at.0 in
    let is = greatest_is ps i from until at.1 at.2 some in
    elim (met from until (last_sum (take i ps)) (drop i ps) at.2 (rises_from_places (drop i ps) (rising_rest ps i r))) [
      | inl first ↦ (from, omega arith, some, level_is_last ps i from at.1 at.2 ∙ sym first ∙ sym is)
      | inr inside ↦ (inside.0, (let h = inside.1 in omega (arith, h)), inside.2, level_split inside.0 ps i ∙ inside.3 (level (take i ps) inside.0) ∙ sym is)
    ]

-- the moments of the points

raised_part_moments : (ps : List Point) (amount first end : ℕ) → first ≤ end → moments (with_raised amount first end ps) ≡ moments ps
raised_part_moments ps amount first end h =
    let mid = slice_range ps first end in
    map-append (λ (p : Point). p.at) (take first ps) (map (raised amount) mid ++ drop end ps)
    ∙ ap (λ xs. moments (take first ps) ++ xs) (map-append (λ (p : Point). p.at) (map (raised amount) mid) (drop end ps) ∙ ap (λ xs. xs ++ moments (drop end ps)) (raised_moments amount mid))
    ∙ sym (ap moments (split_between ps first end h) ∙ map-append (λ (p : Point). p.at) (take first ps) (mid ++ drop end ps) ∙ ap (λ xs. moments (take first ps) ++ xs) (map-append (λ (p : Point). p.at) mid (drop end ps)))

-- a point that is put in brings its moment
pub put_in_moments : (ps : List Point) (i : ℕ) (q : Point) → HasMoments ps (q.at ∷ []) (insert ps i q)
put_in_moments ps i q test =
    let front = moments (take i ps) in
    let behind = moments (drop i ps) in
    let new : count_by test (moments (insert ps i q)) ≡ count_by test (front ++ q.at ∷ behind) = ap (count_by test) (map-append (λ (p : Point). p.at) (take i ps) (q ∷ drop i ps)) in
    let old : count_by test (moments ps) ≡ count_by test (front ++ behind) = ap (count_by test) (moments_parts ps i) in
    let parts = sum_by-append (λ (m : ℕ). cond (test m) 1 0) front behind in
    let more = sum_by-append (λ (m : ℕ). cond (test m) 1 0) front (q.at ∷ behind) in
    let one = sum_by-cons (λ (m : ℕ). cond (test m) 1 0) q.at behind in
    omega (arith, new, old, parts, more, one)

-- two moments are brought one after the other, and a part is raised
pub both_moments : (old mid new : List Point) (from until amount first end : ℕ) → first ≤ end → HasMoments old (from ∷ []) mid → HasMoments mid (until ∷ []) new → HasMoments old (from ∷ until ∷ []) (with_raised amount first end new)
both_moments old mid new from until amount first end h one two test =
    let same = ap (count_by test) (raised_part_moments new amount first end h) in
    let a = one test in
    let b = two test in
    let pair = sum_by-cons (λ (m : ℕ). cond (test m) 1 0) from (until ∷ []) in
    omega (arith, same, a, b, pair)

-- moments that rise never fall
pub moments_rise : (ps : List Point) → IsRising ps → IsNonDecreasingBy (λ (p : Point). p.at) ps
moments_rise ps r i j d h l =
    elim (cases_lt i j) [
      | inl less ↦ let before = r i j d less l in omega (arith, before)
      | inr more ↦ let same : i ≡ j = omega (arith, h, more) in rw same (omega arith)
    ]
