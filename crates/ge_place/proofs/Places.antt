-- The places of a site's instances, one after the other.
use Rattle.std.proofs.Common.{◌≡◌, ℕ, zero, suc, ◌<◌, ◌≤◌, inl, inr, Bool, true, false, cond, List, [], ◌∷◌, ◌++◌, map, length, get_or, Some, None, option_map, refl, sym, ap, ◌∙◌, arith}
use Rattle.std.specs.Bool.{then_some}
use Rattle.std.specs.List.{slice_get}
use Rattle.std.specs.Prelude.{nat_lt, unwrap_or}
use Rattle.std.proofs.lemmas.Bool.{cases_lt, lt-ltb, le-ltb}
use Rattle.std.proofs.lemmas.List.{map-append, length-map, get_or-map}
use Rattle.std.proofs.lemmas.Option.{slice_get-map, slice_get_within, get_or_from_slice_get, unwrap_or-slice_get}
use Rattle.ge_model_rows.specs.HostRows.{InstanceId}
use Rattle.ge_model_place.specs.Placement.{Cell, everywhere}
use Rattle.ge_place.specs.Spots.{places_of}

-- the place of the instance that has so many of these before it, or the end
abbrev pub next_place : (InstanceId → Bool) → List Cell → ℕ → ℕ
next_place here spots index = get_or (places_of here spots) index (length spots)

abbrev further : List ℕ → List ℕ
further places = map (λ k. suc k) places

get_or-further : (places : List ℕ) (i e : ℕ) → get_or (further places) i (suc e) ≡ suc (get_or places i e)
get_or-further [] i e = refl
get_or-further (p ∷ places) zero e = refl
get_or-further (p ∷ places) (suc i) e = get_or-further places i e

module _ (here : InstanceId → Bool) where
  -- the places of one more instance in front
  abbrev placed : Bool → List Cell → List ℕ
  placed there spots = cond there (0 ∷ further (places_of here spots)) (further (places_of here spots))

  pub places_few : (spots : List Cell) → length (places_of here spots) ≤ length spots
  places_few [] = omega arith
  places_few (x ∷ spots) = by (here x.at) (places_few spots)
    where
      by : (there : Bool) → length (places_of here spots) ≤ length spots → length (placed there spots) ≤ suc (length spots)
      by true rest = omega (arith, rest, length-map (places_of here spots) (λ k. suc k))
      by false rest = omega (arith, rest, length-map (places_of here spots) (λ k. suc k))

  -- an instance of the site stands at each place
  stands : (spots : List Cell) (i e : ℕ) → i < length (places_of here spots) → (get_or (places_of here spots) i e < length spots) × ((d : Cell) → here (get_or spots (get_or (places_of here spots) i e) d).at ≡ true)
  stands [] i e inside = absurd (omega (arith, inside))
  stands (x ∷ spots) i e inside = by (here x.at) refl i inside (λ i within. stands spots i e within)
    where
      behind : (i : ℕ) → i < length (further (places_of here spots))
          → ((i : ℕ) → i < length (places_of here spots) → (get_or (places_of here spots) i e < length spots) × ((d : Cell) → here (get_or spots (get_or (places_of here spots) i e) d).at ≡ true))
          → (get_or (further (places_of here spots)) i e < suc (length spots)) × ((d : Cell) → here (get_or (x ∷ spots) (get_or (further (places_of here spots)) i e) d).at ≡ true)
      behind i inside rest =
          let within : i < length (places_of here spots) = omega (arith, inside, length-map (places_of here spots) (λ k. suc k)) in
          let there = rest i within in
          let moved : get_or (further (places_of here spots)) i e ≡ suc (get_or (places_of here spots) i e) = get_or-map (λ k. suc k) (places_of here spots) i e e within in
          (omega (arith, moved, there.0), λ d. ap (λ n. here (get_or (x ∷ spots) n d).at) moved ∙ there.1 d)

      by : (there : Bool) → here x.at ≡ there → (i : ℕ) → i < length (placed there spots)
          → ((i : ℕ) → i < length (places_of here spots) → (get_or (places_of here spots) i e < length spots) × ((d : Cell) → here (get_or spots (get_or (places_of here spots) i e) d).at ≡ true))
          → (get_or (placed there spots) i e < suc (length spots)) × ((d : Cell) → here (get_or (x ∷ spots) (get_or (placed there spots) i e) d).at ≡ true)
      by true is zero inside rest = (omega arith, λ d. is)
      by true is (suc i) inside rest = behind i (omega (arith, inside)) rest
      by false is i inside rest = behind i inside rest

  -- and none before the first place, or between two

  pub first_apart : (spots : List Cell) (k : ℕ) (d : Cell) → k < next_place here spots 0 → here (get_or spots k d).at ≡ false
  first_apart [] k d less = absurd (omega (arith, less))
  first_apart (x ∷ spots) k d less = by (here x.at) refl k less (first_apart spots)
    where
      by : (there : Bool) → here x.at ≡ there → (k : ℕ) → k < get_or (placed there spots) 0 (suc (length spots)) → ((k : ℕ) (d : Cell) → k < next_place here spots 0 → here (get_or spots k d).at ≡ false)
          → here (get_or (x ∷ spots) k d).at ≡ false
      by true is k less rest = absurd (omega (arith, less))
      by false is zero less rest = is
      by false is (suc k) less rest = rest k d (omega (arith, less, get_or-further (places_of here spots) 0 (length spots)))

  pub next_apart : (spots : List Cell) (i k : ℕ) (d : Cell) → next_place here spots i < k → k < next_place here spots (suc i) → here (get_or spots k d).at ≡ false
  next_apart [] i k d above less = absurd (omega (arith, above, less))
  next_apart (x ∷ spots) i k d above less = by (here x.at) refl i k above less (next_apart spots)
    where
      behind : (i k : ℕ) → get_or (further (places_of here spots)) i (suc (length spots)) < k → k < get_or (further (places_of here spots)) (suc i) (suc (length spots))
          → ((i k : ℕ) (d : Cell) → next_place here spots i < k → k < next_place here spots (suc i) → here (get_or spots k d).at ≡ false) → here (get_or (x ∷ spots) k d).at ≡ false
      behind i zero above less rest = absurd (omega (arith, above))
      behind i (suc k) above less rest =
          rest i k d (omega (arith, above, get_or-further (places_of here spots) i (length spots))) (omega (arith, less, get_or-further (places_of here spots) (suc i) (length spots)))

      by : (there : Bool) → here x.at ≡ there → (i k : ℕ) → get_or (placed there spots) i (suc (length spots)) < k → k < get_or (placed there spots) (suc i) (suc (length spots))
          → ((i k : ℕ) (d : Cell) → next_place here spots i < k → k < next_place here spots (suc i) → here (get_or spots k d).at ≡ false) → here (get_or (x ∷ spots) k d).at ≡ false
      by true is zero zero above less rest = absurd (omega (arith, above))
      by true is zero (suc k) above less rest = first_apart spots k d (omega (arith, less, get_or-further (places_of here spots) 0 (length spots)))
      by true is (suc i) k above less rest = behind i k above less rest
      by false is i k above less rest = behind i k above less rest

  -- the places with one more instance at the end
  pub places_last : (spots : List Cell) (last : Cell) (there : Bool) → here last.at ≡ there → places_of here (spots ++ last ∷ []) ≡ places_of here spots ++ cond there (length spots ∷ []) []
  places_last [] last there is = ap (λ b. cond b (0 ∷ []) []) is
  places_last (x ∷ spots) last there is = by (here x.at)
      (ap further (places_last spots last there is) ∙ map-append (λ k. suc k) (places_of here spots) (cond there (length spots ∷ []) []) ∙ ap (λ ps. further (places_of here spots) ++ ps) (one there))
    where
      one : (there : Bool) → further (cond there (length spots ∷ []) []) ≡ cond there (suc (length spots) ∷ []) []
      one true = refl
      one false = refl

      by : (first : Bool) → further (places_of here (spots ++ last ∷ [])) ≡ further (places_of here spots) ++ cond there (suc (length spots) ∷ []) []
          → cond first (0 ∷ further (places_of here (spots ++ last ∷ []))) (further (places_of here (spots ++ last ∷ []))) ≡ placed first spots ++ cond there (suc (length spots) ∷ []) []
      by true rest = ap (λ ps. 0 ∷ ps) rest
      by false rest = rest

-- the place that was found
pub record IsPlace (here : InstanceId → Bool) (spots : List Cell) (index place : ℕ) : Type 0 where
  pub next : place ≡ next_place here spots index
  pub inside : place < length spots
  pub on_site : (d : Cell) → here (get_or spots place d).at ≡ true
  pub counted : index < length spots

pub place_is : (here : InstanceId → Bool) (spots read : List Cell) (index place : ℕ) → read ≡ spots → Some place ≡ slice_get (places_of here read) index → IsPlace here spots index place
place_is here spots read index place same found =
    let places : List ℕ = places_of here spots in
    let at : slice_get places index ≡ Some place = sym (found ∙ ap (λ xs. slice_get (places_of here xs) index) same) in
    let within : index < length places = slice_get_within places index place at in
    let next : next_place here spots index ≡ place = get_or_from_slice_get places index place (length spots) at in
    let there = stands here spots index (length spots) within in
    record {
      next = sym next;
      inside = omega (arith, next, there.0);
      on_site = λ d. ap (λ n. here (get_or spots n d).at) (sym next) ∙ there.1 d;
      counted = omega (arith, within, places_few here spots);
    }

pub place_past : (here : InstanceId → Bool) (spots read : List Cell) (index : ℕ) → read ≡ spots → slice_get (places_of here read) index ≡ None → next_place here spots index ≡ length spots
place_past here spots read index same none =
    sym (unwrap_or-slice_get (places_of here spots) index (length spots))
    ∙ ap (λ o. unwrap_or o (length spots)) (ap (λ xs. slice_get (places_of here xs) index) (sym same) ∙ none)

-- of all instances each place is one
pub every_place : (spots : List Cell) (i : ℕ) → slice_get (places_of everywhere spots) i ≡ then_some (nat_lt i (length spots)) i
every_place [] i = sym (ap (λ b. then_some b i) (le-ltb i 0 (omega arith)))
every_place (x ∷ spots) zero = sym (ap (λ b. then_some b 0) (lt-ltb 0 (suc (length spots)) (omega arith)))
every_place (x ∷ spots) (suc i) =
    slice_get-map (λ k. suc k) (places_of everywhere spots) i
    ∙ ap (λ o. option_map (λ k. suc k) o) (every_place spots i)
    ∙ elim (cases_lt i (length spots)) [
      | inl less ↦
          ap (λ b. option_map (λ k. suc k) (then_some b i)) (lt-ltb i (length spots) less)
          ∙ sym (ap (λ b. then_some b (suc i)) (lt-ltb (suc i) (suc (length spots)) (omega (arith, less))))
      | inr over ↦
          ap (λ b. option_map (λ k. suc k) (then_some b i)) (le-ltb i (length spots) over)
          ∙ sym (ap (λ b. then_some b (suc i)) (le-ltb (suc i) (suc (length spots)) (omega (arith, over))))
    ]
