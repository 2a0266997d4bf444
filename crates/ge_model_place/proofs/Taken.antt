-- Slots are given one at a time: what stands after each keeps all limits, over what is booked.
use Rattle.std.proofs.Common.{◌≡◌, ℕ, ◌+◌, ◌*◌, ◌≤◌, ◌==◌, inl, inr, Bool, true, false, not, ◌&&◌, cond, min, List, [], ◌∷◌, ◌++◌, fold, flat_map, Option, Some, None, refl, sym, ap, ◌∙◌, mul-le-mul_right, arith}
use Rattle.std.specs.List.{list_all, list_any}
use Rattle.std.specs.Option.{option_map}
use Rattle.std.proofs.lemmas.Bool.{cond_both, cases_Bool, and_parts, and_from, eqb-false}
use Rattle.std.proofs.lemmas.List.Folds.{list_all-append}
use Rattle.ge_model_rows.specs.ClusterRows.{Cluster}
use Rattle.ge_model_rows.specs.HostRows.{Groups, InstanceId}
use Rattle.ge_model_rows.specs.JobRows.{Job}
use Rattle.ge_model_rows.specs.ScheduleRows.{LimitId}
use Rattle.ge_model_place.specs.Bookings.{same_limit}
use Rattle.ge_model_place.specs.Limits.{Counted, capacity_of, limits_at, with_limit_once, each_limit_once, counted, counted_at, per_slot, is_per_job, resource_of, asked_by}
use Rattle.ge_model_place.specs.Placement.{Cell, asked_so_far, asked_with_one, takes_one_more, with_slot, next_slot}
use Rattle.ge_model_place.proofs.Once.{Each, each_of_both, differs, Apart, apart_push}

-- what a grant counts for: each limit once, with its capacity

abbrev pub CountedApart : List Counted → Type 0
CountedApart xs = Apart (λ (x : Counted). x.limit) (λ (x : Counted). x.amount) xs

abbrev pub LimitsApart : List LimitId → Type 0
LimitsApart xs = Apart (λ (x : LimitId). x) (λ (x : LimitId). 0) xs

pub once_apart : (limits so_far : List LimitId) → LimitsApart so_far → LimitsApart (fold with_limit_once so_far limits)
once_apart [] so_far apart = apart
once_apart (limit ∷ limits) so_far apart =
    once_apart limits (with_limit_once so_far limit)
    (cond_both (list_any (same_limit limit) so_far) so_far (so_far ++ limit ∷ []) LimitsApart (λ _. apart) (λ new. apart_push (λ (x : LimitId). x) (λ (x : LimitId). 0) so_far limit apart new))

module _ (c : Cluster) (groups : Groups) (job : Job) where
  -- a limit with what one slot asks of it
  abbrev alone : LimitId → Counted
  alone x = record { limit = x; capacity = capacity_of c groups x; amount = per_slot c job (resource_of x); once = is_per_job c (resource_of x) }

  abbrev differ : LimitId → List Counted → Bool
  differ limit xs = list_all (differs (λ (x : Counted). x.limit) (λ (x : Counted). x.amount) limit) xs

  counted_differ : (limit : LimitId) (limits : List LimitId) → list_all (differs (λ (x : LimitId). x) (λ (x : LimitId). 0) limit) limits ≡ true → differ limit (flat_map (counted c groups job) limits) ≡ true
  counted_differ limit [] e = refl
  counted_differ limit (x ∷ xs) e =
      let parts = and_parts (not (same_limit x limit)) (list_all (differs (λ (x : LimitId). x) (λ (x : LimitId). 0) limit) xs) e in
      let rest = counted_differ limit xs parts.1 in
      let first : differ limit (counted c groups job x) ≡ true =
      cond_both (per_slot c job (resource_of x) == 0) [] (alone x ∷ []) (λ ys. differ limit ys ≡ true)
      (λ _. refl)
      (λ _. and_from (not (same_limit x limit)) true parts.0 refl) in
      list_all-append (differs (λ (x : Counted). x.limit) (λ (x : Counted). x.amount) limit) (counted c groups job x) (flat_map (counted c groups job) xs)
      ∙ and_from (differ limit (counted c groups job x)) (differ limit (flat_map (counted c groups job) xs)) first rest

  counted_apart : (limits : List LimitId) → LimitsApart limits → CountedApart (flat_map (counted c groups job) limits)
  counted_apart [] apart = tt
  counted_apart (x ∷ xs) apart =
      let rest = counted_apart xs apart.1 in
      cond_both (per_slot c job (resource_of x) == 0) [] (alone x ∷ []) (λ ys. CountedApart (ys ++ flat_map (counted c groups job) xs))
      (λ _. rest)
      (λ _. (counted_differ x xs apart.0, rest))

  -- each limit is counted once
  pub counted_at_apart : (at : InstanceId) → CountedApart (counted_at c groups job at)
  unfolding counted_at
  counted_at_apart at = counted_apart (each_limit_once (limits_at c groups job at)) (once_apart (limits_at c groups job at) [] tt)

  -- a limit with its capacity and an amount above 0, which is that of its resource
  pub record IsCounted (x : Counted) : Type 0 where
    pub capacity : x.capacity ≡ capacity_of c groups x.limit
    pub amount : x.amount ≡ 0 → ⊥
    pub asks : x.amount ≡ per_slot c job (resource_of x.limit)
    pub once : x.once ≡ is_per_job c (resource_of x.limit)

  -- what is asked of a limit together: no more than one slot's amount where that is asked once
  abbrev pub together : LimitId → ℕ → ℕ
  together limit n = cond (is_per_job c (resource_of limit)) (min n (per_slot c job (resource_of limit))) n

  pub together_grows : (limit : LimitId) (n m : ℕ) → n ≤ m → together limit n ≤ together limit m
  together_grows limit n m h =
      elim (cases_Bool (is_per_job c (resource_of limit))) [ inl once ↦ rw once (omega (arith, h)) | inr each ↦ rw each h ]

  pub together_none : (limit : LimitId) → together limit 0 ≡ 0
  together_none limit = elim (cases_Bool (is_per_job c (resource_of limit))) [ inl once ↦ rw once (omega arith) | inr each ↦ rw each refl ]

  -- what slots ask together
  pub asked_by_is : (slots : ℕ) (x : Counted) → IsCounted x → (slots ≡ 0 → ⊥) → asked_by slots x ≡ together x.limit (slots * x.amount)
  asked_by_is slots x is some =
      elim (cases_Bool (is_per_job c (resource_of x.limit))) [
        | inl once ↦
            let most : 1 * x.amount ≤ slots * x.amount = mul-le-mul_right x.amount (omega (arith, some)) in
            rw (is.once, once) (let asks = is.asks in omega (arith, asks, most))
        | inr each ↦ rw (is.once, each) refl
      ]

  -- no less than one of them
  pub asked_by_least : (slots : ℕ) (x : Counted) → (slots ≡ 0 → ⊥) → x.amount ≤ asked_by slots x
  asked_by_least slots x some =
      let most : 1 * x.amount ≤ slots * x.amount = mul-le-mul_right x.amount (omega (arith, some)) in
      elim (cases_Bool x.once) [ inl once ↦ rw once (omega arith) | inr each ↦ rw each (omega (arith, most)) ]

  -- what one more slot asks together with those before
  pub asked_with_one_is : (cells : List Cell) (x : Counted) → IsCounted x → asked_with_one cells x ≡ together x.limit (asked_so_far cells x.limit + x.amount)
  asked_with_one_is cells x is =
      elim (cases_Bool (is_per_job c (resource_of x.limit))) [
        | inl once ↦ rw (is.once, once) (let asks = is.asks in omega (arith, asks))
        | inr each ↦ rw (is.once, each) refl
      ]

  pub asked_with_one_some : (cells : List Cell) (x : Counted) → x.amount ≤ asked_with_one cells x
  asked_with_one_some cells x = elim (cases_Bool x.once) [ inl once ↦ rw once (omega arith) | inr each ↦ rw each (omega arith) ]

  counted_each : (limits : List LimitId) → Each IsCounted (flat_map (counted c groups job) limits)
  counted_each [] = tt
  counted_each (x ∷ xs) =
      each_of_both IsCounted (counted c groups job x) (flat_map (counted c groups job) xs)
      (cond_both (per_slot c job (resource_of x) == 0) [] (alone x ∷ []) (λ ys. Each IsCounted ys)
      (λ _. tt)
      (λ some. (record { capacity = refl; amount = eqb-false (per_slot c job (resource_of x)) 0 some; asks = refl; once = refl }, tt)))
      (counted_each xs)

  pub counted_at_each : (at : InstanceId) → Each IsCounted (counted_at c groups job at)
  unfolding counted_at
  counted_at_each at = counted_each (each_limit_once (limits_at c groups job at))

-- one more slot

-- a cell takes a slot: the cells before it and behind it stay
abbrev pub with_one : Cell → Cell
with_one cell = record cell { slots = cell.slots + 1 }

pub record Takes (cells rest more : List Cell) : Type 0 where
  pub before : List Cell
  pub cell : Cell
  pub behind : List Cell
  pub was : rest ≡ before ++ cell ∷ behind
  pub is : more ≡ before ++ with_one cell ∷ behind
  pub takes : takes_one_more cells cell ≡ true

module _ (here : InstanceId → Bool) (cells : List Cell) where
  abbrev can : Cell → Bool
  can cell = here cell.at && takes_one_more cells cell

  slot_here : (cell : Cell) (rest : List Cell) → can cell ≡ true → with_slot here cells (cell ∷ rest) ≡ Some (with_one cell ∷ rest)
  slot_here cell rest does = rw (does, with_slot) refl

  slot_later : (cell : Cell) (rest : List Cell) → can cell ≡ false → with_slot here cells (cell ∷ rest) ≡ option_map (λ more. cell ∷ more) (with_slot here cells rest)
  slot_later cell rest fails = rw (fails, with_slot) refl

  later : (cell : Cell) (rest more : List Cell) (found : Option (List Cell)) → ((next : List Cell) → found ≡ Some next → Takes cells rest next) → option_map (λ more. cell ∷ more) found ≡ Some more → Takes cells (cell ∷ rest) more
  later cell rest more None one e = absurd cc
  later cell rest more (Some next) one e =
      let t = one next refl in
      let same : more ≡ cell ∷ next = cc in
      record { before = cell ∷ t.before; cell = t.cell; behind = t.behind; was = ap (λ xs. cell ∷ xs) t.was; is = same ∙ ap (λ xs. cell ∷ xs) t.is; takes = t.takes }

  slot_takes : (rest more : List Cell) → with_slot here cells rest ≡ Some more → Takes cells rest more
  slot_takes [] more e = absurd cc
  slot_takes (cell ∷ rest) more e =
      elim (cases_Bool (can cell)) [
        | inl does ↦
            let same : Some (with_one cell ∷ rest) ≡ Some more = sym (slot_here cell rest does) ∙ e in
            let is : more ≡ with_one cell ∷ rest = cc in
            record { before = []; cell = cell; behind = rest; was = refl; is = is; takes = (and_parts (here cell.at) (takes_one_more cells cell) does).1 }
        | inr fails ↦ later cell rest more (with_slot here cells rest) (λ next found. slot_takes rest next found) (sym (slot_later cell rest fails) ∙ e)
      ]

  -- the first that takes a slot has one more
  pub one_more_takes : (more : List Cell) → next_slot here cells ≡ Some more → Takes cells cells more
  one_more_takes more e = slot_takes cells more e
