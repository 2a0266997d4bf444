-- Step functions, as points with the number from each on.
use Rattle.std.specs.Prelude.{ℕ, ◌+◌, ◌<◌, ◌≤◌, ◌^◌, ◌-◌, Bool, ◌&&◌, cond, nat_le, nat_lt, min, max, List, [], ◌∷◌, map, fold, length, count_by, slice_index_or, slice_range, take, drop, ◌++◌}
use Rattle.ge_timeline.specs.declared.points.Point.{Point}

abbrev pub nothing : Point
nothing = record { at = 0; sum = 0 }

-- the number from a point on, where that is by the moment
abbrev pub seen : ℕ → ℕ → Point → ℕ
seen moment sum point = cond (nat_le point.at moment) point.sum sum

-- the number at a moment: that of the last point by it, or 0
abbrev pub level : List Point → ℕ → ℕ
level points moment = fold (seen moment) 0 points

-- whether each of these numbers is above one
abbrev pub AllAbove : ℕ → List ℕ → Type 0
AllAbove m [] = Unit {0}
AllAbove m (x ∷ xs) = (m < x) × AllAbove m xs

-- numbers that rise
abbrev pub Rises : List ℕ → Type 0
Rises [] = Unit {0}
Rises (x ∷ xs) = AllAbove x xs × Rises xs

abbrev pub moments : List Point → List ℕ
moments points = map (λ point. point.at) points

-- points by their moments, which differ
abbrev pub IsRising : List Point → Type 0
IsRising points = (i j : ℕ) (d : Point) → i < j → j < length points → (slice_index_or points i d).at < (slice_index_or points j d).at

-- the last number by any moment
abbrev pub last_sum : List Point → ℕ
last_sum points = fold (λ sum point. point.sum) 0 points

-- a number with one more, cut at the end of its type
abbrev pub with_more : ℕ → ℕ → ℕ
with_more amount sum = min (sum + amount) (2 ^ 128 - 1)

abbrev pub raised : ℕ → Point → Point
raised amount point = record point { sum = with_more amount point.sum }

-- the points of a part with an amount more
abbrev pub with_raised : ℕ → ℕ → ℕ → List Point → List Point
with_raised amount first end points = take first points ++ (map (raised amount) (slice_range points first end) ++ drop end points)

-- whether a moment is inside a span
abbrev pub is_in : ℕ → ℕ → ℕ → Bool
is_in from until moment = nat_le from moment && nat_lt moment until

-- the number at a moment, once an amount was added from one moment on until before another
abbrev pub level_with : ℕ → ℕ → ℕ → ℕ → ℕ → ℕ
level_with from until amount moment sum = cond (is_in from until moment) (with_more amount sum) sum

-- the greatest so far, with the number at a point of the window behind its first moment
abbrev pub higher : ℕ → ℕ → ℕ → Point → ℕ
higher from until most point = cond (nat_lt from point.at && nat_lt point.at until) (max most point.sum) most

-- the greatest number of a window, 0 for an empty one
abbrev pub greatest : List Point → ℕ → ℕ → ℕ
greatest points from until = cond (nat_lt from until) (fold (higher from until) (level points from) points) 0

-- the new points have the moments of the old ones and these, and no other: of no kind of moments are there more
abbrev pub HasMoments : List Point → List ℕ → List Point → Type 0
HasMoments old more new = (test : ℕ → Bool) → count_by test (moments new) ≤ count_by test (moments old) + count_by test more

-- how many points are inside a window
abbrev pub points_in : ℕ → ℕ → List Point → ℕ
points_in from until points = count_by (λ point. nat_lt from point.at && nat_lt point.at until) points
