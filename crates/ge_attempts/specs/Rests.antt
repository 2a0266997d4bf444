-- What is left at the moment of a run of an instance's slots and of its host's values, at most.
use Rattle.std.specs.Prelude.{◌≡◌, ℕ, ◌+◌, ◌-◌, ◌^◌, ◌≤◌, ◌<◌, ◌==◌, Bool, true, false, ◌&&◌, ◌||◌, nat_lt, nat_le, cond, min, All, List, [], ◌∷◌, map, fold, length, slice_get, slice_index_or, Option, Some, None, IfSome}
use Rattle.std.specs.Option.{option_or}
use Rattle.std.specs.List.{list_any}
use Rattle.ge_collections.specs.Keyed.{text_eq, at_text}
use Rattle.ge_job_index.specs.declared.short_row.ShortRow.{ShortRow}
use Rattle.ge_model_place.specs.Bookings.{plain_sum}
use Rattle.ge_model_rows.specs.ClusterRows.{Cluster}
use Rattle.ge_model_rows.specs.HostRows.{HostRow, Groups, InstanceId}
use Rattle.ge_model_rows.specs.JobRows.{Job, Advance}
use Rattle.ge_model_rows.specs.ScheduleRows.{LimitId, Instance, Host, Global, Pe, Quota, Booking}
use Rattle.ge_model_rows.specs.ScheduleRows.{Advance as Booked}
use Rattle.ge_model_place.specs.Demands.{counts_for}
use Rattle.ge_model_place.specs.Limits.{greatest_demand, capacity_of, consumables, resource_of}
use Rattle.ge_model_place.specs.Opening.{is_open}
use Rattle.ge_model_place.specs.Windows.{next_moment, window_end_from}
use Rattle.ge_rows.specs.declared.labels.JobFacts.{JobFacts}
use Rattle.ge_timeline.specs.Looks.{window_peak}
use Rattle.ge_capacities.specs.declared.counting.Counted.{Counted}
use Rattle.ge_attempts.specs.declared.looking.Found.{Found}
use Rattle.ge_attempts.specs.declared.looking.Found.TheVariants.{Enough, TooLittle, Nothing}
use Rattle.ge_attempts.specs.declared.rests.Rest.{Rest}
use Rattle.ge_attempts.specs.declared.rests.Left.{Left}
use Rattle.ge_attempts.specs.declared.rests.Room.{Room}
use Rattle.ge_attempts.specs.Amounts.{IsInTable, IsLeast, number_in}
use Rattle.ge_attempts.specs.Closing.{lacks_one, IsClosed}
use Rattle.ge_attempts.specs.Vacant.{goes_on, slots_of}

-- what is left of a limit, of which no task of a job of the table takes less than the least
abbrev pub rest_of : Cluster → Groups → ℕ → List Booking → LimitId → ℕ → Rest
rest_of c groups now booked limit least =
    record { limit = limit; resource = resource_of limit; there = capacity_of c groups limit; most = capacity_of c groups limit - window_peak booked limit now (next_moment now); least = least }

abbrev pub host_rests : Cluster → Groups → ℕ → List Booking → List (List ℕ × ℕ) → List ℕ → Option HostRow → List Rest
host_rests c groups now booked amounts host None = []
host_rests c groups now booked amounts host (Some row) = map (λ name. rest_of c groups now booked (Host host name) (number_in amounts name)) (consumables c row.values)

-- of the slots of an instance, of which each task takes one, and of the values of its host, of which the least that is asked is in a table: host_conf, complex_values
abbrev pub rests_at : Cluster → Groups → ℕ → List Booking → List (List ℕ × ℕ) → InstanceId → List Rest
rests_at c groups now booked amounts at = rest_of c groups now booked (slots_of at) 1 ∷ host_rests c groups now booked amounts at.host (at_text c.hosts at.host)

-- what is left at an instance before any decision, with the number of its host, and whether it lacks a name of some
abbrev pub left_first : Cluster → Groups → ℕ → List Booking → List (List ℕ × ℕ) → List (List ℕ × ℕ) → List (List ℕ) → InstanceId → Left
left_first c groups now booked amounts hosts names at =
    record { host = number_in hosts at.host; closed = lacks_one c groups names at; rests = rests_at c groups now booked amounts at; kept_from = None; blocked = None }

-- whether a limit counts a resource by its name
abbrev pub is_of : LimitId → List ℕ → Bool
is_of (Instance at name) resource = text_eq name resource
is_of (Host host name) resource = text_eq name resource
is_of (Global name) resource = text_eq name resource
is_of (Pe name) resource = false
is_of (Quota key) resource = text_eq key.resource resource
is_of (Booked number at) resource = false

-- whether more is asked of a resource than is left
abbrev pub asks_more : List ℕ → ℕ → Counted → Bool
asks_more resource most counted = nat_lt most (min counted.amount greatest_demand) && is_of counted.limit resource

abbrev pub is_short : List Counted → List ℕ → ℕ → Bool
is_short asked resource most = list_any (asks_more resource most) asked

abbrev pub is_short_now : List Counted → Rest → Bool
is_short_now asked rest = nat_lt rest.most rest.least || is_short asked rest.resource rest.most

-- whether it is of one of them
abbrev pub are_short : List Counted → List Rest → Bool
are_short asked rests = list_any (is_short_now asked) rests

-- what is left at another moment
abbrev pub left_then : List Booking → ℕ → Rest → ℕ
left_then booked moment rest = rest.there - window_peak booked rest.limit moment (next_moment moment)

-- what is left of it taken anew
abbrev pub renewed_rest : ℕ → List Booking → Rest → Rest
renewed_rest now booked rest = record rest { most = left_then booked now rest }

abbrev pub is_short_then : List Booking → ℕ → List Counted → Rest → Bool
is_short_then booked moment asked rest = nat_lt (left_then booked moment rest) rest.least || is_short asked rest.resource (left_then booked moment rest)

abbrev pub are_short_then : List Booking → ℕ → List Counted → List Rest → Bool
are_short_then booked moment asked rests = list_any (is_short_then booked moment asked) rests

-- at the moment of the run by what is known to be left then, at another by what is booked there
abbrev pub are_short_at : ℕ → List Booking → ℕ → List Counted → List Rest → Bool
are_short_at now booked moment asked rests = cond (moment == now) (are_short asked rests) (are_short_then booked moment asked rests)

-- what a task finds of one limit at the first moment of its window
abbrev pub found_of : List Booking → ℕ → List Counted → Rest → Found
found_of booked moment asked rest = cond (nat_lt (left_then booked moment rest) rest.least) Nothing (cond (is_short asked rest.resource (left_then booked moment rest)) TooLittle Enough)

-- what is so of all of them where that is found
abbrev pub IsFound : List Booking → ℕ → List Counted → List Rest → Found → Type 0
IsFound booked moment asked rests Enough = Unit {0}
IsFound booked moment asked rests TooLittle = are_short_then booked moment asked rests ≡ true
IsFound booked moment asked rests Nothing = (are_short_then booked moment asked rests ≡ true) × (are_short_then booked moment [] rests ≡ true)

-- the moment that is known of a place
abbrev pub known_there : Option (Option ℕ) → Option ℕ
known_there None = None
known_there (Some known) = known

abbrev pub known_of : List (Option ℕ) → ℕ → Option ℕ
known_of later place = known_there (slice_get later place)

-- whether a moment is known that lies in a window
abbrev pub is_inside : ℕ → ℕ → Option ℕ → Bool
is_inside from until None = false
is_inside from until (Some moment) = nat_le from moment && nat_lt moment until

-- what keeps a task from an instance: more is asked at the first moment of its window than is left, or too little is left for any job at one of its moments
abbrev pub OutBy : ℕ → List Booking → ℕ → ℕ → List Counted → List Rest → Option ℕ → Type 0
OutBy now booked from until asked rests None = are_short_at now booked from asked rests ≡ true
OutBy now booked from until asked rests (Some moment) = (from ≤ moment) × (moment < until) × (are_short_then booked moment [] rests ≡ true)

pub record IsOut (now : ℕ) (booked : List Booking) (from until : ℕ) (asked : List Counted) (rests : List Rest) : Type 0 where
  pub known : Option ℕ
  pub by : OutBy now booked from until asked rests known

-- what is so of an instance where that is found in a window
abbrev pub FindsAt : ℕ → List Booking → ℕ → ℕ → List Counted → List Rest → Found → Type 0
FindsAt now booked from until asked rests Enough = Unit {0}
FindsAt now booked from until asked rests TooLittle = IsOut now booked from until asked rests
FindsAt now booked from until asked rests Nothing = IsOut now booked from until asked rests × (are_short_then booked from [] rests ≡ true)

-- of each place a moment may be known at which too little is left for any job
pub record AreShortLater (booked : List Booking) (lefts : List Left) (later : List (Option ℕ)) : Type 0 where
  pub long : length later ≡ length lefts
  pub each : (k : ℕ) (none : Left) → k < length lefts → IfSome (slice_index_or later k None) (λ moment. are_short_then booked moment [] (slice_index_or lefts k none).rests ≡ true)

-- whether a moment is known that comes before another
abbrev pub comes_before : Option ℕ → Option ℕ → Bool
comes_before None until = false
comes_before (Some moment) None = false
comes_before (Some moment) (Some until) = nat_lt moment until

-- whether a moment at which too little is left at a place comes before another
abbrev pub blocked_there : Option Left → ℕ → Bool
blocked_there None until = false
blocked_there (Some left) until = comes_before left.blocked (Some until)

abbrev pub blocked_in : List Left → ℕ → ℕ → Bool
blocked_in lefts until place = blocked_there (slice_get lefts place) until

-- whether a moment comes before one that may be known
abbrev pub comes_sooner : ℕ → Option ℕ → Bool
comes_sooner moment None = true
comes_sooner moment (Some other) = nat_lt moment other

-- a moment at which too little is left for any job of the table, or one that is known
abbrev pub blocked_with : ℕ → List Booking → List Rest → ℕ → Option ℕ → Option ℕ
blocked_with now booked rests moment known = cond (nat_le now moment && comes_sooner moment known && are_short_then booked moment [] rests) (Some moment) known

abbrev pub blocked_since : ℕ → List Booking → List Rest → Option ℕ → Option ℕ → Option ℕ
blocked_since now booked rests None known = known
blocked_since now booked rests (Some moment) known = blocked_with now booked rests moment known

-- the first moment from which slots are kept
abbrev pub kept_with : Option ℕ → Option ℕ → Option ℕ
kept_with None before = before
kept_with (Some moment) None = Some moment
kept_with (Some moment) (Some before) = Some (min moment before)

-- what is left at an instance taken anew, after a start or after slots were kept from a moment on
abbrev pub renewed_left : ℕ → List Booking → Option ℕ → Left → Left
renewed_left now booked kept left =
    record left {
      rests = map (renewed_rest now booked) left.rests;
      kept_from = kept_with kept left.kept_from;
      blocked = blocked_since now booked (map (renewed_rest now booked) left.rests) (option_or kept left.kept_from) left.blocked;
    }

-- whether no task of a job of the table can take a slot at an instance: it is closed to all, too little is left, or too little will be before any window ends
abbrev pub is_full : Cluster → ℕ → Option ℕ → Left → Bool
is_full c now until left = goes_on c now && (left.closed || comes_before left.blocked until || are_short [] left.rests)

abbrev pub shorter_time : ℕ → ℕ × ShortRow JobFacts → ℕ
shorter_time shortest row = min shortest row.1.facts.lasts

-- the shortest time that jobs ask for, by their short rows
abbrev pub shortest_in : List (ℕ × ShortRow JobFacts) → ℕ
shortest_in rows = fold shorter_time (2 ^ 32 - 1) rows

abbrev pub sooner_end : ℕ → ℕ × Advance → ℕ
sooner_end end advance = min end advance.1.until

-- the sooner of a moment and the end of each advance reservation
abbrev pub cut_at_advances : List (ℕ × Advance) → ℕ → ℕ
cut_at_advances advances end = fold sooner_end end advances

-- no window of a job of the table ends before a moment, of a task that starts now
abbrev pub EndsNoSooner : Cluster → ℕ → ℕ → Type 0
EndsNoSooner c now until = (job : Job) → IsInTable c job → until ≤ window_end_from c job now

-- these places rise from one to an end, and at the others between them nothing is left
abbrev pub AreOpen : (Left → Bool) → List Left → ℕ → ℕ → List ℕ → Type 0
AreOpen full lefts end from [] = (k : ℕ) (none : Left) → from ≤ k → k < end → full (slice_index_or lefts k none) ≡ true
AreOpen full lefts end from (place ∷ places) =
    (from ≤ place) × (place < end) × ((k : ℕ) (none : Left) → from ≤ k → k < place → full (slice_index_or lefts k none) ≡ true) × AreOpen full lefts end (place + 1) places

-- instances before a place take nothing, and these places are open behind it
pub record ArePassed (takes : InstanceId → Bool) (full : Left → Bool) (order : List InstanceId) (lefts : List Left) (places : List ℕ) : Type 0 where
  pub from : ℕ
  pub none : (k : ℕ) (at : InstanceId) → k < from → takes (slice_index_or order k at) ≡ false
  pub rest : AreOpen full lefts (length lefts) from places

-- whether the host of a number is among those that are kept
abbrev pub is_kept : List Bool → ℕ → Bool
is_kept kept host = slice_index_or kept host true

-- the hosts of instances before a place are kept unless something keeps a task from them
pub record AreKept (now : ℕ) (booked : List Booking) (from until : ℕ) (asked : List Counted) (lefts : List Left) (place : ℕ) (kept : List Bool) : Type 0 where
  pub out : (k : ℕ) (none : Left) → k < place → is_kept kept (slice_index_or lefts k none).host ≡ false → IsOut now booked from until asked (slice_index_or lefts k none).rests

-- hosts have numbers by their names
pub record AreNumbered (number : List ℕ → ℕ) (order : List InstanceId) (rests : List Left) : Type 0 where
  pub each : (k : ℕ) (at : InstanceId) (none : Left) → k < length order → (slice_index_or rests k none).host ≡ number (slice_index_or order k at).host

module _ (c : Cluster) (groups : Groups) (now : ℕ) (booked : List Booking) where
  -- no more of a resource is left of a limit that each job counts for to which the instance is open and that is sent into no reservation; none of the table takes less than the least
  pub record IsLeft (at : InstanceId) (rest : Rest) : Type 0 where
    pub of_it : resource_of rest.limit ≡ rest.resource
    pub counts : (job : Job) → is_open c groups job at ≡ true → (job.advance == 0) ≡ true → counts_for c groups job rest.limit (record { at = at; slots = 1 }) ≡ true
    pub whole : rest.there ≡ capacity_of c groups rest.limit
    pub within : capacity_of c groups rest.limit ≤ plain_sum booked rest.limit now + rest.most
    pub least : IsLeast c (resource_of rest.limit) rest.least

  -- at a moment from that of the run on too little is left for any job of the table
  abbrev pub IsBlocked : List Rest → ℕ → Type 0
  IsBlocked rests moment = (now ≤ moment) × (are_short_then booked moment [] rests ≡ true)

  -- what is known of an instance is so
  pub record IsLeftAt (at : InstanceId) (left : Left) : Type 0 where
    pub rests : All (IsLeft at) left.rests
    pub shut : left.closed ≡ true → IsClosed c groups at
    pub blocked : IfSome left.blocked (IsBlocked left.rests)

  -- no window of a task that starts now ends before a moment
  abbrev pub LastsUntil : ℕ → Type 0
  LastsUntil until = EndsNoSooner c now until

  -- for each instance what is left there, and where something may be
  pub record AreLeft (order : List InstanceId) (room : Room) : Type 0 where
    pub number : List ℕ → ℕ
    pub hosts : AreNumbered number order room.lefts
    pub long : length room.lefts ≡ length order
    pub each : (k : ℕ) (at : InstanceId) (none : Left) → k < length order → IsLeftAt (slice_index_or order k at) (slice_index_or room.lefts k none)
    pub lasts : IfSome room.until LastsUntil
    pub later : AreShortLater booked room.lefts room.later
    pub others : AreOpen (is_full c now room.until) room.lefts (length room.lefts) 0 room.vacant
