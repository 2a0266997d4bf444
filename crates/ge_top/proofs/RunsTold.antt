-- How far a replay has come whose script is read in pieces, where its source tells what it holds.
use Rattle.std.proofs.Common.{◌≡◌, ◌⊎◌, ℕ, ◌+◌, ◌-◌, ◌<◌, ◌≤◌, Bool, true, false, List, [], ◌++◌, length, Option, Some, None, IfSome, refl, ap, ◌∙◌, sym, subst, inl, inr, ⊎_elim, flat_map}
use Rattle.std.specs.Prelude.{option_map}
use Rattle.ge_outside.specs.Streams.{Gains, GainsPrefix}
use Rattle.ge_model_rows.specs.ClusterRows.{Cluster}
use Rattle.ge_model_rows.specs.EventRows.{Event, Reply, Planned}
use Rattle.ge_model_journal.specs.Disk.{Content}
use Rattle.ge_model_grammar.specs.Events.{events_of}
use Rattle.ge_model_grammar.specs.Sources.{IsReadToEnd}
use Rattle.ge_model_core.specs.Render.{rendered}
use Rattle.ge_model_program.specs.Traced.{traced}
use Rattle.ge_model_program.specs.Runs.{EachStandsFor, EachStandsForOneOf, RanTo, RanCut, RanAll, RanFull}
use Rattle.ge_model_program.specs.Keeping.{Ledger, FitsBatch, HasNoRoom, next_ledger as ledger_next}
use Rattle.ge_top.specs.NextEvents.{GivesSome, HasNoMore}
use Rattle.ge_top.proofs.Runs.{HasRun, HasRun-none, nothing-in-hand, all-answered, in-hand, too-full, cut-short, stopped-here, last-here, goes-on}
use Rattle.ge_top.proofs.TakenEvents.{gives-split, none-behind}
use Rattle.ge_top.proofs.Told.{no_some, same_some}

module _ (plan : Cluster → Event → Planned) (start : Cluster) (old : Option (List ℕ)) (size before : ℕ) (origin : Ledger) where
  abbrev RunOf : Option (List ℕ) → Option (List Event) → Option (List ℕ) → ℕ → Ledger → Cluster → Type 0
  RunOf None None now later ledger reached = Unit {0}
  RunOf (Some script) (Some left) now later ledger reached = HasRun plan start (events_of script) old size before origin now later ledger reached left
  RunOf None (Some left) now later ledger reached = ⊥
  RunOf (Some script) None now later ledger reached = ⊥

  -- the events of the script that were given are answered, and these are to come
  pub record RunSoFar (script : Option (List ℕ)) (left : Option (List Event)) (now : Option (List ℕ)) (later : ℕ) (ledger : Ledger) (reached : Cluster) : Type 0 where
    pub told : RunOf script left now later ledger reached

  pub run-none : 0 < size → (script : Option (List ℕ)) (left : Option (List Event)) → left ≡ option_map events_of script → RunSoFar script left old before origin start
  run-none some None None is = record { told = tt }
  run-none some None (Some left) is = absurd (no_some left (sym is))
  run-none some (Some script) None is = absurd (no_some (events_of script) is)
  run-none some (Some script) (Some left) is = record {
    told = subst (λ es. HasRun plan start (events_of script) old size before origin old before origin start es) (sym (same_some left (events_of script) is))
        (HasRun-none plan start (events_of script) old size before origin some);
  }

  -- a fact of the script
  on-run : (script : Option (List ℕ)) (left : Option (List Event)) (now : Option (List ℕ)) (later : ℕ) (ledger : Ledger) (reached : Cluster) (P : List ℕ → Type 0) → RunSoFar script left now later ledger reached
      → ((bytes : List ℕ) (events : List Event) → script ≡ Some bytes → left ≡ Some events → HasRun plan start (events_of bytes) old size before origin now later ledger reached events → P bytes)
      → IfSome script P
  on-run None left now later ledger reached P run holds = tt
  on-run (Some script) None now later ledger reached P run holds = absurd run.told
  on-run (Some script) (Some events) now later ledger reached P run holds = holds script events refl refl run.told

  -- some events more
  run-more : (script : Option (List ℕ)) (left next : Option (List Event)) (batch : List Event) (now after : Option (List ℕ)) (later last : ℕ) (ledger next_ledger : Ledger) (reached new : Cluster)
      → RunSoFar script left now later ledger reached → GivesSome left next batch
      → ((bytes : List ℕ) (events rest : List Event) → next ≡ Some rest → events ≡ batch ++ rest → HasRun plan start (events_of bytes) old size before origin now later ledger reached events
      → HasRun plan start (events_of bytes) old size before origin after last next_ledger new rest) → RunSoFar script next after last next_ledger new
  run-more None None None batch now after later last ledger next_ledger reached new run gives more = record { told = tt }
  run-more None None (Some rest) batch now after later last ledger next_ledger reached new run gives more = absurd gives.told
  run-more None (Some events) next batch now after later last ledger next_ledger reached new run gives more = absurd run.told
  run-more (Some script) None next batch now after later last ledger next_ledger reached new run gives more = absurd run.told
  run-more (Some script) (Some events) None batch now after later last ledger next_ledger reached new run gives more = absurd gives.told
  run-more (Some script) (Some events) (Some rest) batch now after later last ledger next_ledger reached new run gives more =
      record { told = more script events rest refl gives.told run.told }

  module _ (script : Option (List ℕ)) (left : Option (List Event)) (now : Option (List ℕ)) (later : ℕ) (ledger : Ledger) (reached : Cluster) (run : RunSoFar script left now later ledger reached)
      (home : Type 0) (a b : List Content) where
    -- nothing is in hand
    pub told-nothing : (home → EachStandsFor a b reached) → IfSome script (λ bytes. RanTo plan start (events_of bytes) home old now a b size before later origin)
    told-nothing images =
        on-run script left now later ledger reached (λ bytes. RanTo plan start (events_of bytes) home old now a b size before later origin) run
        (λ bytes events is same r. nothing-in-hand plan start (events_of bytes) old size before origin now later ledger reached events r home a b images)

    -- nothing is to come
    pub told-all : (next : Option (List Event)) (rest : Option (List ℕ)) (batch : List Event) → GivesSome left next batch → HasNoMore next rest → batch ≡ []
        → (home → EachStandsFor a b reached) → IfSome script (λ bytes. RanAll plan start (events_of bytes) home old now a b size before later origin (IsReadToEnd rest))
    told-all next rest batch gives none empty images =
        on-run script left now later ledger reached (λ bytes. RanAll plan start (events_of bytes) home old now a b size before later origin (IsReadToEnd rest)) run
        (λ bytes events is same r.
        let split = gives-split left next batch events gives same in
        let no_events : events ≡ [] = split.2 ∙ ap (λ es. es ++ split.0) empty ∙ none-behind next rest split.0 none split.1 in
        all-answered plan start (events_of bytes) old size before origin now later ledger reached events r home a b (IsReadToEnd rest) no_events none.ended images)

  -- one batch more
  module _ (script : Option (List ℕ)) (left next : Option (List Event)) (now after : Option (List ℕ)) (later last : ℕ) (ledger : Ledger) (reached new : Cluster) (batch : List Event)
      (run : RunSoFar script left now later ledger reached) (gives : GivesSome left next batch) (ms : List Bool) (counted : length ms ≡ length batch) (some : 0 < length batch)
      (few : length batch ≤ size) (took : last ≤ later + 3) (cluster : new ≡ (traced plan reached batch ms).cluster) where
    -- the batch is in hand
    pub told-in-hand : (home : Type 0) (a b : List Content) → (home → EachStandsForOneOf a b reached new)
        → IfSome script (λ bytes. RanTo plan start (events_of bytes) home old now a b size before last origin)
    told-in-hand home a b images =
        on-run script left now later ledger reached (λ bytes. RanTo plan start (events_of bytes) home old now a b size before last origin) run
        (λ bytes events is same r.
        let split = gives-split left next batch events gives same in
        in-hand plan start (events_of bytes) old size before origin now after later last ledger reached new batch split.0 events r split.2 ms counted some few took cluster home a b images)

    -- there is no room for it
    pub told-full : (home : Type 0) (a b : List Content) (rest : Option (List ℕ)) (place : ℕ) → HasNoRoom ledger (traced plan reached batch ms) place → (length batch ≡ size) ⊎ HasNoMore next rest
        → (home → EachStandsFor a b reached) → IfSome script (λ bytes. RanFull plan start (events_of bytes) home old now a b size before last origin)
    told-full home a b rest place room whole images =
        on-run script left now later ledger reached (λ bytes. RanFull plan start (events_of bytes) home old now a b size before last origin) run
        (λ bytes events is same r.
        let split = gives-split left next batch events gives same in
        too-full plan start (events_of bytes) old size before origin now after later last ledger reached new batch split.0 events r split.2 ms counted some few took cluster home a b
        place room (⊎_elim (λ full. inl full) (λ none. inr (none-behind next rest split.0 none split.1)) whole) images)

    module _ (replies : List Reply) (same_replies : replies ≡ (traced plan reached batch ms).replies) (next_ledger : Ledger)
        (fitted : FitsBatch ledger (traced plan reached batch ms)) (is_next : next_ledger ≡ ledger_next ledger (traced plan reached batch ms)) (home : Type 0) (a b : List Content) (images : home → EachStandsFor a b new) where
      -- a write of its replies failed
      pub told-cut : GainsPrefix now after (flat_map rendered replies) → IfSome script (λ bytes. RanCut plan start (events_of bytes) home old after a b size before last origin)
      told-cut gains =
          on-run script left now later ledger reached (λ bytes. RanCut plan start (events_of bytes) home old after a b size before last origin) run
          (λ bytes events is same r.
          let split = gives-split left next batch events gives same in
          cut-short plan start (events_of bytes) old size before origin now after later last ledger reached new batch split.0 events r split.2 ms counted some few took cluster replies same_replies next_ledger fitted is_next home a b gains images)

      -- it stops the master
      pub told-stopped : (ended : Type 0) → (traced plan reached batch ms).stopped ≡ true → Gains now after (flat_map rendered replies)
          → IfSome script (λ bytes. RanAll plan start (events_of bytes) home old after a b size before last origin ended)
      told-stopped ended stopped gains =
          on-run script left now later ledger reached (λ bytes. RanAll plan start (events_of bytes) home old after a b size before last origin ended) run
          (λ bytes events is same r.
          let split = gives-split left next batch events gives same in
          stopped-here plan start (events_of bytes) old size before origin now after later last ledger reached new batch split.0 events r split.2 ms counted some few took cluster replies same_replies next_ledger fitted is_next home a b ended
          stopped gains images)

      -- it is the last
      pub told-last : (rest : Option (List ℕ)) → HasNoMore next rest → Gains now after (flat_map rendered replies)
          → IfSome script (λ bytes. RanAll plan start (events_of bytes) home old after a b size before last origin (IsReadToEnd rest))
      told-last rest none gains =
          on-run script left now later ledger reached (λ bytes. RanAll plan start (events_of bytes) home old after a b size before last origin (IsReadToEnd rest)) run
          (λ bytes events is same r.
          let split = gives-split left next batch events gives same in
          last-here plan start (events_of bytes) old size before origin now after later last ledger reached new batch split.0 events r split.2 ms counted some few took cluster replies same_replies
          next_ledger fitted is_next home a b (IsReadToEnd rest) (none-behind next rest split.0 none split.1) none.ended gains images)

    -- the run goes on
    pub told-goes-on : (replies : List Reply) → replies ≡ (traced plan reached batch ms).replies → (next_ledger : Ledger) → FitsBatch ledger (traced plan reached batch ms)
        → next_ledger ≡ ledger_next ledger (traced plan reached batch ms) → length batch ≡ size → (traced plan reached batch ms).stopped ≡ false
        → Gains now after (flat_map rendered replies) → RunSoFar script next after last next_ledger new
    told-goes-on replies same_replies next_ledger fitted is_next full going gains =
        run-more script left next batch now after later last ledger next_ledger reached new run gives
        (λ bytes events others there split r.
        goes-on plan start (events_of bytes) old size before origin now after later last ledger reached new batch others events r split ms counted some few took cluster replies same_replies
        next_ledger fitted is_next full going gains)
