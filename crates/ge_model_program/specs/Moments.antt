-- The events of a frame, for what the clock answers when it has come.
use Rattle.std.specs.Prelude.{ℕ, ◌+◌, ◌-◌, min, max, Bool, true, false, not, ◌&&◌, ◌==◌, nat_le, List, [], ◌∷◌, ◌++◌, codes}
use Rattle.ge_limits.specs.Limits as limit
use Rattle.ge_model_rows.specs.ClusterRows.{Cluster}
use Rattle.ge_model_rows.specs.EventRows.{Event, Good}
use Rattle.ge_model_wire.specs.Payloads.{event_in_payload}

-- the moment of a frame: the clock's, but below the limit of moments, and no earlier than the last entry, so that a clock which
-- goes back is taken as standing still
abbrev pub frame_moment : Cluster → ℕ → ℕ
frame_moment c clock = max c.last (min clock (limit.moments - 1))

-- whether a run is put in before a frame at a moment: the interval is over since the last one (sched_conf, schedule_interval)
abbrev pub is_due : Cluster → ℕ → Bool
is_due c moment = not (c.sched.interval == 0) && nat_le (c.last_run + c.sched.interval) moment

-- the run that is put in, which root asks for
abbrev pub put_in_run : ℕ → Event
put_in_run moment = record { moment = moment; user = codes "root"; group = codes "root"; text = codes "sched"; form = Good }

abbrev pub runs_before : Bool → ℕ → List Event
runs_before true moment = put_in_run moment ∷ []
runs_before false moment = []

-- the events of a frame: perhaps a run, and then its own, whatever form that has
unfoldable pub frame_events : Cluster → ℕ → List ℕ → List Event
frame_events c clock payload =
    runs_before (is_due c (frame_moment c clock)) (frame_moment c clock) ++ event_in_payload (frame_moment c clock) payload ∷ []
