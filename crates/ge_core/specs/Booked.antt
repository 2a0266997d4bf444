-- The plan of qrsub by its parts.
use Rattle.std.specs.Prelude.{ℕ, Bool, ◌||◌, nat_lt, nat_le, List, [], Option, codes}
use Rattle.std.specs.Option.{unwrap_or}
use Rattle.ge_base.specs.declared.refusal.Refusal.{Refusal}
use Rattle.ge_limits.specs.Limits as limit
use Rattle.ge_model_rows.specs.ClusterRows.{Cluster}
use Rattle.ge_model_rows.specs.EventRows.{Event, Planned}
use Rattle.ge_model_rows.specs.JobRows.{Request, Advance}
use Rattle.ge_model_grammar.specs.Options.{Given}
use Rattle.ge_model_place.specs.Advances.{advance_grants}
use Rattle.ge_model_core.specs.Booking as booking
use Rattle.ge_model_core.specs.OptionValues.{option_word}
use Rattle.ge_model_core.specs.Refusals.{unless_refused}

-- what is asked for with this request
abbrev pub asked_with : Event → Given → Request → Advance
asked_with e options request = record {
  name = unwrap_or (option_word options (codes "-N")) (codes "ar");
  owner = e.user;
  group = e.group;
  from = booking.booked_from e options;
  until = booking.asked_until e options;
  request = request;
  grants = [];
}

-- whether it begins before now, ends where it begins or before, or not before the last moment
abbrev pub no_time_is : Event → Given → Bool
no_time_is e options =
    nat_lt (booking.booked_from e options) e.moment || nat_le (booking.asked_until e options) (booking.booked_from e options) || nat_le limit.moments (booking.asked_until e options)

-- the plan where this was noted
abbrev pub plan_with : Cluster → Event → Advance → Option Refusal → Planned
plan_with c e asked faults = unless_refused faults (booking.booked c e asked (advance_grants c e.moment asked))
