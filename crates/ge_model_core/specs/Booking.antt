-- The plans of qrsub, qrdel and qrstat: advance reservations.
use Rattle.std.specs.Prelude.{ℕ, ◌+◌, ◌^◌, Bool, ◌&&◌, ◌||◌, not, nat_lt, nat_le, if◌then◌else◌, List, [], ◌∷◌, ◌++◌, length, flat_map, Option, Some, None, is_some, option_map, option_and_then, unwrap_or, codes, decimal}
use Rattle.ge_base.specs.declared.refusal.Refusal.{Refusal}
use Rattle.ge_base.specs.declared.refusal.Refusal.TheVariants.{NoSuchObject, NotPermitted, InUse, BadValue, Limit}
use Rattle.ge_collections.specs.Keyed.{text_eq, at_number}
use Rattle.ge_limits.specs.Limits as limit
use Rattle.ge_model_rows.specs.ClusterRows.{Cluster}
use Rattle.ge_model_rows.specs.EntryRows.{Book, Unbook}
use Rattle.ge_model_rows.specs.EventRows.{Event, Planned}
use Rattle.ge_model_rows.specs.JobRows.{Grant, Advance}
use Rattle.ge_model_rows.specs.ValueRows.{Kind}
use Rattle.ge_model_core.specs.Refusals.{refused}
use Rattle.ge_model_rows.specs.Faults.{when}
use Rattle.ge_model_rows.specs.Pieces.{each_number_once}
use Rattle.ge_model_rows.specs.Values.{value_of, amount_in}
use Rattle.ge_model_rows.specs.Access.{is_operator}
use Rattle.ge_model_jobs.specs.Starting.{is_joined}
use Rattle.ge_model_grammar.specs.Options.{Given}
use Rattle.ge_model_config.specs.Requests.{request_of}
use Rattle.ge_model_place.specs.Advances.{advance_grants}
use Rattle.ge_model_report.specs.Booked.{booked_lines}
use Rattle.ge_model_core.specs.Answers.{changed, shown, unless_faulty}
use Rattle.ge_model_core.specs.OptionValues.{option_word, number_given}
use Rattle.ge_model_core.specs.JobAdvances.{no_request}

-- a reservation begins at -a, or now (qrsub)
abbrev pub booked_from : Event → Given → ℕ
booked_from e options = unwrap_or (number_given options (codes "-a")) e.moment

-- -d is a TIME; a word that is none lasts no second, which is refused
abbrev pub seconds_given : Given → ℕ
seconds_given options = unwrap_or (option_map amount_in (option_and_then (value_of Kind.Time) (option_word options (codes "-d")))) 0

-- it ends at -e, or as long behind its beginning as -d says
abbrev pub asked_until : Event → Given → ℕ
asked_until e options = unwrap_or (number_given options (codes "-e")) (booked_from e options + seconds_given options)

-- the reservation that a user asks for, without slots yet
abbrev pub advance_asked : Cluster → Event → Given → Advance
advance_asked c e options = record {
  name = unwrap_or (option_word options (codes "-N")) (codes "ar");
  owner = e.user;
  group = e.group;
  from = booked_from e options;
  until = asked_until e options;
  request = (request_of c options no_request).0;
  grants = [];
}

-- it doesn't begin before now, ends behind its beginning, and before 2^40
abbrev pub time_faults : ℕ → Advance → List Refusal
time_faults now asked = when (nat_lt asked.from now || nat_le asked.until asked.from || nat_le limit.moments asked.until) BadValue

-- there are at most 10,000 reservations, and their numbers end at 4,294,967,294
abbrev pub is_booked_out : Cluster → Bool
is_booked_out c = nat_le limit.advance_reservations (length c.advances) || nat_lt limit.last_number c.next_advance

abbrev pub book_faults : Cluster → Event → Given → List Refusal
book_faults c e options =
    (request_of c options no_request).1 ++ time_faults e.moment (advance_asked c e options) ++ when (is_booked_out c) Limit

-- Your advance reservation N has been granted
abbrev pub granted_line : ℕ → List ℕ
granted_line number = codes "Your advance reservation " ++ decimal number ++ codes " has been granted"

-- without a placement no reservation is made
abbrev pub booked : Cluster → Event → Advance → Option (List Grant) → Planned
booked c e asked None = refused Limit
booked c e asked (Some grants) = changed e (Book (record asked { grants = grants })) (granted_line c.next_advance ∷ [])

unfoldable pub book_plan : Cluster → Event → Given → Planned
book_plan c e options =
    let asked = advance_asked c e options in unless_faulty (book_faults c e options) (booked c e asked (advance_grants c e.moment asked))

-- a reservation that is given up is there, its owner or an operator gives it up, and no live job joined it (qrdel)
abbrev pub unbook_faults_of : Cluster → Event → ℕ → Option Advance → List Refusal
unbook_faults_of c e number None = NoSuchObject ∷ []
unbook_faults_of c e number (Some booked) =
    when (not (text_eq booked.owner e.user) && not (is_operator c e.user)) NotPermitted ++ when (is_joined c.jobs number) InUse

abbrev pub unbook_faults : Cluster → Event → ℕ → List Refusal
unbook_faults c e number = unbook_faults_of c e number (at_number c.advances number)

-- each is named once, in first-seen order
abbrev pub unbooked : Event → List ℕ → Planned
unbooked e numbers = changed e (Unbook numbers) ((codes "removed " ++ decimal (length numbers)) ∷ [])

unfoldable pub unbook_plan : Cluster → Event → List ℕ → Planned
unbook_plan c e numbers = unless_faulty (flat_map (unbook_faults c e) numbers) (unbooked e (each_number_once numbers))

-- qrstat -ar asks for a reservation that is there
abbrev pub show_booked_of : Cluster → ℕ → Option ℕ → Planned
show_booked_of c now None = shown (booked_lines c None now)
show_booked_of c now (Some number) = if is_some (at_number c.advances number) then shown (booked_lines c (Some number) now) else refused NoSuchObject

unfoldable pub show_booked_plan : Cluster → Event → Option ℕ → Planned
show_booked_plan c e one = show_booked_of c e.moment one
