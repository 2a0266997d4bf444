-- Jobs in advance reservations: qsub -ar, and what such a job can't ask for (qsub, qalter).
use Rattle.std.specs.Prelude.{ℕ, Bool, false, ◌==◌, ◌||◌, not, if◌then◌else◌, List, [], ◌∷◌, ◌++◌, Option, Some, None, option_map, option_and_then, unwrap_or, codes}
use Rattle.std.specs.List.{list_any}
use Rattle.ge_base.specs.declared.refusal.Refusal.{Refusal}
use Rattle.ge_base.specs.declared.refusal.Refusal.TheVariants.{NoSuchObject, NotPermitted, BadValue}
use Rattle.ge_collections.specs.Keyed.{text_eq, at_number}
use Rattle.ge_model_rows.specs.ClusterRows.{Cluster}
use Rattle.ge_model_rows.specs.EventRows.{Event}
use Rattle.ge_model_rows.specs.JobRows.{Request, Advance}
use Rattle.ge_model_rows.specs.Complexes.{is_consumable}
use Rattle.ge_model_rows.specs.Faults.{when}
use Rattle.ge_model_grammar.specs.Options.{Given, has_option}
use Rattle.ge_model_grammar.specs.Targets.{job_number_of}
pub use Rattle.ge_model_config.specs.Requests.{no_request}
use Rattle.ge_model_config.specs.Requests.{request_of}
use Rattle.ge_model_config.specs.Used.{asks_pe}
use Rattle.ge_model_core.specs.OptionValues.{option_word, is_yes}

-- the number of the reservation that -ar names; 0 is none
abbrev pub advance_named : Given → ℕ
advance_named options = unwrap_or (option_and_then job_number_of (option_word options (codes "-ar"))) 0

-- whether a reservation is made for a parallel environment
abbrev pub is_booked_for : List ℕ → Option Advance → Bool
is_booked_for pe None = false
is_booked_for pe (Some booked) = asks_pe pe booked.request.pe

abbrev pub is_other_pe : Option Advance → Option (List ℕ) → Bool
is_other_pe booked None = false
is_other_pe booked (Some pe) = not (is_booked_for pe booked)

-- whether -l asks for a consumable
abbrev pub asks_consumable : Cluster → Given → Bool
asks_consumable c options = list_any (λ asked. is_consumable c asked.0) (request_of c options no_request).0.asked

abbrev pub gives_reservation : Given → Bool
gives_reservation options = unwrap_or (option_map is_yes (option_word options (codes "-R"))) false

-- a job in an advance reservation can't have -R y, -P, a parallel environment that isn't the reservation's, or a
-- consumable in -l. One whose reservation isn't there has no parallel environment to ask for
abbrev pub advance_faults : Cluster → Given → Option Advance → List Refusal
advance_faults c options booked =
    when (
    gives_reservation options
    || has_option options (codes "-P")
    || is_other_pe booked (option_word options (codes "-pe"))
    || asks_consumable c options
    ) BadValue

-- qsub -ar: the reservation is there, and the user is its owner
abbrev pub joined_faults : Cluster → Event → Given → Option Advance → List Refusal
joined_faults c e options None = NoSuchObject ∷ []
joined_faults c e options (Some booked) = when (not (text_eq booked.owner e.user)) NotPermitted ++ advance_faults c options (Some booked)

abbrev pub join_faults : Cluster → Event → Given → List Refusal
join_faults c e options =
    if has_option options (codes "-ar") then joined_faults c e options (at_number c.advances (advance_named options)) else []

-- qalter of a job in an advance reservation
abbrev pub stay_faults : Cluster → Given → ℕ → List Refusal
stay_faults c options advance = if advance == 0 then [] else advance_faults c options (at_number c.advances advance)
