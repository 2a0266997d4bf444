-- The lines of qstat -j: what one job is.
use Rattle.std.specs.Prelude.{ℕ, ◌==◌, if◌then◌else◌, bit_and, List, [], ◌∷◌, ◌++◌, map, Option, Some, None, codes, decimal}
use Rattle.std.specs.Fmt.{signed_decimal}
use Rattle.ge_collections.specs.Keyed.{at_number}
use Rattle.ge_model_rows.specs.ClusterRows.{Cluster}
use Rattle.ge_model_rows.specs.JobRows.{Job, PeRequest}
use Rattle.ge_model_rows.specs.Complexes.{pair_text}
use Rattle.ge_model_rows.specs.Pieces.{is_empty, list_text}
use Rattle.ge_model_rows.specs.SetText.{set_text}
use Rattle.ge_model_jobs.specs.Holds.{live_tasks}

-- a text, or NONE where it is empty
abbrev pub or_none : List ℕ → List ℕ
or_none text = if is_empty text then codes "NONE" else text

-- the letters of the holds that stand, or a dash (qhold)
abbrev pub hold_letter : ℕ → ℕ → List ℕ → List ℕ
hold_letter hold bit letter = if bit_and hold bit == 0 then [] else letter

abbrev pub hold_text : ℕ → List ℕ
hold_text hold =
    let letters = hold_letter hold 1 (codes "u") ++ hold_letter hold 2 (codes "o") ++ hold_letter hold 4 (codes "s") in
    if is_empty letters then codes "-" else letters

-- a parallel environment with the range of its slots
abbrev pub pe_text : Option PeRequest → List ℕ
pe_text None = []
pe_text (Some pe) = pe.name ++ codes " " ++ decimal pe.low ++ codes "-" ++ decimal pe.high

-- a name with its value behind a blank
abbrev pub field_line : List ℕ → List ℕ → List ℕ
field_line name value = name ++ codes " " ++ or_none value

-- the fields of a job
abbrev pub job_fields : Cluster → ℕ → Job → List (List ℕ)
job_fields c number job =
    field_line (codes "job_number") (decimal number)
    ∷ field_line (codes "job_name") job.name
    ∷ field_line (codes "owner") job.owner
    ∷ field_line (codes "group") job.group
    ∷ field_line (codes "account") job.account
    ∷ field_line (codes "submission_time") (decimal job.submitted)
    ∷ field_line (codes "priority") (signed_decimal job.priority)
    ∷ field_line (codes "project") job.project
    ∷ field_line (codes "hold") (hold_text job.hold)
    ∷ field_line (codes "hard_resource_list") (list_text (map (pair_text c) job.request.asked))
    ∷ field_line (codes "parallel_environment") (pe_text job.request.pe)
    ∷ field_line (codes "predecessors") (list_text (map decimal job.after))
    ∷ field_line (codes "array_predecessors") (list_text (map decimal job.after_each))
    ∷ field_line (codes "tasks") (set_text (live_tasks job))
    ∷ []

-- the fields of the job with a number; a job that isn't there has no lines
abbrev pub one_listing : Cluster → ℕ → List (List ℕ)
one_listing c number = elim (at_number c.jobs number) [ None ↦ [] | Some job ↦ job_fields c number job ]
