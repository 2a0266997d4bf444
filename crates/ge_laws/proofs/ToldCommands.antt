-- No plan is want of memory: the refusals of requests, of jobs and of all commands.
use Rattle.std.proofs.Common.{ℕ, ◌==◌, ◌||◌, not, Bool, true, false, List, [], ◌∷◌, ◌++◌, flat_map, fold, length, Option, Some, None, is_none}
use Rattle.std.specs.Prelude.{nat_lt, nat_le, codes}
use Rattle.ge_base.specs.declared.refusal.Refusal.{Refusal}
use Rattle.ge_base.specs.declared.refusal.Refusal.TheVariants.{NoSuchObject, Exists, BadValue}
use Rattle.ge_collections.specs.Keyed.{at_number, at_text}
use Rattle.ge_model_rows.specs.ClusterRows.{Cluster}
use Rattle.ge_model_rows.specs.EntryRows.{ObjectKind, Pick}
use Rattle.ge_model_rows.specs.EventRows.{Event}
use Rattle.ge_model_rows.specs.JobRows.{Job, Request, Advance}
use Rattle.ge_model_rows.specs.PeopleRows.{ProjectRow}
use Rattle.ge_model_rows.specs.ValueRows.{ComplexDef}
use Rattle.ge_model_rows.specs.Pieces.{pieces_at, before_byte}
use Rattle.ge_model_rows.specs.Faults.{when}
use Rattle.ge_model_config.specs.Cited.{Read, has_name}
use Rattle.ge_model_config.specs.Requests.{asked_text, asked_item, asked_read, with_asked, all_asked, range_read, pe_read, in_place, request_of, queues_of}
use Rattle.ge_model_rows.specs.Complexes.{complex_named}
use Rattle.ge_model_grammar.specs.Options.{Given, option_words, has_option, slot_range_of}
use Rattle.ge_model_core.specs.Altering.{alter_faults_of}
use Rattle.ge_model_core.specs.Booking.{book_faults, unbook_faults_of}
use Rattle.ge_model_core.specs.Configuring.{enlist_faults, delist_faults, object_faults, remove_faults}
use Rattle.ge_model_core.specs.Holding.{job_hold_faults, hold_plan_faults}
use Rattle.ge_model_core.specs.JobAdvances.{advance_named, advance_faults, joined_faults, join_faults, stay_faults}
use Rattle.ge_model_core.specs.HoldLists.{hold_faults}
use Rattle.ge_model_core.specs.JobOptions.{Owned, faults_in, priority_faults, width_faults, moment_faults, deadline_faults, admission_faults, project_faults, override_faults, array_hold_faults, option_faults}
use Rattle.ge_model_core.specs.Reports.{report_faults, serial_faults}
use Rattle.ge_model_core.specs.Targets.{target_faults_of}
use Rattle.ge_laws.proofs.ToldFaults.{AreTold, both, none, bad, absent, there, over, forbidden, used, round, stale, unasked, one, either, each, folded}

-- ---- requests

asked_told : (text : List ℕ) (complex : Option (List ℕ × ComplexDef)) → AreTold (asked_item text complex).1
asked_told text None = one NoSuchObject tt
asked_told text (Some complex) = search (both, bad, absent, there, over, forbidden, used, round, stale, unasked, none)

all_asked_told : (c : Cluster) (words : List (List ℕ)) → AreTold (all_asked c words).1
all_asked_told c words =
    both (fold (with_asked c) ([], []) (flat_map (pieces_at 44) words)).1 _
    (folded (with_asked c) (λ so_far item told. both so_far.1 (asked_read c item).1 told (asked_told (asked_text item) (complex_named c (before_byte 61 item)))) (flat_map (pieces_at 44) words) ([], []) none)
    (over (nat_lt 64 (length (fold (with_asked c) ([], []) (flat_map (pieces_at 44) words)).0)))

range_told : (name : List ℕ) (range : Option (ℕ × ℕ)) → AreTold (range_read name range).1
range_told name None = one BadValue tt
range_told name (Some range) = bad _

pe_told : (c : Cluster) (words : List (List ℕ)) → AreTold (pe_read c words).1
pe_told c (name ∷ range ∷ more) = both (when (not (has_name c.pes name)) NoSuchObject) (range_read name (slot_range_of range)).1 (absent _) (range_told name (slot_range_of range))
pe_told c _ = none

placed_told : {T : Type 0} (options : Given) (name : List ℕ) (older : T) (read : List (List ℕ) → Read T) → ((words : List (List ℕ)) → AreTold (read words).1) → AreTold (in_place options name older read).1
placed_told {T} options name older read told = by (option_words options name)
  where
    by : (words : Option (List (List ℕ))) → AreTold (elim words as (λ o. Read T) [ None ↦ (older, []) | Some words ↦ read words ]).1
    by None = none
    by (Some words) = told words

request_told : (c : Cluster) (options : Given) (older : Request) → AreTold (request_of c options older).1
unfolding request_of
request_told c options older =
    both ((in_place options (codes "-l") older.asked (all_asked c)).1 ++ (in_place options (codes "-q") older.queues (λ words. (queues_of words, []))).1) (in_place options (codes "-pe") older.pe (pe_read c)).1
    (both (in_place options (codes "-l") older.asked (all_asked c)).1 (in_place options (codes "-q") older.queues (λ words. (queues_of words, []))).1
    (placed_told options (codes "-l") older.asked (all_asked c) (all_asked_told c)) (placed_told options (codes "-q") older.queues (λ words. (queues_of words, [])) (λ words. none)))
    (placed_told options (codes "-pe") older.pe (pe_read c) (pe_told c))

-- ---- jobs

given_told : {X : Type 0} (faults : X → List Refusal) → ((x : X) → AreTold (faults x)) → (given : Option X) → AreTold (faults_in given faults)
given_told faults told None = none
given_told faults told (Some x) = told x

admission_told : (c : Cluster) (job : Owned) (project : Option ProjectRow) → AreTold (admission_faults c job project)
admission_told c job None = one NoSuchObject tt
admission_told c job (Some project) = forbidden _

module _ (c : Cluster) (e : Event) where
  priorities : (given : Option (List ℕ)) → AreTold (faults_in given (priority_faults c e))
  priorities given = given_told (priority_faults c e) (λ word. search (both, bad, absent, there, over, forbidden, used, round, stale, unasked, none)) given

  widths : (given : Option ℕ) → AreTold (faults_in given width_faults)
  widths given = given_told width_faults (λ n. bad _) given

  projects : (job : Owned) (given : Option (List ℕ)) → AreTold (faults_in given (project_faults c job))
  projects job given = given_told (project_faults c job) (λ name. admission_told c job (at_text c.projects name)) given

  moments : (given : Option ℕ) → AreTold (faults_in given moment_faults)
  moments given = given_told moment_faults (λ n. bad _) given

  deadlines : (given : Option ℕ) → AreTold (faults_in given deadline_faults)
  deadlines given = given_told deadline_faults (λ n. search (both, bad, absent, there, over, forbidden, used, round, stale, unasked, none)) given

  overrides : (given : Option ℕ) → AreTold (faults_in given (override_faults c e))
  overrides given = given_told (override_faults c e) (λ n. search (both, bad, absent, there, over, forbidden, used, round, stale, unasked, none)) given

  holds : (given : Option (List ℕ)) → AreTold (faults_in given (hold_faults c))
  holds given = given_told (hold_faults c) (λ word. absent _) given

  array_holds : (job : Owned) (given : Option (List ℕ)) → AreTold (faults_in given (array_hold_faults c job))
  array_holds job given = given_told (array_hold_faults c job) (λ word. search (both, bad, absent, there, over, forbidden, used, round, stale, unasked, none)) given

  pub option_told : (options : Given) (job : Owned) → AreTold (option_faults c e options job)
  option_told options job = search (both, request_told, priorities, widths, projects, moments, deadlines, overrides, holds, array_holds) depth 20 fits 20000

  joined_told : (options : Given) (booked : Option Advance) → AreTold (joined_faults c e options booked)
  joined_told options None = one NoSuchObject tt
  joined_told options (Some booked) = search (both, bad, absent, there, over, forbidden, used, round, stale, unasked, none)

  pub join_told : (options : Given) → AreTold (join_faults c e options)
  join_told options = either (has_option options (codes "-ar")) (joined_faults c e options (at_number c.advances (advance_named options))) [] (joined_told options (at_number c.advances (advance_named options))) none

  stay_told : (options : Given) (advance : ℕ) → AreTold (stay_faults c options advance)
  stay_told options advance = either (advance == 0) [] (advance_faults c options (at_number c.advances advance)) none (bad _)

  pub alter_told : (options : Given) (job : Option Job) → AreTold (alter_faults_of c e options job)
  alter_told options None = one NoSuchObject tt
  alter_told options (Some job) = search (both, bad, absent, there, over, forbidden, used, round, stale, unasked, none, option_told, stay_told) depth 12

  pub target_told : (pick : Pick) (job : Option Job) → AreTold (target_faults_of c e pick job)
  target_told pick None = one NoSuchObject tt
  target_told pick (Some job) = search (both, bad, absent, there, over, forbidden, used, round, stale, unasked, none)

  job_hold_told : (bits : ℕ) (job : Option Job) → AreTold (job_hold_faults c e bits job)
  job_hold_told bits None = one NoSuchObject tt
  job_hold_told bits (Some job) = forbidden _

  holds_told : (bits : ℕ) (numbers : List ℕ) → AreTold (flat_map (λ number. job_hold_faults c e bits (at_number c.jobs number)) numbers)
  holds_told bits numbers = each (λ number. job_hold_faults c e bits (at_number c.jobs number)) (λ number. job_hold_told bits (at_number c.jobs number)) numbers

  pub hold_told : (bits : ℕ) (numbers : List ℕ) → AreTold (hold_plan_faults c e bits numbers)
  hold_told bits numbers = search (both, bad, absent, there, over, forbidden, used, round, stale, unasked, none, holds_told) depth 8

  pub report_told : (pair : List ℕ × List ℕ) → AreTold (report_faults c pair)
  report_told pair = either (is_none _) (NoSuchObject ∷ []) _ (one NoSuchObject tt) (bad _)

  pub serial_told : (serial : ℕ) → AreTold (serial_faults c serial)
  serial_told serial = either (serial == 0 || nat_le c.next_serial serial) (NoSuchObject ∷ []) _ (one NoSuchObject tt) (stale _)

  pub enlist_told : (names : List (List ℕ)) (name : List ℕ) → AreTold (enlist_faults names name)
  enlist_told names name = either _ (Exists ∷ []) _ (one Exists tt) (over _)

  delist_told : (needed : Bool) (names : List (List ℕ)) (name : List ℕ) → AreTold (delist_faults needed names name)
  delist_told needed names name = either _ _ (NoSuchObject ∷ []) (used _) (one NoSuchObject tt)

  object_told : (sort : ObjectKind) (name : List ℕ) → AreTold (object_faults c sort name)
  object_told sort name = either _ _ (NoSuchObject ∷ []) (used _) (one NoSuchObject tt)

  pub remove_told : (sort : ObjectKind) (name : List ℕ) → AreTold (remove_faults c sort name)
  remove_told ObjectKind.Managers name = delist_told true c.managers name
  remove_told ObjectKind.Operators name = delist_told false c.operators name
  remove_told ObjectKind.Shares name = none
  remove_told sort name = object_told sort name

  pub book_told : (options : Given) → AreTold (book_faults c e options)
  book_told options = search (both, bad, absent, there, over, forbidden, used, round, stale, unasked, none, request_told) depth 8

  pub unbook_told : (number : ℕ) (booked : Option Advance) → AreTold (unbook_faults_of c e number booked)
  unbook_told number None = one NoSuchObject tt
  unbook_told number (Some booked) = search (both, bad, absent, there, over, forbidden, used, round, stale, unasked, none)
