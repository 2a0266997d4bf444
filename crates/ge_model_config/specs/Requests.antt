-- The request of a job: -l, -q and -pe (qsub).
use Rattle.std.specs.Prelude.{ℕ, ◌-◌, ◌^◌, min, Bool, true, false, not, ◌||◌, ◌==◌, nat_lt, if◌then◌else◌, List, [], ◌∷◌, ◌++◌, length, flat_map, Option, Some, None, Result, is_none, codes, fold}
use Rattle.ge_collections.specs.Keyed.{text_eq}
use Rattle.ge_base.specs.declared.refusal.Refusal.{Refusal}
use Rattle.ge_base.specs.declared.refusal.Refusal.TheVariants.{NoSuchObject, BadValue, NotRequestable, Limit}
use Rattle.ge_limits.specs.Limits as limit
use Rattle.ge_model_rows.specs.ClusterRows.{Cluster}
use Rattle.ge_model_rows.specs.JobRows.{Request, PeRequest}
use Rattle.ge_model_rows.specs.ValueRows.{Value, Requestable, ComplexDef}
use Rattle.ge_model_rows.specs.Faults.{when}
use Rattle.ge_model_rows.specs.Pieces.{pieces_at, has_byte, before_byte, behind_byte}
use Rattle.ge_model_rows.specs.Values.{value_of}
use Rattle.ge_model_rows.specs.Complexes.{complex_named}
use Rattle.ge_model_grammar.specs.Options.{option_words, slot_range_of}
use Rattle.ge_model_config.specs.Cited.{Read, answered, has_name}
use Rattle.ge_model_config.specs.Pairs.{beside, with_value}

-- what an item of -l asks: a name alone asks TRUE
abbrev pub asked_text : List ℕ → List ℕ
asked_text text = if has_byte 61 text then behind_byte 61 text else codes "TRUE"

-- whether jobs may not ask for a complex
abbrev pub is_unrequestable : Requestable → Bool
is_unrequestable Requestable.No = true
is_unrequestable Requestable.Yes = false
is_unrequestable Requestable.Forced = false

-- an item of -l, whose complex was found: slots can't be asked this way
abbrev pub asked_item : List ℕ → Option (List ℕ × ComplexDef) → Read (Option (List ℕ × Value))
asked_item text None = (None, NoSuchObject ∷ [])
asked_item text (Some complex) =
    let value = value_of complex.1.kind text in
    (beside complex.0 value, when (text_eq complex.0 (codes "slots")) BadValue ++ when (is_none value) BadValue ++ when (is_unrequestable complex.1.requestable) NotRequestable)

-- an item of -l: name=value or name, by the name or the shortcut of a complex
abbrev pub asked_read : Cluster → List ℕ → Read (Option (List ℕ × Value))
asked_read c item = asked_item (asked_text item) (complex_named c (before_byte 61 item))

-- one more item of -l beside those that were read: of an attribute that is asked twice the last counts
abbrev pub with_asked : Cluster → Read (List (List ℕ × Value)) → List ℕ → Read (List (List ℕ × Value))
with_asked c asked item = with_value asked (asked_read c item)

-- all words of -l; so many different attributes may be asked
abbrev pub all_asked : Cluster → List (List ℕ) → Read (List (List ℕ × Value))
all_asked c words =
    let asked = fold (with_asked c) ([], []) (flat_map (pieces_at 44) words) in
    (asked.0, asked.1 ++ when (nat_lt limit.asked_attributes (length asked.0)) Limit)

-- a number of slots, cut at the end of its type
abbrev pub slots_cut : ℕ → ℕ
slots_cut n = min n (2 ^ 32 - 1)

-- a range of slots that is empty, begins at 0 or passes 1,000,000
abbrev pub is_bad_range : PeRequest → Bool
is_bad_range pe = pe.low == 0 || nat_lt pe.high pe.low || nat_lt limit.slots pe.high

-- the environment and the range of slots that a job asks for
abbrev pub range_read : List ℕ → Option (ℕ × ℕ) → Read (Option PeRequest)
range_read name None = (None, BadValue ∷ [])
range_read name (Some range) =
    let pe : PeRequest = record { name = name; low = slots_cut range.0; high = slots_cut range.1 } in
    (Some pe, when (is_bad_range pe) BadValue)

-- -pe: the name of a parallel environment, which has to be there, and a range of slots
abbrev pub pe_read : Cluster → List (List ℕ) → Read (Option PeRequest)
pe_read c (name ∷ range ∷ more) =
    let pe = range_read name (slot_range_of range) in
    (pe.0, when (not (has_name c.pes name)) NoSuchObject ++ pe.1)
pe_read c _ = (None, [])

-- -q: patterns joined by commas
abbrev pub queues_of : List (List ℕ) → List (List ℕ)
queues_of words = flat_map (pieces_at 44) words

module _ {T : Type 0} where
  -- what an option asks, or what was asked before where it isn't given
  abbrev pub in_place : List (List ℕ × List (List ℕ)) → List ℕ → T → (List (List ℕ) → Read T) → Read T
  in_place options name older read = elim (option_words options name) [ None ↦ (older, []) | Some words ↦ read words ]

-- what -l, -q and -pe ask for, in place of those parts of an older request, with the refusals whose conditions hold
unfoldable pub request_of : Cluster → List (List ℕ × List (List ℕ)) → Request → Request × List Refusal
request_of c options older =
    let asked = in_place options (codes "-l") older.asked (all_asked c) in
    let queues = in_place options (codes "-q") older.queues (λ words. (queues_of words, [])) in
    let pe = in_place options (codes "-pe") older.pe (pe_read c) in
    (record { asked = asked.0; queues = queues.0; pe = pe.0 }, asked.1 ++ queues.1 ++ pe.1)

-- the request of a job or a reservation that asks for nothing
abbrev pub no_request : Request
no_request = record { asked = []; queues = []; pe = None }

-- the request of a new job, or what refuses it (qsub)
unfoldable pub request_read : Cluster → List (List ℕ × List (List ℕ)) → Result Request Refusal
request_read c options = answered (request_of c options no_request)

-- the request of a job that asked for another one before, or what refuses it (qalter)
unfoldable pub request_changed : Cluster → List (List ℕ × List (List ℕ)) → Request → Result Request Refusal
request_changed c options older = answered (request_of c options older)
