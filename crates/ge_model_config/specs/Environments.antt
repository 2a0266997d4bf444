-- Parallel environments read from a body and printed (sge_pe).
use Rattle.std.specs.Prelude.{ℕ, Bool, if◌then◌else◌, List, [], ◌∷◌, ◌++◌, codes, decimal}
use Rattle.ge_collections.specs.Keyed.{text_eq}
use Rattle.ge_limits.specs.Limits as limit
use Rattle.ge_model_rows.specs.ClusterRows.{Cluster}
use Rattle.ge_model_rows.specs.EntryRows.{Item, ObjectKind}
use Rattle.ge_model_rows.specs.PeRows.{PeRow, Allocation, UrgencySlots}
use Rattle.ge_model_rows.specs.ValueRows.{Kind, infinity}
use Rattle.ge_model_rows.specs.Pieces.{list_text}
use Rattle.ge_model_config.specs.Cited.{Read, given, none_text, number_read, names_read, has_name, printed_attribute}
use Rattle.ge_model_config.specs.Named.{name_faults}

-- a number of slots from 1 to 1,000,000
abbrev pub slots_read : List ℕ → Read ℕ
slots_read text = number_read Kind.Int 1 limit.slots text

-- how slots are spread over hosts (sge_pe, allocation_rule)
abbrev pub allocation_read : List ℕ → Read Allocation
allocation_read text =
    if text_eq text (codes "$pe_slots") then (Allocation.PeSlots, [])
    else (if text_eq text (codes "$fill_up") then (Allocation.FillUp, [])
    else (if text_eq text (codes "$round_robin") then (Allocation.RoundRobin, [])
    else (Allocation.Fixed (slots_read text).0, (slots_read text).1)))

-- how many slots urgency assumes of a range (sge_pe, urgency_slots)
abbrev pub assumed_read : List ℕ → Read UrgencySlots
assumed_read text =
    if text_eq text (codes "min") then (UrgencySlots.Min, [])
    else (if text_eq text (codes "max") then (UrgencySlots.Max, [])
    else (if text_eq text (codes "avg") then (UrgencySlots.Avg, [])
    else (UrgencySlots.Fixed (slots_read text).0, (slots_read text).1)))

-- a parallel environment (sge_pe)
unfoldable pub pe_item : Cluster → Bool → List (List ℕ × List ℕ) → Read Item
pe_item c adding values =
    let name = given values (codes "pe_name") [] in
    let slots = number_read Kind.Int 0 infinity (given values (codes "slots") (codes "0")) in
    let users = names_read (has_name c.sets) (given values (codes "user_lists") none_text) in
    let xusers = names_read (has_name c.sets) (given values (codes "xuser_lists") none_text) in
    let rule = allocation_read (given values (codes "allocation_rule") (codes "$pe_slots")) in
    let urgency = assumed_read (given values (codes "urgency_slots") (codes "min")) in (
      Item.Pe name (record { slots = slots.0; users = users.0; xusers = xusers.0; rule = rule.0; urgency_slots = urgency.0 }),
      name_faults ObjectKind.Pe limit.parallel_environments c.pes adding name ++ slots.1 ++ users.1 ++ xusers.1 ++ rule.1 ++ urgency.1,
    )

-- sge_pe, allocation_rule
abbrev pub allocation_text : Allocation → List ℕ
allocation_text (Allocation.Fixed n) = decimal n
allocation_text Allocation.PeSlots = codes "$pe_slots"
allocation_text Allocation.FillUp = codes "$fill_up"
allocation_text Allocation.RoundRobin = codes "$round_robin"

-- sge_pe, urgency_slots
abbrev pub assumed_text : UrgencySlots → List ℕ
assumed_text (UrgencySlots.Fixed n) = decimal n
assumed_text UrgencySlots.Min = codes "min"
assumed_text UrgencySlots.Max = codes "max"
assumed_text UrgencySlots.Avg = codes "avg"

-- sge_pe
abbrev pub pe_lines : List ℕ → PeRow → List (List ℕ)
pe_lines name pe =
    printed_attribute (codes "pe_name") name
    ∷ printed_attribute (codes "slots") (decimal pe.slots)
    ∷ printed_attribute (codes "user_lists") (list_text pe.users)
    ∷ printed_attribute (codes "xuser_lists") (list_text pe.xusers)
    ∷ printed_attribute (codes "allocation_rule") (allocation_text pe.rule)
    ∷ printed_attribute (codes "urgency_slots") (assumed_text pe.urgency_slots)
    ∷ []
