-- Candidates and priorities that are alike: of those that follow each other and differ in their numbers alone, one stands whole.
use Rattle.std.specs.Prelude.{ℕ, List, ◌∷◌, ◌++◌, map, flat_map, Option}
use Rattle.std.specs.Option.{option_map, option_to_list}
use Rattle.ge_model_order.specs.Amounts.{cut_at_64}
use Rattle.ge_model_rows.specs.ScheduleRows.{Prio}
use Rattle.ge_order.specs.declared.alike.Alike.{Alike}
use Rattle.ge_order.specs.declared.alike.Open.{Open}
use Rattle.ge_order.specs.declared.gathering.Candidate.{Candidate}
use Rattle.ge_order.specs.declared.lots.Lot.{Lot}
use Rattle.ge_order.specs.declared.repeating.Urged.{Urged}

-- a candidate, by its number and what it stands on
abbrev pub candidate_by : ℕ → Urged → Candidate
candidate_by number urged = record { job = number; priority = urged.priority; tickets = cut_at_64 urged.oticket; urgency = urged.urgency }

-- a candidate of another number
abbrev pub candidate_at : Candidate → ℕ → Candidate
candidate_at first number = record { job = number; priority = first.priority; tickets = first.tickets; urgency = first.urgency }

-- a candidate and those like it
abbrev pub candidates_of : Alike → List Candidate
candidates_of lot = lot.first ∷ map (candidate_at lot.first) lot.others.items

abbrev pub candidates_in : List Alike → List Candidate
candidates_in lots = flat_map candidates_of lots

-- candidates that may become more, as others that are alike
abbrev pub alike_of : Open → Alike
alike_of lot = record { first = candidate_by lot.first lot.urged; others = lot.others }

abbrev pub opened_in : Option Open → List Candidate
opened_in last = candidates_in (map alike_of (option_to_list last))

-- what those stand on that may become more
abbrev pub urged_in : Option Open → Option Urged
urged_in last = option_map (λ lot. lot.urged) last

-- those of some lots, and of one behind them, which may become more
abbrev pub gathered_in : List Alike → Option Open → List Candidate
gathered_in lots last = candidates_in lots ++ opened_in last

-- the same priority of another job
abbrev pub prio_at : Prio → ℕ → Prio
prio_at first number = record { job = number; np = first.np; nu = first.nu; nt = first.nt; total = first.total }

-- the priorities of jobs that are alike
abbrev pub prios_of_lot : Lot → List Prio
prios_of_lot lot = lot.first ∷ map (prio_at lot.first) lot.others.items

abbrev pub prios_in : List Lot → List Prio
prios_in lots = flat_map prios_of_lot lots
