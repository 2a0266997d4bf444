-- Accepted and refused events.
use Rattle.std.specs.Prelude.{ℕ, false, List, [], ◌∷◌, Some, None, codes}
use Rattle.ge_base.specs.declared.refusal.Refusal.{Refusal}
use Rattle.ge_model_rows.specs.EntryRows.{Change}
use Rattle.ge_model_rows.specs.EventRows.{Event, Planned}
use Rattle.ge_model_core.specs.Refusals.{unless_refused}
use Rattle.ge_model_rows.specs.Faults.{first_fault}

-- an accepted event: what it changes, at its moment, and the lines of its reply
abbrev pub changed : Event → Change → List (List ℕ) → Planned
changed e change lines = record {
  entry = Some (record { moment = e.moment; change = change });
  reply = record { code = 0; lines = lines };
  stop = false;
}

-- an accepted query: it changes nothing
abbrev pub shown : List (List ℕ) → Planned
shown lines = record { entry = None; reply = record { code = 0; lines = lines }; stop = false }

-- the plan of an event where these refusals hold: the first of them answers, and without any it is accepted
abbrev pub unless_faulty : List Refusal → Planned → Planned
unless_faulty faults accepted = unless_refused (first_fault faults) accepted

-- the reply that says nothing more
abbrev pub done_lines : List (List ℕ)
done_lines = codes "done" ∷ []
