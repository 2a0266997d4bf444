-- What the plan of an event brings, where refusals answer and where none does.
use Rattle.std.proofs.Common.{◌≡◌, ℕ, ◌≤◌, Bool, true, false, if◌then◌else◌, List, [], Option, Some, None, refl}
use Rattle.std.specs.Prelude.{IfSome}
use Rattle.ge_base.specs.declared.refusal.Refusal.{Refusal}
use Rattle.ge_model_rows.specs.ClusterRows.{Cluster}
use Rattle.ge_model_rows.specs.EntryRows.{Change}
use Rattle.ge_model_rows.specs.EventRows.{Event, Planned}
use Rattle.ge_model_rows.specs.Faults.{when, first_fault}
use Rattle.ge_model_core.specs.Refusals.{refused, unless_refused}
use Rattle.ge_model_core.proofs.NamedPlans.{none_holds}
use Rattle.ge_model_core.specs.Answers.{changed, shown, unless_faulty}
use Rattle.ge_soundness.proofs.Brought.{Fits}

-- the entry of a plan, if it has one, isn't before the last one, and its change fits
unfoldable pub EntryFits : Cluster → Planned → Type 0
EntryFits c planned = IfSome planned.entry (λ entry. (c.last ≤ entry.moment) × Fits c entry.moment entry.change)

-- a condition whose refusal doesn't hold isn't met
pub unmet : (condition : Bool) (refusal : Refusal) → when condition refusal ≡ [] → condition ≡ false
unmet true refusal none = cc
unmet false refusal none = refl

-- ---- plans that may be refused

-- a plan that is refused, and one that only shows, change nothing
pub entry_refused : (c : Cluster) (refusal : Refusal) → EntryFits c (refused refusal)
unfolding EntryFits
entry_refused c refusal = tt

pub entry_shown : (c : Cluster) (lines : List (List ℕ)) → EntryFits c (shown lines)
unfolding EntryFits
entry_shown c lines = tt

-- a plan that is accepted where no refusal holds
pub entry_unless : (c : Cluster) (faults : List Refusal) (accepted : Planned) → (faults ≡ [] → EntryFits c accepted) → EntryFits c (unless_faulty faults accepted)
entry_unless c faults accepted fits = by (first_fault faults) (λ none. fits (none_holds faults none))
  where
    by : (first : Option Refusal) → (first ≡ None → EntryFits c accepted) → EntryFits c (unless_refused first accepted)
    by None fits = fits refl
    by (Some refusal) fits = entry_refused c refusal

-- a change at an event's moment, where no refusal holds
pub entry_change : (c : Cluster) (e : Event) (faults : List Refusal) (change : Change) (lines : List (List ℕ)) → c.last ≤ e.moment → (faults ≡ [] → Fits c e.moment change)
    → EntryFits c (unless_faulty faults (changed e change lines))
unfolding EntryFits
entry_change c e faults change lines later fits = entry_unless c faults (changed e change lines) (λ none. (later, fits none))

-- a plan that is refused where a test holds
pub entry_if : (c : Cluster) (test : Bool) (refusal : Refusal) (accepted : Planned) → (test ≡ false → EntryFits c accepted) → EntryFits c (if test then refused refusal else accepted)
entry_if c true refusal accepted fits = entry_refused c refusal
entry_if c false refusal accepted fits = fits refl

-- one that is refused where it doesn't
pub entry_where : (c : Cluster) (test : Bool) (accepted : Planned) (refusal : Refusal) → EntryFits c accepted → EntryFits c (if test then accepted else refused refusal)
entry_where c true accepted refusal fits = fits
entry_where c false accepted refusal fits = entry_refused c refusal
