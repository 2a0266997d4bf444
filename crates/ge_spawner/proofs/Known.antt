-- What a spawner in memory answers is what it tells.
use Rattle.std.proofs.Common.{◌≡◌, ◌==◌, ℕ, List, [], ◌∷◌, Option, Some, map, if◌then◌else◌, refl, Bool, true, false, sym, ◌∙◌, append-nil}
use Rattle.ge_spawner.specs.declared.memory.Program.{Program}
use Rattle.ge_spawner.specs.Spawning.{Ended, MoreEnds, Polling, was_begun, end_in, vanished}
use Rattle.ge_spawner.specs.Memory.{begun, ended, exit_among}

-- one program more, where the others are known
one_more : (same : Bool) (here others ends : Option ℕ) (began : Bool) → others ≡ (if began then ends else Some vanished)
    → (if same then here else others) ≡ (if (if same then true else began) then (if same then here else ends) else Some vanished)
one_more true here others ends began known = refl
one_more false here others ends began known = known

pub exit_known : (programs : List Program) (id : ℕ) → exit_among programs id ≡ (if was_begun (map begun programs) id then end_in (map ended programs) id else Some vanished)
exit_known [] id = refl
exit_known (p ∷ programs) id = one_more (p.id == id) (Some p.exit) (exit_among programs id) (end_in (map ended programs) id) (was_begun (map begun programs) id) (exit_known programs id)

-- ends that stay are no more than before
same_ends : (ends : List Ended) → MoreEnds ends ends
same_ends ends = record { later = []; joined = sym (append-nil ends) }

-- what is asked of programs in memory
pub asked : (programs : List Program) (kills : List ℕ) (id : ℕ) (exit : Option ℕ) → exit ≡ exit_among programs id
    → Polling (record { starts = map begun programs; kills = kills; ends = map ended programs })
    (record { starts = map begun programs; kills = kills; ends = map ended programs }) id exit
asked programs kills id exit is = record { starts = refl; kills = refl; ends = same_ends (map ended programs); known = is ∙ exit_known programs id }
