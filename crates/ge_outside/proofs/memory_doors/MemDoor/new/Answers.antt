use Rattle.std.proofs.Common.{◌≡◌, Bool, true, List, [], ◌∷◌, reverse, refl, arith}
use Rattle.std.specs.List.{list_all}
use Rattle.std.proofs.lemmas.List.{reverse-append}
use Rattle.std.proofs.lemmas.List.Folds.{list_all-append}
use Rattle.std.proofs.lemmas.Grind.{common_steps}
use Rattle.ge_outside.specs.Memory.{is_unused}
use Rattle.ge_outside.proofs.memory_doors.MemDoor.new.Goals as goal

-- what holds of each item still does when the items are turned round
list_all-reverse : {X : Type 0} (p : X → Bool) (xs : List X) → list_all p xs ≡ true → list_all p (reverse xs) ≡ true
list_all-reverse p [] all = refl
list_all-reverse p (x ∷ xs) all =
    rw (reverse-append (x ∷ []) xs, list_all-append p (reverse xs) (x ∷ [])) (let rest = list_all-reverse p xs in grind (arith, common_steps, rest))

pub invariant_of-result : goal.invariant_of-result
invariant_of-result c = record { unused = rw c.turned.ensures (list_all-reverse is_unused c.args.links.items c.requires) }
