-- The removal of an object by its name.
use Rattle.std.proofs.Common.{◌≡◌, ℕ, ◌≤◌, length, List, [], ◌∷◌, subst, arith, Bor}
use Rattle.std.specs.Prelude.{Option, Result}
use Rattle.ge_rows.specs.Keyed.{at_text}
use Rattle.ge_model_rows.specs.CommandRows.{Command}
use Rattle.ge_model_rows.specs.EntryRows.{ObjectKind}
use Rattle.ge_model_grammar.specs.Configuring.{removed_kinds, with_name, removal}
use Rattle.ge_pieces.specs.declared.reading.ReadFault.{ReadFault}
use Rattle.ge_pieces.specs.Gives.{Gives}
use Rattle.ge_commands.specs.Lent.{texts}
use Rattle.ge_commands.specs.declared.configuring.NameVerb.TheVariants as naming
use Rattle.ge_commands.specs.Made.{name_made}

pub removes_named : (word : List ℕ) (words : List (Bor (List ℕ))) (kind : Option ObjectKind) (result : Result Command ReadFault) → 1 ≤ length words → kind ≡ at_text removed_kinds word
    → Gives result (with_name (name_made naming.Remove) kind (texts words)) → Gives result (removal word (texts words))
removes_named word [] kind result some is given = absurd (omega (arith, some))
removes_named word (w ∷ words) kind result some is given = subst (λ (k : Option ObjectKind). Gives result (with_name Command.Remove k (w.now ∷ texts words))) is given
