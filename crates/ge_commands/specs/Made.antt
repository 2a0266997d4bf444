-- The commands that are made alike, by their verbs.
use Rattle.std.specs.Prelude.{ℕ, List, ◌++◌, Option, Some, None}
use Rattle.ge_model_rows.specs.CommandRows.{Command}
use Rattle.ge_model_rows.specs.EntryRows.{ObjectKind, Key}
use Rattle.ge_model_grammar.specs.Options.{Given}
use Rattle.ge_model_grammar.specs.Configuring.{add_name}
use Rattle.ge_commands.specs.declared.targets.HoldVerb.{HoldVerb}
use Rattle.ge_commands.specs.declared.targets.HoldVerb.TheVariants as holding
use Rattle.ge_commands.specs.declared.configuring.BodyVerb.{BodyVerb}
use Rattle.ge_commands.specs.declared.configuring.BodyVerb.TheVariants as body
use Rattle.ge_commands.specs.declared.configuring.NameVerb.{NameVerb}
use Rattle.ge_commands.specs.declared.configuring.NameVerb.TheVariants as naming

-- qhold or qrls
abbrev pub hold_made : HoldVerb → ℕ → List ℕ → Command
hold_made holding.Hold bits jobs = Command.Hold bits jobs
hold_made holding.Release bits jobs = Command.Release bits jobs

-- qconf -A or -M
abbrev pub body_made : BodyVerb → ObjectKind → List ℕ → Command
body_made body.Add kind text = Command.Add kind text
body_made body.Modify kind text = Command.Modify kind text

-- qconf -a, -d or -s
abbrev pub name_made : NameVerb → Key → Command
name_made naming.Add key = add_name key
name_made naming.Remove key = Command.Remove key
name_made naming.Print key = Command.Print key

-- options added to others, if there are such
abbrev pub added_to : Given → Option Given → Option Given
added_to given None = None
added_to given (Some more) = Some (given ++ more)
