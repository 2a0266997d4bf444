-- Worked rows of qconf, each by computation.
use Rattle.std.specs.Prelude.{◌≡◌, refl, [], Some, None, codes}
use Rattle.ge_model_rows.specs.CommandRows.{Command}
use Rattle.ge_model_rows.specs.EntryRows.{ObjectKind}
use Rattle.ge_model_grammar.specs.Commands.{command_of, grammar_of_commands}

queue_added : command_of (codes "qconf -Aq 'my file'\nqname a") ≡ Some (Command.Add ObjectKind.Queue (codes "qname a"))
unfolding grammar_of_commands
queue_added = refl

queue_without_value : command_of (codes "qconf -Mq\nqname a\nslots") ≡ None
unfolding grammar_of_commands
queue_without_value = refl

second_file : command_of (codes "qconf -Aq f g\nqname a") ≡ None
unfolding grammar_of_commands
second_file = refl

complexes_added : command_of (codes "qconf -Ac\na a INT <= y n 0 0") ≡ Some (Command.Add ObjectKind.Complexes (codes "a a INT <= y n 0 0"))
unfolding grammar_of_commands
complexes_added = refl

tree_replaced : command_of (codes "qconf -Mstree\nid=0\nname=r\ntype=0\nshares=1\nchildnodes=NONE")
    ≡ Some (Command.Modify ObjectKind.Shares (codes "id=0\nname=r\ntype=0\nshares=1\nchildnodes=NONE"))
unfolding grammar_of_commands
tree_replaced = refl

tree_without_nodes : command_of (codes "qconf -Astree") ≡ Some (Command.Add ObjectKind.Shares [])
unfolding grammar_of_commands
tree_without_nodes = refl

settings_replaced : command_of (codes "qconf -Msconf f") ≡ Some (Command.Modify ObjectKind.Sched [])
unfolding grammar_of_commands
settings_replaced = refl

settings_added : command_of (codes "qconf -Asconf") ≡ None
unfolding grammar_of_commands
settings_added = refl

managers_by_a_body : command_of (codes "qconf -Am root") ≡ None
unfolding grammar_of_commands
managers_by_a_body = refl

set_removed : command_of (codes "qconf -dul s") ≡ Some (Command.Remove (record { kind = ObjectKind.Set; name = codes "s" }))
unfolding grammar_of_commands
set_removed = refl

set_removed_by_its_other_word : command_of (codes "qconf -du s") ≡ None
unfolding grammar_of_commands
set_removed_by_its_other_word = refl

group_removed : command_of (codes "qconf -dhgrp @g") ≡ Some (Command.Remove (record { kind = ObjectKind.Group; name = codes "@g" }))
unfolding grammar_of_commands
group_removed = refl

group_without_at : command_of (codes "qconf -dhgrp g") ≡ None
unfolding grammar_of_commands
group_without_at = refl

queue_with_at : command_of (codes "qconf -dq @g") ≡ None
unfolding grammar_of_commands
queue_with_at = refl

tree_removed : command_of (codes "qconf -dstree") ≡ Some (Command.Remove (record { kind = ObjectKind.Shares; name = [] }))
unfolding grammar_of_commands
tree_removed = refl

name_missing : command_of (codes "qconf -dq") ≡ None
unfolding grammar_of_commands
name_missing = refl

name_twice : command_of (codes "qconf -dq a b") ≡ None
unfolding grammar_of_commands
name_twice = refl

manager_removed : command_of (codes "qconf -dm root") ≡ Some (Command.Remove (record { kind = ObjectKind.Managers; name = codes "root" }))
unfolding grammar_of_commands
manager_removed = refl

operator_added : command_of (codes "qconf -ao ann") ≡ Some (Command.Add ObjectKind.Operators (codes "ann"))
unfolding grammar_of_commands
operator_added = refl

set_printed : command_of (codes "qconf -su s") ≡ Some (Command.Print (record { kind = ObjectKind.Set; name = codes "s" }))
unfolding grammar_of_commands
set_printed = refl

tree_printed : command_of (codes "qconf -sstree") ≡ Some (Command.Print (record { kind = ObjectKind.Shares; name = [] }))
unfolding grammar_of_commands
tree_printed = refl

settings_printed : command_of (codes "qconf -ssconf") ≡ Some (Command.Print (record { kind = ObjectKind.Sched; name = [] }))
unfolding grammar_of_commands
settings_printed = refl

managers_printed : command_of (codes "qconf -sm") ≡ Some (Command.Print (record { kind = ObjectKind.Managers; name = [] }))
unfolding grammar_of_commands
managers_printed = refl

name_of_the_one : command_of (codes "qconf -sm x") ≡ None
unfolding grammar_of_commands
name_of_the_one = refl

stopped : command_of (codes "qconf -km\n") ≡ Some (Command.Stop)
unfolding grammar_of_commands
stopped = refl

two_empty_lines : command_of (codes "qconf -km\n\n") ≡ None
unfolding grammar_of_commands
two_empty_lines = refl

no_option : command_of (codes "qconf") ≡ None
unfolding grammar_of_commands
no_option = refl

other_option : command_of (codes "qconf -x a") ≡ None
unfolding grammar_of_commands
other_option = refl
