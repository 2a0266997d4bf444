-- Worked rows of qsub, each by computation.
use Rattle.std.specs.Prelude.{◌≡◌, refl, [], ◌∷◌, ◌++◌, Some, None, codes}
use Rattle.ge_model_rows.specs.CommandRows.{Command}
use Rattle.ge_model_grammar.specs.Commands.{command_of, grammar_of_commands}

no_command : command_of (codes "qsub") ≡ Some (Command.Submit (record { items = [] }) [] [])
unfolding grammar_of_commands
no_command = refl

options_and_words : command_of (codes "qsub -N a -cwd x -y z")
    ≡ Some (Command.Submit (record { items = (codes "-N", codes "a" ∷ []) ∷ [] }) (codes "x" ∷ codes "-y" ∷ codes "z" ∷ []) [])
unfolding grammar_of_commands
options_and_words = refl

all_options : command_of (codes "qsub -A 1x -R yes -P p -dl 20 -a 10 -js 4 -p -100 -h -hold_jid_ad 4 -hold_jid 3,1,a* -t 1-10:3 -pe smp 4-8 -q a.q,b@h,c@@g -l k=1,m -N n x")
    ≡ Some (Command.Submit (record {
      items = (codes "-N", codes "n" ∷ []) ∷ (codes "-l", codes "k=1,m" ∷ []) ∷ (codes "-q", codes "a.q,b@h,c@@g" ∷ [])
          ∷ (codes "-pe", codes "smp" ∷ codes "4-8" ∷ []) ∷ (codes "-t", codes "1-10:3" ∷ []) ∷ (codes "-hold_jid", codes "3,1,a*" ∷ [])
          ∷ (codes "-hold_jid_ad", codes "4" ∷ []) ∷ (codes "-h", []) ∷ (codes "-p", codes "-100" ∷ []) ∷ (codes "-js", codes "4" ∷ [])
          ∷ (codes "-a", codes "10" ∷ []) ∷ (codes "-dl", codes "20" ∷ []) ∷ (codes "-P", codes "p" ∷ []) ∷ (codes "-R", codes "yes" ∷ [])
          ∷ (codes "-A", codes "1x" ∷ []) ∷ [];
    }) (codes "x" ∷ []) [])
unfolding grammar_of_commands
all_options = refl

without_effect : command_of (codes "qsub -cwd -V -hard -o -N -e '' -j y -S /bin/sh -b y -r n -m n -M x@y -v A=b -wd /tmp x")
    ≡ Some (Command.Submit (record { items = [] }) (codes "x" ∷ []) [])
unfolding grammar_of_commands
without_effect = refl

last_of_equal_options : command_of (codes "qsub -N a -p 1 -N b -q a -q b x")
    ≡ Some (Command.Submit (record {
      items = (codes "-N", codes "b" ∷ []) ∷ (codes "-q", codes "b" ∷ []) ∷ (codes "-p", codes "1" ∷ [])
          ∷ [];
    }) (codes "x" ∷ []) [])
unfolding grammar_of_commands
last_of_equal_options = refl

line_over_script : command_of (codes "qsub -N c -l k=2 -l m x\n#$ -N a -p 7\ndate\n#$-l h=1\n # $ -N /")
    ≡ Some (Command.Submit (record {
      items = (codes "-N", codes "c" ∷ []) ∷ (codes "-l", codes "h=1" ∷ codes "k=2" ∷ codes "m" ∷ [])
          ∷ (codes "-p", codes "7" ∷ []) ∷ [];
    }) (codes "x" ∷ []) (codes "#$ -N a -p 7\ndate\n#$-l h=1\n # $ -N /"))
unfolding grammar_of_commands
line_over_script = refl

last_of_the_script : command_of (codes "qsub x\n#$ -N a\n#$ -V\n#$ -N b -R y -h")
    ≡ Some (Command.Submit (record { items = (codes "-N", codes "b" ∷ []) ∷ (codes "-h", []) ∷ (codes "-R", codes "y" ∷ []) ∷ [] }) (codes "x"
    ∷ []) (codes "#$ -N a\n#$ -V\n#$ -N b -R y -h"))
unfolding grammar_of_commands
last_of_the_script = refl

script_with_any_bytes : command_of (codes "qsub x\nda" ++ (255 ∷ []) ++ codes "te\n\n#$")
    ≡ Some (Command.Submit (record { items = [] }) (codes "x" ∷ []) (codes "da" ++ (255 ∷ []) ++ codes "te\n\n#$"))
unfolding grammar_of_commands
script_with_any_bytes = refl

words_in_a_script_line : command_of (codes "qsub x\n#$ -N a y") ≡ None
unfolding grammar_of_commands
words_in_a_script_line = refl

script_line_with_control_byte : command_of (codes "qsub x\n#$ -N a" ++ (7 ∷ [])) ≡ None
unfolding grammar_of_commands
script_line_with_control_byte = refl

script_line_with_open_quote : command_of (codes "qsub x\n#$ -N 'a") ≡ None
unfolding grammar_of_commands
script_line_with_open_quote = refl

quoted_option : command_of (codes "qsub '-N' \"a\" 'b c' it's ''")
    ≡ Some (Command.Submit (record { items = (codes "-N", codes "a" ∷ []) ∷ [] }) (codes "b c" ∷ codes "it's" ∷ [] ∷ []) [])
unfolding grammar_of_commands
quoted_option = refl

open_quote : command_of (codes "qsub 'a") ≡ None
unfolding grammar_of_commands
open_quote = refl

word_behind_quote : command_of (codes "qsub 'a'b") ≡ None
unfolding grammar_of_commands
word_behind_quote = refl

control_byte : command_of (codes "qsub a" ++ (127 ∷ [])) ≡ None
unfolding grammar_of_commands
control_byte = refl

blanks_in_front : command_of (codes "  qsub" ++ (9 ∷ []) ++ codes "x ") ≡ Some (Command.Submit (record { items = [] }) (codes "x" ∷ []) [])
unfolding grammar_of_commands
blanks_in_front = refl

job_name_with_slash : command_of (codes "qsub -N a/b x") ≡ None
unfolding grammar_of_commands
job_name_with_slash = refl

job_name_missing : command_of (codes "qsub -N") ≡ None
unfolding grammar_of_commands
job_name_missing = refl

no_attribute_name : command_of (codes "qsub -l =5 x") ≡ None
unfolding grammar_of_commands
no_attribute_name = refl

empty_attribute : command_of (codes "qsub -l a=1, x") ≡ None
unfolding grammar_of_commands
empty_attribute = refl

value_with_equals : command_of (codes "qsub -l a=b=c,d= x")
    ≡ Some (Command.Submit (record { items = (codes "-l", codes "a=b=c,d=" ∷ []) ∷ [] }) (codes "x" ∷ []) [])
unfolding grammar_of_commands
value_with_equals = refl

no_queue : command_of (codes "qsub -q @h x") ≡ None
unfolding grammar_of_commands
no_queue = refl

no_host : command_of (codes "qsub -q a@ x") ≡ None
unfolding grammar_of_commands
no_host = refl

no_group : command_of (codes "qsub -q a@@ x") ≡ None
unfolding grammar_of_commands
no_group = refl

empty_queue : command_of (codes "qsub -q a,,b x") ≡ None
unfolding grammar_of_commands
empty_queue = refl

second_at : command_of (codes "qsub -q a@b@c x")
    ≡ Some (Command.Submit (record { items = (codes "-q", codes "a@b@c" ∷ []) ∷ [] }) (codes "x" ∷ []) [])
unfolding grammar_of_commands
second_at = refl

slots_missing : command_of (codes "qsub -pe smp") ≡ None
unfolding grammar_of_commands
slots_missing = refl

no_slots : command_of (codes "qsub -pe smp - x") ≡ None
unfolding grammar_of_commands
no_slots = refl

slots_below : command_of (codes "qsub -pe smp 5-3 x")
    ≡ Some (Command.Submit (record { items = (codes "-pe", codes "smp" ∷ codes "5-3" ∷ []) ∷ [] }) (codes "x" ∷ []) [])
unfolding grammar_of_commands
slots_below = refl

task_zero : command_of (codes "qsub -t 0 x") ≡ None
unfolding grammar_of_commands
task_zero = refl

task_range_below : command_of (codes "qsub -t 5-3 x") ≡ None
unfolding grammar_of_commands
task_range_below = refl

step_zero : command_of (codes "qsub -t 1-5:0 x") ≡ None
unfolding grammar_of_commands
step_zero = refl

empty_predecessor : command_of (codes "qsub -hold_jid 3, x") ≡ None
unfolding grammar_of_commands
empty_predecessor = refl

hold_letters_on_qsub : command_of (codes "qsub -h u x")
    ≡ Some (Command.Submit (record { items = (codes "-h", []) ∷ [] }) (codes "u" ∷ codes "x" ∷ []) [])
unfolding grammar_of_commands
hold_letters_on_qsub = refl

priority_dash : command_of (codes "qsub -p - x") ≡ None
unfolding grammar_of_commands
priority_dash = refl

negative_share : command_of (codes "qsub -js -4 x") ≡ None
unfolding grammar_of_commands
negative_share = refl

override_tickets_on_qsub : command_of (codes "qsub -ot 4 x") ≡ None
unfolding grammar_of_commands
override_tickets_on_qsub = refl

project_with_slash : command_of (codes "qsub -P a/b x") ≡ None
unfolding grammar_of_commands
project_with_slash = refl

answer_in_capitals : command_of (codes "qsub -R Y x") ≡ None
unfolding grammar_of_commands
answer_in_capitals = refl

account_with_colon : command_of (codes "qsub -A a:b x") ≡ None
unfolding grammar_of_commands
account_with_colon = refl

unknown_option : command_of (codes "qsub -soft x") ≡ None
unfolding grammar_of_commands
unknown_option = refl
