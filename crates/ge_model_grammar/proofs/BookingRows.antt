-- Worked rows of advance reservations, each by computation.
use Rattle.std.specs.Prelude.{◌≡◌, refl, [], ◌∷◌, Some, None, codes}
use Rattle.ge_model_rows.specs.CommandRows.{Command}
use Rattle.ge_model_grammar.specs.Commands.{command_of, grammar_of_commands}

-- qrsub

all_options : command_of (codes "qrsub -d 0:1:0 -a 007 -pe smp 2- -q a.q,b@h -l k=1 -l m -N x")
    ≡ Some (Command.Book (record {
      items = (codes "-N", codes "x" ∷ []) ∷ (codes "-l", codes "k=1" ∷ codes "m" ∷ []) ∷ (codes "-q", codes "a.q,b@h" ∷ [])
          ∷ (codes "-pe", codes "smp" ∷ codes "2-" ∷ []) ∷ (codes "-a", codes "007" ∷ []) ∷ (codes "-d", codes "0:1:0" ∷ []) ∷ [];
    }))
unfolding grammar_of_commands
all_options = refl

any_word_lasts : command_of (codes "qrsub -d 'a b'") ≡ Some (Command.Book (record { items = (codes "-d", codes "a b" ∷ []) ∷ [] }))
unfolding grammar_of_commands
any_word_lasts = refl

last_end : command_of (codes "qrsub -e 5 -e 6") ≡ Some (Command.Book (record { items = (codes "-e", codes "6" ∷ []) ∷ [] }))
unfolding grammar_of_commands
last_end = refl

no_end : command_of (codes "qrsub -a 5") ≡ None
unfolding grammar_of_commands
no_end = refl

nothing_asked : command_of (codes "qrsub") ≡ None
unfolding grammar_of_commands
nothing_asked = refl

both_ends : command_of (codes "qrsub -e 5 -d 5") ≡ None
unfolding grammar_of_commands
both_ends = refl

end_of_no_digits : command_of (codes "qrsub -e 1:0:0") ≡ None
unfolding grammar_of_commands
end_of_no_digits = refl

begin_of_no_digits : command_of (codes "qrsub -a -5 -d 5") ≡ None
unfolding grammar_of_commands
begin_of_no_digits = refl

option_of_jobs : command_of (codes "qrsub -d 5 -cwd") ≡ None
unfolding grammar_of_commands
option_of_jobs = refl

word_behind : command_of (codes "qrsub -d 5 x") ≡ None
unfolding grammar_of_commands
word_behind = refl

text_behind : command_of (codes "qrsub -d 5\nx") ≡ None
unfolding grammar_of_commands
text_behind = refl

-- qrdel

given_up : command_of (codes "qrdel 2,1 002 99999999999") ≡ Some (Command.Unbook (2 ∷ 1 ∷ 2 ∷ 4294967295 ∷ []))
unfolding grammar_of_commands
given_up = refl

none_given_up : command_of (codes "qrdel") ≡ None
unfolding grammar_of_commands
none_given_up = refl

name_given_up : command_of (codes "qrdel ar") ≡ None
unfolding grammar_of_commands
name_given_up = refl

-- qrstat

all_shown : command_of (codes "qrstat") ≡ Some (Command.ShowBooked None)
unfolding grammar_of_commands
all_shown = refl

one_shown : command_of (codes "qrstat -ar 3") ≡ Some (Command.ShowBooked (Some 3))
unfolding grammar_of_commands
one_shown = refl

no_number_shown : command_of (codes "qrstat -ar") ≡ None
unfolding grammar_of_commands
no_number_shown = refl

two_shown : command_of (codes "qrstat -ar 3 4") ≡ None
unfolding grammar_of_commands
two_shown = refl

list_shown : command_of (codes "qrstat -ar 3,4") ≡ None
unfolding grammar_of_commands
list_shown = refl

-- qsub -ar, which qalter hasn't

sent_into : command_of (codes "qsub -ar 03 x")
    ≡ Some (Command.Submit (record { items = (codes "-ar", codes "03" ∷ []) ∷ [] }) (codes "x" ∷ []) [])
unfolding grammar_of_commands
sent_into = refl

sent_by_script : command_of (codes "qsub -ar 4 x\n#$ -ar 3")
    ≡ Some (Command.Submit (record { items = (codes "-ar", codes "4" ∷ []) ∷ [] }) (codes "x" ∷ []) (codes "#$ -ar 3"))
unfolding grammar_of_commands
sent_by_script = refl

sent_into_a_name : command_of (codes "qsub -ar x") ≡ None
unfolding grammar_of_commands
sent_into_a_name = refl

moved : command_of (codes "qalter -ar 3 1") ≡ None
unfolding grammar_of_commands
moved = refl
