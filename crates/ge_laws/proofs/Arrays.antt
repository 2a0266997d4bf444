-- Job arrays, their dependencies and their ends.
use Rattle.std.specs.Prelude.{◌≡◌, ◌++◌, codes, refl}
use Rattle.ge_model_core.specs.Scripts.{written_for}

-- a task waits for the task of its number; 99 waits again, 100 is an error
array_dependencies : written_for (
    codes "@0 ann staff\nqsub -N a -t 1-10:3 x\n"
    ++ codes "@0 ann staff\nqsub -N b -t 1-10:3 -hold_jid_ad 1 y\n"
    ++ codes "@0 ann staff\nqdel 1.4\n"
    ++ codes "@0 root root\nsched\n"
    ++ codes "@5 root root\nend 1 99 0 0 0\n"
    ++ codes "@5 root root\nsched\n"
    ++ codes "@6 root root\nend 3 100 0 0 0\n"
    ++ codes "@6 ann staff\nqstat\n")
    ≡ codes "0 1\nYour job-array 1.1-10:3 (\"a\") has been submitted\n"
    ++ codes "0 1\nYour job-array 2.1-10:3 (\"b\") has been submitted\n"
    ++ codes "0 1\nremoved 1 marked 0\n"
    ++ codes "0 2\nstart 1 1.1 all.q@local=1\nstart 2 1.7 all.q@local=1\n"
    ++ codes "0 1\ndone\n"
    ++ codes "0 1\nstart 3 1.1 all.q@local=1\n"
    ++ codes "0 1\ndone\n"
    ++ codes "0 5\n1 a ann r 0 all.q@local 1 7\n1 a ann qw 0 - 1 10\n1 a ann Eqw 0 - 1 1\n2 b ann qw 0 - 1 4\n2 b ann hqw 0 - 1 1-7:6,10\n"
unfolding written_for
array_dependencies = refl
