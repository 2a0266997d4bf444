-- Reports of daemons, and accounting.
use Rattle.std.specs.Prelude.{◌≡◌, ◌++◌, codes, refl}
use Rattle.ge_model_core.specs.Scripts.{written_for}

-- an end that is reported twice is accounted once
a_repeated_report : written_for (
    codes "@10 ann staff\nqsub -N one x\n"
    ++ codes "@20 root root\nsched\n"
    ++ codes "@50 root root\nend 1 0 12 0 0\n"
    ++ codes "@51 root root\nend 1 0 12 0 0\n"
    ++ codes "@51 root root\nend 9 0 0 0 0\n"
    ++ codes "@52 ann staff\nqacct -j 1\n")
    ≡ codes "0 1\nYour job 1 (\"one\") has been submitted\n"
    ++ codes "0 1\nstart 1 1.1 all.q@local=1\n"
    ++ codes "0 1\ndone\n"
    ++ codes "22 1\nstale report\n"
    ++ codes "14 1\nno such object\n"
    ++ codes "0 1\nall.q:local:staff:ann:one:1:sge:0:10:20:50:0:0:30:NONE:NONE:1:0:12:0:0\n"
unfolding written_for
a_repeated_report = refl

-- what a daemon is told of a task that runs, and after it is marked for deletion
orders_of_a_host : written_for (
    codes "@10 ann staff\nqsub -N one x\n"
    ++ codes "@20 root root\nsched\n"
    ++ codes "@20 root root\norders local\n"
    ++ codes "@20 ann staff\nqdel 1\n"
    ++ codes "@20 root root\norders local\n"
    ++ codes "@20 root root\njob 1\n")
    ≡ codes "0 1\nYour job 1 (\"one\") has been submitted\n"
    ++ codes "0 1\nstart 1 1.1 all.q@local=1\n"
    ++ codes "0 1\nrun 1 1 1 1\n"
    ++ codes "0 1\nremoved 0 marked 1\n"
    ++ codes "0 1\nkill 1\n"
    ++ codes "0 3\nlimit -\nwords 1\nx\n"
unfolding written_for
orders_of_a_host = refl
