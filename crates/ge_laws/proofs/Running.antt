-- Tasks that overrun, and slots that are taken away.
use Rattle.std.specs.Prelude.{◌≡◌, ◌++◌, codes, refl}
use Rattle.ge_model_core.specs.Scripts.{written_for}

-- tasks that run past their time are booked as long as they run
a_task_that_overruns : written_for (
    codes "@0 ann staff\nqsub -l h_rt=10 x\n"
    ++ codes "@0 ann staff\nqsub -l h_rt=10 x\n"
    ++ codes "@0 root root\nsched\n"
    ++ codes "@0 ann staff\nqsub x\n"
    ++ codes "@50 root root\nsched\n"
    ++ codes "@51 root root\nend 1 0 0 0 0\n"
    ++ codes "@51 root root\nsched\n")
    ≡ codes "0 1\nYour job 1 (\"x\") has been submitted\n"
    ++ codes "0 1\nYour job 2 (\"x\") has been submitted\n"
    ++ codes "0 2\nstart 1 1.1 all.q@local=1\nstart 2 2.1 all.q@local=1\n"
    ++ codes "0 1\nYour job 3 (\"x\") has been submitted\n"
    ++ codes "0 0\n"
    ++ codes "0 1\ndone\n"
    ++ codes "0 1\nstart 3 3.1 all.q@local=1\n"
unfolding written_for
a_task_that_overruns = refl

-- a queue with more running tasks than slots starts nothing until all but one of its slots are free
fewer_slots_than_tasks : written_for (
    codes "@0 ann staff\nqsub x\n"
    ++ codes "@0 ann staff\nqsub x\n"
    ++ codes "@0 root root\nsched\n"
    ++ codes "@0 root root\nqconf -Mq\nqname all.q\nhostlist local\nslots 1\n"
    ++ codes "@0 ann staff\nqstat -f\n"
    ++ codes "@0 ann staff\nqsub x\n"
    ++ codes "@0 root root\nsched\n"
    ++ codes "@1 root root\nend 1 0 0 0 0\n"
    ++ codes "@1 root root\nsched\n"
    ++ codes "@2 root root\nend 2 0 0 0 0\n"
    ++ codes "@2 root root\nsched\n")
    ≡ codes "0 1\nYour job 1 (\"x\") has been submitted\n"
    ++ codes "0 1\nYour job 2 (\"x\") has been submitted\n"
    ++ codes "0 2\nstart 1 1.1 all.q@local=1\nstart 2 2.1 all.q@local=1\n"
    ++ codes "0 1\ndone\n"
    ++ codes "0 1\nall.q@local 2/1 - -\n"
    ++ codes "0 1\nYour job 3 (\"x\") has been submitted\n"
    ++ codes "0 0\n"
    ++ codes "0 1\ndone\n"
    ++ codes "0 0\n"
    ++ codes "0 1\ndone\n"
    ++ codes "0 1\nstart 3 3.1 all.q@local=1\n"
unfolding written_for
fewer_slots_than_tasks = refl
