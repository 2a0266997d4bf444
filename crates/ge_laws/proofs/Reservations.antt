-- Reservations and backfill.
use Rattle.std.specs.Prelude.{◌≡◌, ◌++◌, codes, refl}
use Rattle.ge_model_core.specs.Scripts.{written_for}

-- B is reserved at the end of A; C ends before, so it starts, and D would hold a slot then
backfill : written_for (
    codes "@0 root root\nqconf -Ap\npe_name smp\nslots 100\nallocation_rule $pe_slots\n"
    ++ codes "@0 root root\nqconf -Mq\nqname all.q\nhostlist local\nslots 2\npe_list smp\n"
    ++ codes "@0 root root\nqconf -Msconf\nmax_reservation 1\n"
    ++ codes "@0 ann staff\nqsub -N A -l h_rt=100 a\n"
    ++ codes "@0 root root\nsched\n"
    ++ codes "@40 ann staff\nqsub -N B -pe smp 2 -R y -l h_rt=100 b\n"
    ++ codes "@40 ann staff\nqsub -N D -l h_rt=61 d\n"
    ++ codes "@40 ann staff\nqsub -N C -l h_rt=50 c\n"
    ++ codes "@40 root root\nsched\n")
    ≡ codes "0 1\ndone\n"
    ++ codes "0 1\ndone\n"
    ++ codes "0 1\ndone\n"
    ++ codes "0 1\nYour job 1 (\"A\") has been submitted\n"
    ++ codes "0 1\nstart 1 1.1 all.q@local=1\n"
    ++ codes "0 1\nYour job 2 (\"B\") has been submitted\n"
    ++ codes "0 1\nYour job 3 (\"D\") has been submitted\n"
    ++ codes "0 1\nYour job 4 (\"C\") has been submitted\n"
    ++ codes "0 2\nreserve 2.1 100 all.q@local=2\nstart 2 4.1 all.q@local=1\n"
unfolding written_for
backfill = refl

-- without reservations D starts
no_reservation : written_for (
    codes "@0 root root\nqconf -Ap\npe_name smp\nslots 100\nallocation_rule $pe_slots\n"
    ++ codes "@0 root root\nqconf -Mq\nqname all.q\nhostlist local\nslots 2\npe_list smp\n"
    ++ codes "@0 root root\nqconf -Msconf\nmax_reservation 0\n"
    ++ codes "@0 ann staff\nqsub -N A -l h_rt=100 a\n"
    ++ codes "@0 root root\nsched\n"
    ++ codes "@40 ann staff\nqsub -N B -pe smp 2 -R y -l h_rt=100 b\n"
    ++ codes "@40 ann staff\nqsub -N D -l h_rt=61 d\n"
    ++ codes "@40 ann staff\nqsub -N C -l h_rt=50 c\n"
    ++ codes "@40 root root\nsched\n")
    ≡ codes "0 1\ndone\n"
    ++ codes "0 1\ndone\n"
    ++ codes "0 1\ndone\n"
    ++ codes "0 1\nYour job 1 (\"A\") has been submitted\n"
    ++ codes "0 1\nstart 1 1.1 all.q@local=1\n"
    ++ codes "0 1\nYour job 2 (\"B\") has been submitted\n"
    ++ codes "0 1\nYour job 3 (\"D\") has been submitted\n"
    ++ codes "0 1\nYour job 4 (\"C\") has been submitted\n"
    ++ codes "0 1\nstart 2 3.1 all.q@local=1\n"
unfolding written_for
no_reservation = refl

-- a second job that asks for a reservation gets none
one_reservation : written_for (
    codes "@0 root root\nqconf -Ap\npe_name smp\nslots 100\nallocation_rule $pe_slots\n"
    ++ codes "@0 root root\nqconf -Mq\nqname all.q\nhostlist local\nslots 2\npe_list smp\n"
    ++ codes "@0 root root\nqconf -Msconf\nmax_reservation 1\n"
    ++ codes "@0 ann staff\nqsub -N A -l h_rt=100 a\n"
    ++ codes "@0 root root\nsched\n"
    ++ codes "@40 ann staff\nqsub -N B -pe smp 2 -R y -l h_rt=100 b\n"
    ++ codes "@40 ann staff\nqsub -N D -l h_rt=61 d\n"
    ++ codes "@40 ann staff\nqsub -N C -l h_rt=50 c\n"
    ++ codes "@40 ann staff\nqsub -N E -pe smp 2 -R y -l h_rt=100 e\n"
    ++ codes "@40 root root\nsched\n")
    ≡ codes "0 1\ndone\n"
    ++ codes "0 1\ndone\n"
    ++ codes "0 1\ndone\n"
    ++ codes "0 1\nYour job 1 (\"A\") has been submitted\n"
    ++ codes "0 1\nstart 1 1.1 all.q@local=1\n"
    ++ codes "0 1\nYour job 2 (\"B\") has been submitted\n"
    ++ codes "0 1\nYour job 3 (\"D\") has been submitted\n"
    ++ codes "0 1\nYour job 4 (\"C\") has been submitted\n"
    ++ codes "0 1\nYour job 5 (\"E\") has been submitted\n"
    ++ codes "0 2\nreserve 2.1 100 all.q@local=2\nstart 2 4.1 all.q@local=1\n"
unfolding written_for
one_reservation = refl
