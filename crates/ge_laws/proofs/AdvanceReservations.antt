-- Advance reservations: slots that are booked for a time to come, and the jobs that are sent into them.
use Rattle.std.specs.Prelude.{◌≡◌, ◌++◌, codes, refl}
use Rattle.ge_model_core.specs.Scripts.{written_for}

-- one of two slots is booked from 100 to 150: of the long jobs one starts, the short one ends in time, and at 100 the job
-- that was sent into the reservation starts there; it still runs at 150, so nothing else does
respected_by_backfill : written_for (
    codes "@0 ann staff\nqrsub -N x -a 100 -d 50\n"
    ++ codes "@0 ann staff\nqsub -N A -l h_rt=200 a\n"
    ++ codes "@0 ann staff\nqsub -N B -l h_rt=200 b\n"
    ++ codes "@0 ann staff\nqsub -N C -l h_rt=100 c\n"
    ++ codes "@0 ann staff\nqsub -N D -ar 1 d\n"
    ++ codes "@0 root root\nsched\n"
    ++ codes "@100 root root\nend 2 0 0 0 0\n"
    ++ codes "@100 root root\nsched\n"
    ++ codes "@150 root root\nsched\n")
    ≡ codes "0 1\nYour advance reservation 1 has been granted\n"
    ++ codes "0 1\nYour job 1 (\"A\") has been submitted\n"
    ++ codes "0 1\nYour job 2 (\"B\") has been submitted\n"
    ++ codes "0 1\nYour job 3 (\"C\") has been submitted\n"
    ++ codes "0 1\nYour job 4 (\"D\") has been submitted\n"
    ++ codes "0 2\nstart 1 1.1 all.q@local=1\nstart 2 3.1 all.q@local=1\n"
    ++ codes "0 1\ndone\n"
    ++ codes "0 1\nstart 3 4.1 all.q@local=1\n"
    ++ codes "0 0\n"
unfolding written_for
respected_by_backfill = refl

-- two slots can be booked, and no third one; who may send a job into a reservation or give it up, and how
refusals : written_for (
    codes "@0 ann staff\nqrsub -a 100 -d 50\n"
    ++ codes "@0 ann staff\nqrsub -a 100 -d 50\n"
    ++ codes "@0 ann staff\nqrsub -a 100 -d 50\n"
    ++ codes "@0 bob staff\nqrdel 1\n"
    ++ codes "@0 bob staff\nqsub -ar 1 x\n"
    ++ codes "@0 ann staff\nqsub -ar 1 -R y x\n"
    ++ codes "@0 ann staff\nqrdel 3\n"
    ++ codes "@0 ann staff\nqrsub -a 5\n"
    ++ codes "@0 ann staff\nqrstat\n")
    ≡ codes "0 1\nYour advance reservation 1 has been granted\n"
    ++ codes "0 1\nYour advance reservation 2 has been granted\n"
    ++ codes "21 1\nlimit reached\n"
    ++ codes "15 1\nnot permitted\n"
    ++ codes "15 1\nnot permitted\n"
    ++ codes "18 1\nbad value\n"
    ++ codes "14 1\nno such object\n"
    ++ codes "11 1\nsyntax error\n"
    ++ codes "0 2\n1 ar ann w 100 150 1\n2 ar ann w 100 150 1\n"
unfolding written_for
refusals = refl

-- when a reservation may be, and what a job in it can't ask for: a reservation, a project, another environment, a consumable
times_and_requests : written_for (
    codes "@50 ann staff\nqrsub -a 49 -d 50\n"
    ++ codes "@50 ann staff\nqrsub -a 50 -e 50\n"
    ++ codes "@50 ann staff\nqrsub -d 1:x\n"
    ++ codes "@50 ann staff\nqrsub -d 0\n"
    ++ codes "@50 ann staff\nqrsub -d INFINITY\n"
    ++ codes "@50 ann staff\nqrsub -e 1099511627776\n"
    ++ codes "@50 ann staff\nqrsub -e 60 -l nosuch=1\n"
    ++ codes "@50 ann staff\nqrsub -e 60 -l load_avg=1\n"
    ++ codes "@50 ann staff\nqrsub -e 60 -pe nosuch 2\n"
    ++ codes "@50 ann staff\nqrsub -e 60 -q nosuch\n"
    ++ codes "@50 ann staff\nqrsub -e 1099511627775 -l arch=lx,h_rt=5\n"
    ++ codes "@50 root root\nqconf -Ap\npe_name smp\nslots 100\n"
    ++ codes "@50 root root\nqconf -Ac\nlic lic INT <= YES JOB 0 0\n"
    ++ codes "@50 ann staff\nqrsub -e 60\n"
    ++ codes "@50 ann staff\nqsub -ar 1 -P nosuch x\n"
    ++ codes "@50 ann staff\nqsub -ar 1 -pe smp 1 x\n"
    ++ codes "@50 ann staff\nqsub -ar 1 -l lic=1 x\n"
    ++ codes "@50 ann staff\nqsub -ar 0 x\n"
    ++ codes "@50 root root\nqsub -ar 1 x\n"
    ++ codes "@50 ann staff\nqsub -ar 1 -R n -l h_rt=5 x\n"
    ++ codes "@50 ann staff\nqalter -R y 1\n"
    ++ codes "@50 ann staff\nqalter -pe smp 1 1\n"
    ++ codes "@50 ann staff\nqalter -l lic=1 1\n"
    ++ codes "@50 ann staff\nqalter -l h_rt=7 1\n")
    ≡ codes "18 1\nbad value\n18 1\nbad value\n18 1\nbad value\n18 1\nbad value\n18 1\nbad value\n18 1\nbad value\n"
    ++ codes "14 1\nno such object\n19 1\nnot requestable\n14 1\nno such object\n21 1\nlimit reached\n21 1\nlimit reached\n"
    ++ codes "0 1\ndone\n0 1\ndone\n0 1\nYour advance reservation 1 has been granted\n"
    ++ codes "14 1\nno such object\n18 1\nbad value\n18 1\nbad value\n14 1\nno such object\n15 1\nnot permitted\n"
    ++ codes "0 1\nYour job 1 (\"x\") has been submitted\n"
    ++ codes "18 1\nbad value\n18 1\nbad value\n18 1\nbad value\n0 1\nmodified 1\n"
unfolding written_for
times_and_requests = refl

-- a reservation's life: it waits, it runs, it is over; it holds its queue and host; a run lets it go when no job is in it
a_life : written_for (
    codes "@0 root root\nqconf -Ae\nhostname h2\n"
    ++ codes "@0 root root\nqconf -Aq\nqname b.q\nhostlist h2\nslots 4\npe_list NONE\n"
    ++ codes "@0 ann staff\nqrsub -N r -q b.q -a 10 -e 20\n"
    ++ codes "@0 root root\nqconf -dq b.q\n"
    ++ codes "@5 ann staff\nqsub -N j -ar 1 -l h_rt=100 x\n"
    ++ codes "@5 ann staff\nqrdel 1\n"
    ++ codes "@9 ann staff\nqrstat\n"
    ++ codes "@9 root root\nsched\n"
    ++ codes "@12 root root\nsched\n"
    ++ codes "@12 bob staff\nqrstat -ar 1\n"
    ++ codes "@12 root root\njob 1\n"
    ++ codes "@20 bob staff\nqrstat -ar 1\n"
    ++ codes "@20 root root\nsched\n"
    ++ codes "@21 root root\nend 1 0 0 0 0\n"
    ++ codes "@22 ann staff\nqrstat\n"
    ++ codes "@23 root root\nsched\n"
    ++ codes "@24 ann staff\nqrstat\n"
    ++ codes "@24 ann staff\nqrstat -ar 1\n"
    ++ codes "@24 root root\nqconf -dq b.q\n")
    ≡ codes "0 1\ndone\n0 1\ndone\n0 1\nYour advance reservation 1 has been granted\n17 1\nin use\n"
    ++ codes "0 1\nYour job 1 (\"j\") has been submitted\n17 1\nin use\n"
    ++ codes "0 1\n1 r ann w 10 20 1\n0 0\n0 1\nstart 1 1.1 b.q@h2=1\n"
    ++ codes "0 2\n1 r ann r 10 20 1\nb.q@h2=1\n"
    ++ codes "0 3\nlimit 8\nwords 1\nx\n"
    ++ codes "0 2\n1 r ann x 10 20 1\nb.q@h2=1\n0 0\n0 1\ndone\n0 1\n1 r ann x 10 20 1\n0 0\n0 0\n14 1\nno such object\n0 1\ndone\n"
unfolding written_for
a_life = refl

-- several are given up at once, each counted once; an operator may give up another user's
given_up : written_for (
    codes "@0 ann staff\nqrsub -a 100 -d 50\n"
    ++ codes "@0 bob staff\nqrsub -a 100 -d 50\n"
    ++ codes "@0 ann staff\nqrdel 1,2\n"
    ++ codes "@0 root root\nqrdel 2,1 2\n"
    ++ codes "@0 ann staff\nqrsub -N again -a 100 -e 150\n"
    ++ codes "@0 ann staff\nqrstat\n")
    ≡ codes "0 1\nYour advance reservation 1 has been granted\n0 1\nYour advance reservation 2 has been granted\n"
    ++ codes "15 1\nnot permitted\n0 1\nremoved 2\n0 1\nYour advance reservation 3 has been granted\n"
    ++ codes "0 1\n3 again ann w 100 150 1\n"
unfolding written_for
given_up = refl

-- qstat -f counts the slots of a reservation while it lasts, and those of the job in it not again
in_the_list_of_instances : written_for (
    codes "@0 ann staff\nqrsub -a 10 -e 20\n"
    ++ codes "@0 ann staff\nqsub -ar 1 x\n"
    ++ codes "@9 ann staff\nqstat -f\n"
    ++ codes "@10 ann staff\nqstat -f\n"
    ++ codes "@12 root root\nsched\n"
    ++ codes "@12 ann staff\nqstat -f\n"
    ++ codes "@20 ann staff\nqstat -f\n"
    ++ codes "@20 root root\nend 1 0 0 0 0\n"
    ++ codes "@20 ann staff\nqstat -f\n")
    ≡ codes "0 1\nYour advance reservation 1 has been granted\n0 1\nYour job 1 (\"x\") has been submitted\n"
    ++ codes "0 1\nall.q@local 0/2 - -\n0 1\nall.q@local 1/2 - -\n"
    ++ codes "0 1\nstart 1 1.1 all.q@local=1\n0 1\nall.q@local 1/2 - -\n"
    ++ codes "0 1\nall.q@local 1/2 - -\n0 1\ndone\n0 1\nall.q@local 0/2 - -\n"
unfolding written_for
in_the_list_of_instances = refl

-- a reservation of two slots takes a licence once, and those who ask for it meanwhile wait or are refused; a job in it takes
-- the slots that are booked, and no more of them than there are
with_a_licence : written_for (
    codes "@0 root root\nqconf -Ac\nlic lic INT <= YES JOB 0 0\n"
    ++ codes "@0 root root\nqconf -Me\nhostname global\ncomplex_values lic=1\n"
    ++ codes "@0 root root\nqconf -Ap\npe_name smp\nslots 100\nallocation_rule $pe_slots\n"
    ++ codes "@0 root root\nqconf -Mq\nqname all.q\nhostlist local\nslots 4\npe_list smp\n"
    ++ codes "@0 ann staff\nqrsub -pe smp 2 -l lic=1 -a 10 -e 20\n"
    ++ codes "@0 bob staff\nqrsub -l lic=1 -a 19 -e 30\n"
    ++ codes "@0 bob staff\nqrsub -l lic=1 -a 20 -e 30\n"
    ++ codes "@0 bob staff\nqsub -N b -l lic=1 x\n"
    ++ codes "@0 bob staff\nqsub -N c -l lic=1,h_rt=10 x\n"
    ++ codes "@0 ann staff\nqsub -N d -ar 1 -pe smp 1-3 x\n"
    ++ codes "@0 root root\nsched\n"
    ++ codes "@10 root root\nend 1 0 0 0 0\n"
    ++ codes "@10 root root\nsched\n"
    ++ codes "@10 ann staff\nqrstat -ar 1\n"
    ++ codes "@10 root root\nqconf -dp smp\n")
    ≡ codes "0 1\ndone\n0 1\ndone\n0 1\ndone\n0 1\ndone\n"
    ++ codes "0 1\nYour advance reservation 1 has been granted\n21 1\nlimit reached\n0 1\nYour advance reservation 2 has been granted\n"
    ++ codes "0 1\nYour job 1 (\"b\") has been submitted\n0 1\nYour job 2 (\"c\") has been submitted\n0 1\nYour job 3 (\"d\") has been submitted\n"
    ++ codes "0 1\nstart 1 2.1 all.q@local=1\n0 1\ndone\n0 1\nstart 2 3.1 all.q@local=2\n"
    ++ codes "0 2\n1 ar ann r 10 20 2\nall.q@local=2\n17 1\nin use\n"
unfolding written_for
with_a_licence = refl
