-- A day of a small site: hosts, a group, an environment, two queues and a quota, and what is answered to twelve jobs.
use Rattle.std.specs.Prelude.{◌≡◌, ◌++◌, ℕ, List, [], ◌∷◌, codes, refl}
use Rattle.ge_model_rows.specs.ClusterRows.{Cluster}
use Rattle.ge_model_rows.specs.Groups.{expanded}
use Rattle.ge_model_jobs.proofs.Samples.{task, instance}
use Rattle.ge_model_order.specs.Priority.{prios_at, order_of, order_of_runs}
use Rattle.ge_model_place.specs.InstanceOrder.{instance_order}
use Rattle.ge_model_place.specs.Running.{runs_in_full}
use Rattle.ge_model_core.specs.Scripts.{written_for, left_by}

-- the site as it is configured, the loads of its hosts, and the jobs
unfoldable morning : List ℕ
morning =
    codes "@0 root root\nqconf -Ac\nmem mem MEMORY <= YES YES 1G 0\n"
    ++ codes "@0 root root\nqconf -Ae\nhostname n1\ncomplex_values mem=8G\n"
    ++ codes "@0 root root\nqconf -Ae\nhostname n2\ncomplex_values mem=8G\n"
    ++ codes "@0 root root\nqconf -Ae\nhostname n3\ncomplex_values mem=4G\n"
    ++ codes "@0 root root\nqconf -Ahgrp\ngroup_name @big\nhostlist n1 n2\n"
    ++ codes "@0 root root\nqconf -Ap\npe_name smp\nslots 100\nallocation_rule $pe_slots\n"
    ++ codes "@0 root root\nqconf -dq all.q\n"
    ++ codes "@0 root root\nqconf -Aq\nqname long.q\nhostlist @big n3\nslots 2,[@big=4]\npe_list smp\n"
    ++ codes "@0 root root\nqconf -Aq\nqname short.q\nhostlist n3\nseq_no 1\nslots 1\nh_rt 1:0:0\n"
    ++ codes "@0 root root\nqconf -Arqs\n{\nname per_user\nenabled TRUE\nlimit users {*} to slots=6\n}\n"
    ++ codes "@5 root root\nload n1 np_load_avg=1.0\n"
    ++ codes "@5 root root\nload n2 np_load_avg=0.5\n"
    ++ codes "@5 root root\nload n3 np_load_avg=0.1\n"
    ++ codes "@10 ann staff\nqsub prep.sh\n#!/bin/sh\n#$ -N prep -cwd -j y\n#$ -l h_rt=0:10:0\ndate\n"
    ++ codes "@10 ann staff\nqsub -N sim -t 1-4 -l mem=2G -l h_rt=2:0:0 sim.sh\n"
    ++ codes "@10 ann staff\nqsub -N post -hold_jid sim post.sh\n"
    ++ codes "@10 bob staff\nqsub -N mpi -pe smp 3-8 -l h_rt=1:0:0 mpi.sh\n"
    ++ codes "@10 bob staff\nqsub -N big -l mem=6G big.sh\n"
    ++ codes "@10 bob staff\nqsub -N small -l h_rt=0:30:0 small.sh\n"
    ++ codes "@10 cy lab\nqsub -N huge -l mem=16G huge.sh\n"
    ++ codes "@10 cy lab\nqsub -N quick -q short.q quick.sh\n"
    ++ codes "@10 cy lab\nqsub -N low -p -100 low.sh\n"
    ++ codes "@10 cy lab\nqsub -N later -a 5000 later.sh\n"
    ++ codes "@10 cy lab\nqsub -N held -h held.sh\n"
    ++ codes "@10 cy lab\nqsub -N last last.sh\n"

-- the site, the jobs, two runs, an end and its accounting; then the environment and a host as they are printed
a_day : written_for (
    morning
    ++ codes "@20 root root\nsched\n"
    ++ codes "@700 root root\nend 2 0 580 0 0\n"
    ++ codes "@700 root root\nsched\n"
    ++ codes "@700 ann staff\nqacct -o ann\n"
    ++ codes "@700 ann staff\nqconf -sp smp\n"
    ++ codes "@700 ann staff\nqconf -se n3\n")
    ≡ codes "0 1\ndone\n"
    ++ codes "0 1\ndone\n"
    ++ codes "0 1\ndone\n"
    ++ codes "0 1\ndone\n"
    ++ codes "0 1\ndone\n"
    ++ codes "0 1\ndone\n"
    ++ codes "0 1\ndone\n"
    ++ codes "0 1\ndone\n"
    ++ codes "0 1\ndone\n"
    ++ codes "0 1\ndone\n"
    ++ codes "0 1\ndone\n"
    ++ codes "0 1\ndone\n"
    ++ codes "0 1\ndone\n"
    ++ codes "0 1\nYour job 1 (\"prep\") has been submitted\n"
    ++ codes "0 1\nYour job-array 2.1-4:1 (\"sim\") has been submitted\n"
    ++ codes "0 1\nYour job 3 (\"post\") has been submitted\n"
    ++ codes "0 1\nYour job 4 (\"mpi\") has been submitted\n"
    ++ codes "0 1\nYour job 5 (\"big\") has been submitted\n"
    ++ codes "0 1\nYour job 6 (\"small\") has been submitted\n"
    ++ codes "0 1\nYour job 7 (\"huge\") has been submitted\n"
    ++ codes "0 1\nYour job 8 (\"quick\") has been submitted\n"
    ++ codes "0 1\nYour job 9 (\"low\") has been submitted\n"
    ++ codes "0 1\nYour job 10 (\"later\") has been submitted\n"
    ++ codes "0 1\nYour job 11 (\"held\") has been submitted\n"
    ++ codes "0 1\nYour job 12 (\"last\") has been submitted\n"
    ++ codes "0 8\nstart 1 4.1 long.q@n2=4\nstart 2 1.1 long.q@n3=1\nstart 3 2.1 long.q@n3=1\nstart 4 2.2 long.q@n1=1\nstart 5 2.3 long.q@n1=1\nstart 6 2.4 long.q@n1=1\nstart 7 6.1 short.q@n3=1\nstart 8 12.1 long.q@n1=1\n"
    ++ codes "0 1\ndone\n"
    ++ codes "0 1\nstart 9 9.1 long.q@n3=1\n"
    ++ codes "0 1\nann 1 680 580 0 0\n"
    ++ codes "0 6\npe_name smp\nslots 100\nuser_lists NONE\nxuser_lists NONE\nallocation_rule $pe_slots\nurgency_slots min\n"
    ++ codes "0 2\nhostname n3\ncomplex_values mem=4294967296\n"
unfolding written_for morning
a_day = refl

-- the site before its first run
unfoldable site : Cluster
unfolding left_by morning
site = left_by morning

-- the order of the first run: job 3 waits for job 2, job 10 for its time, and job 11 is held
the_order_of_the_first_run : order_of site (prios_at site 20) 20
    ≡ task 4 1 ∷ task 1 1 ∷ task 2 1 ∷ task 2 2 ∷ task 2 3 ∷ task 2 4 ∷ task 5 1 ∷ task 6 1 ∷ task 7 1 ∷ task 8 1 ∷ task 12 1 ∷ task 9 1 ∷ []
unfolding site order_of_runs
the_order_of_the_first_run = refl

-- the order of the instances: the least loaded host first, then by seq_no
the_order_of_the_instances : instance_order site (expanded site)
    ≡ instance (codes "long.q") (codes "n3") ∷ instance (codes "short.q") (codes "n3") ∷ instance (codes "long.q") (codes "n2") ∷ instance (codes "long.q") (codes "n1") ∷ []
unfolding site runs_in_full
the_order_of_the_instances = refl
