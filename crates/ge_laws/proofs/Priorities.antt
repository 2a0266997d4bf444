-- Priority, urgency and tickets.
use Rattle.std.specs.Prelude.{◌≡◌, ◌++◌, ℕ, List, ◌∷◌, [], codes, refl}
use Rattle.ge_model_rows.specs.ClusterRows.{Cluster}
use Rattle.ge_model_rows.specs.Complexes.{opening}
use Rattle.ge_model_jobs.specs.Usage.{usage_at}
use Rattle.ge_model_order.specs.Candidates.{candidates}
use Rattle.ge_model_order.specs.Priority.{all_tickets_of, order_of_runs}
use Rattle.ge_model_core.specs.Scripts.{written_for, left_by}

-- a job alone has half of each part but the tickets
one_priority : written_for (
    codes "@0 ann staff\nqsub x\n"
    ++ codes "@0 ann staff\nqstat -pri\n")
    ≡ codes "0 1\nYour job 1 (\"x\") has been submitted\n"
    ++ codes "0 1\n1 0.499755 0.500000 0.000000 0.549755\n"
unfolding written_for
one_priority = refl

-- three equal jobs are listed by number
equal_priorities : written_for (
    codes "@0 ann staff\nqsub x\n"
    ++ codes "@0 ann staff\nqsub x\n"
    ++ codes "@0 ann staff\nqsub x\n"
    ++ codes "@0 ann staff\nqstat -pri\n")
    ≡ codes "0 1\nYour job 1 (\"x\") has been submitted\n"
    ++ codes "0 1\nYour job 2 (\"x\") has been submitted\n"
    ++ codes "0 1\nYour job 3 (\"x\") has been submitted\n"
    ++ codes "0 3\n1 0.499755 0.500000 0.000000 0.549755\n2 0.499755 0.500000 0.000000 0.549755\n3 0.499755 0.500000 0.000000 0.549755\n"
unfolding written_for
equal_priorities = refl

-- the job of the higher priority comes first
a_higher_priority : written_for (
    codes "@0 root root\nqsub -N a x\n"
    ++ codes "@0 root root\nqsub -N b -p 1 x\n"
    ++ codes "@0 root root\nqstat -pri\n"
    ++ codes "@0 root root\nsched\n"
    ++ codes "@0 root root\nqstat\n")
    ≡ codes "0 1\nYour job 1 (\"a\") has been submitted\n"
    ++ codes "0 1\nYour job 2 (\"b\") has been submitted\n"
    ++ codes "0 2\n2 0.500244 0.500000 0.000000 0.550244\n1 0.499755 0.500000 0.000000 0.549755\n"
    ++ codes "0 2\nstart 1 2.1 all.q@local=1\nstart 2 1.1 all.q@local=1\n"
    ++ codes "0 2\n1 a root r 0 all.q@local 1 -\n2 b root r 0 all.q@local 1 -\n"
unfolding written_for
a_higher_priority = refl

-- two users with equal shares, of whom one used three times as much, and a waiting job of each
unfoldable sharing : List ℕ
sharing =
    codes "@0 root root\nqconf -Msconf\nweight_tickets_share 10000\nhalftime 0\n"
    ++ codes "@0 root root\nqconf -Astree\nid=0\nname=Root\ntype=0\nshares=1\nchildnodes=1,2\nid=1\nname=ann\ntype=0\nshares=100\nchildnodes=NONE\nid=2\nname=bob\ntype=0\nshares=100\nchildnodes=NONE\n"
    ++ codes "@0 ann staff\nqsub x\n"
    ++ codes "@0 bob staff\nqsub x\n"
    ++ codes "@0 root root\nsched\n"
    ++ codes "@0 root root\nend 1 0 300 0 0\n"
    ++ codes "@0 root root\nend 2 0 100 0 0\n"
    ++ codes "@0 ann staff\nqsub x\n"
    ++ codes "@0 bob staff\nqsub x\n"

-- who used three times as much has the fewer share tickets
shares_after_usage : written_for (
    sharing
    ++ codes "@0 ann staff\nqstat -pri\n")
    ≡ codes "0 1\ndone\n"
    ++ codes "0 1\ndone\n"
    ++ codes "0 1\nYour job 1 (\"x\") has been submitted\n"
    ++ codes "0 1\nYour job 2 (\"x\") has been submitted\n"
    ++ codes "0 2\nstart 1 1.1 all.q@local=1\nstart 2 2.1 all.q@local=1\n"
    ++ codes "0 1\ndone\n"
    ++ codes "0 1\ndone\n"
    ++ codes "0 1\nYour job 3 (\"x\") has been submitted\n"
    ++ codes "0 1\nYour job 4 (\"x\") has been submitted\n"
    ++ codes "0 2\n4 0.499755 0.500000 1.000000 0.559755\n3 0.499755 0.500000 0.342147 0.553176\n"
unfolding written_for sharing
shares_after_usage = refl

-- the same in tickets: jobs 3 and 4 have 2549 and 7450
tickets_after_usage : all_tickets_of (left_by sharing) (candidates (left_by sharing) 0) 0 ≡ 2549 ∷ 7450 ∷ []
unfolding left_by sharing order_of_runs
tickets_after_usage = refl

-- 1001 seconds of usage in the first hour, with a halftime of an hour
unfoldable used : Cluster
unfolding opening
used = record opening { sched = record (opening.sched) { halftime = 1 }; usage = ((codes "ann", [], 0), 1001) ∷ [] }

whole_within_the_hour : usage_at used (codes "ann") [] 3599 ≡ 1001
unfolding usage_at used
whole_within_the_hour = refl

-- it halves as the next hour begins, rounded down
halved_in_the_next : usage_at used (codes "ann") [] 3600 ≡ 500
unfolding usage_at used
halved_in_the_next = refl
