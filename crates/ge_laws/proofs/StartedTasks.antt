-- Tasks that start, and the lists that show them.
use Rattle.std.specs.Prelude.{◌≡◌, ◌++◌, codes, refl}
use Rattle.ge_model_core.specs.Scripts.{written_for}

listed_without_a_last_line_feed : written_for (codes "@10 ann staff\nqsub -N one sleep 60\n@12 ann staff\nqstat")
    ≡ codes "0 1\nYour job 1 (\"one\") has been submitted\n0 1\n1 one ann qw 10 - 1 -\n"
unfolding written_for
listed_without_a_last_line_feed = refl

-- two slots for three jobs; no manager's run is refused, and a second run finds no slot
two_slots_for_three_jobs : written_for (
    codes "@10 ann staff\nqsub -N a x\n"
    ++ codes "@10 ann staff\nqsub -N b x\n"
    ++ codes "@10 ann staff\nqsub -N c x\n"
    ++ codes "@20 ann staff\nsched\n"
    ++ codes "@20 root root\nsched\n"
    ++ codes "@20 ann staff\nqstat\n"
    ++ codes "@21 root root\nsched\n")
    ≡ codes "0 1\nYour job 1 (\"a\") has been submitted\n"
    ++ codes "0 1\nYour job 2 (\"b\") has been submitted\n"
    ++ codes "0 1\nYour job 3 (\"c\") has been submitted\n"
    ++ codes "15 1\nnot permitted\n"
    ++ codes "0 2\nstart 1 1.1 all.q@local=1\nstart 2 2.1 all.q@local=1\n"
    ++ codes "0 3\n1 a ann r 20 all.q@local 1 -\n2 b ann r 20 all.q@local 1 -\n3 c ann qw 10 - 1 -\n"
    ++ codes "0 0\n"
unfolding written_for
two_slots_for_three_jobs = refl
