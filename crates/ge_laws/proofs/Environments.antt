-- Parallel environments and their allocation rules.
use Rattle.std.specs.Prelude.{◌≡◌, ◌++◌, codes, refl}
use Rattle.ge_model_core.specs.Scripts.{written_for}

-- allocation_rule $round_robin, and 3-7 slots asked for
round_robin : written_for (
    codes "@0 root root\nqconf -dq all.q\n"
    ++ codes "@0 root root\nqconf -Ae\nhostname h1\n"
    ++ codes "@0 root root\nqconf -Ae\nhostname h2\n"
    ++ codes "@0 root root\nqconf -Ap\npe_name e\nslots 100\nallocation_rule $round_robin\n"
    ++ codes "@0 root root\nqconf -Aq\nqname p\nhostlist h1 h2\nslots 4,[h2=2]\npe_list e\n"
    ++ codes "@0 ann staff\nqsub -pe e 3-7 x\n"
    ++ codes "@0 root root\nsched\n")
    ≡ codes "0 1\ndone\n"
    ++ codes "0 1\ndone\n"
    ++ codes "0 1\ndone\n"
    ++ codes "0 1\ndone\n"
    ++ codes "0 1\ndone\n"
    ++ codes "0 1\nYour job 1 (\"x\") has been submitted\n"
    ++ codes "0 1\nstart 1 1.1 p@h1=4,p@h2=2\n"
unfolding written_for
round_robin = refl

-- allocation_rule $fill_up, and 3-7 slots asked for
fill_up : written_for (
    codes "@0 root root\nqconf -dq all.q\n"
    ++ codes "@0 root root\nqconf -Ae\nhostname h1\n"
    ++ codes "@0 root root\nqconf -Ae\nhostname h2\n"
    ++ codes "@0 root root\nqconf -Ap\npe_name e\nslots 100\nallocation_rule $fill_up\n"
    ++ codes "@0 root root\nqconf -Aq\nqname p\nhostlist h1 h2\nslots 4,[h2=2]\npe_list e\n"
    ++ codes "@0 ann staff\nqsub -pe e 3-7 x\n"
    ++ codes "@0 root root\nsched\n")
    ≡ codes "0 1\ndone\n"
    ++ codes "0 1\ndone\n"
    ++ codes "0 1\ndone\n"
    ++ codes "0 1\ndone\n"
    ++ codes "0 1\ndone\n"
    ++ codes "0 1\nYour job 1 (\"x\") has been submitted\n"
    ++ codes "0 1\nstart 1 1.1 p@h1=4,p@h2=2\n"
unfolding written_for
fill_up = refl

-- allocation_rule $pe_slots, and 3-7 slots asked for
on_one_host : written_for (
    codes "@0 root root\nqconf -dq all.q\n"
    ++ codes "@0 root root\nqconf -Ae\nhostname h1\n"
    ++ codes "@0 root root\nqconf -Ae\nhostname h2\n"
    ++ codes "@0 root root\nqconf -Ap\npe_name e\nslots 100\nallocation_rule $pe_slots\n"
    ++ codes "@0 root root\nqconf -Aq\nqname p\nhostlist h1 h2\nslots 4,[h2=2]\npe_list e\n"
    ++ codes "@0 ann staff\nqsub -pe e 3-7 x\n"
    ++ codes "@0 root root\nsched\n")
    ≡ codes "0 1\ndone\n"
    ++ codes "0 1\ndone\n"
    ++ codes "0 1\ndone\n"
    ++ codes "0 1\ndone\n"
    ++ codes "0 1\ndone\n"
    ++ codes "0 1\nYour job 1 (\"x\") has been submitted\n"
    ++ codes "0 1\nstart 1 1.1 p@h1=4\n"
unfolding written_for
on_one_host = refl

-- allocation_rule 2, and 3-7 slots asked for
two_on_each_host : written_for (
    codes "@0 root root\nqconf -dq all.q\n"
    ++ codes "@0 root root\nqconf -Ae\nhostname h1\n"
    ++ codes "@0 root root\nqconf -Ae\nhostname h2\n"
    ++ codes "@0 root root\nqconf -Ap\npe_name e\nslots 100\nallocation_rule 2\n"
    ++ codes "@0 root root\nqconf -Aq\nqname p\nhostlist h1 h2\nslots 4,[h2=2]\npe_list e\n"
    ++ codes "@0 ann staff\nqsub -pe e 3-7 x\n"
    ++ codes "@0 root root\nsched\n")
    ≡ codes "0 1\ndone\n"
    ++ codes "0 1\ndone\n"
    ++ codes "0 1\ndone\n"
    ++ codes "0 1\ndone\n"
    ++ codes "0 1\ndone\n"
    ++ codes "0 1\nYour job 1 (\"x\") has been submitted\n"
    ++ codes "0 1\nstart 1 1.1 p@h1=2,p@h2=2\n"
unfolding written_for
two_on_each_host = refl

-- allocation_rule $round_robin, and 3 slots asked for
round_robin_of_three : written_for (
    codes "@0 root root\nqconf -dq all.q\n"
    ++ codes "@0 root root\nqconf -Ae\nhostname h1\n"
    ++ codes "@0 root root\nqconf -Ae\nhostname h2\n"
    ++ codes "@0 root root\nqconf -Ap\npe_name e\nslots 100\nallocation_rule $round_robin\n"
    ++ codes "@0 root root\nqconf -Aq\nqname p\nhostlist h1 h2\nslots 4,[h2=2]\npe_list e\n"
    ++ codes "@0 ann staff\nqsub -pe e 3 x\n"
    ++ codes "@0 root root\nsched\n")
    ≡ codes "0 1\ndone\n"
    ++ codes "0 1\ndone\n"
    ++ codes "0 1\ndone\n"
    ++ codes "0 1\ndone\n"
    ++ codes "0 1\ndone\n"
    ++ codes "0 1\nYour job 1 (\"x\") has been submitted\n"
    ++ codes "0 1\nstart 1 1.1 p@h1=2,p@h2=1\n"
unfolding written_for
round_robin_of_three = refl

-- allocation_rule $fill_up, and 3 slots asked for
fill_up_of_three : written_for (
    codes "@0 root root\nqconf -dq all.q\n"
    ++ codes "@0 root root\nqconf -Ae\nhostname h1\n"
    ++ codes "@0 root root\nqconf -Ae\nhostname h2\n"
    ++ codes "@0 root root\nqconf -Ap\npe_name e\nslots 100\nallocation_rule $fill_up\n"
    ++ codes "@0 root root\nqconf -Aq\nqname p\nhostlist h1 h2\nslots 4,[h2=2]\npe_list e\n"
    ++ codes "@0 ann staff\nqsub -pe e 3 x\n"
    ++ codes "@0 root root\nsched\n")
    ≡ codes "0 1\ndone\n"
    ++ codes "0 1\ndone\n"
    ++ codes "0 1\ndone\n"
    ++ codes "0 1\ndone\n"
    ++ codes "0 1\ndone\n"
    ++ codes "0 1\nYour job 1 (\"x\") has been submitted\n"
    ++ codes "0 1\nstart 1 1.1 p@h1=3\n"
unfolding written_for
fill_up_of_three = refl

-- a parallel job that can not be placed beside the quota of a host that is free starts once that host is taken
less_room_places_more : written_for (
    codes "@0 root root\nqconf -dq all.q\n"
    ++ codes "@0 root root\nqconf -Ae\nhostname h1\n"
    ++ codes "@0 root root\nqconf -Ae\nhostname h2\n"
    ++ codes "@0 root root\nqconf -Ae\nhostname h3\n"
    ++ codes "@0 root root\nqconf -Ap\npe_name fu\nslots 100\nallocation_rule $fill_up\n"
    ++ codes "@0 root root\nqconf -Aq\nqname p\nhostlist h1 h2 h3\nslots 1\npe_list fu\n"
    ++ codes "@0 root root\nqconf -Arqs\n{\nname x\nenabled TRUE\nlimit users ann hosts h1,h2 to slots=1\n}\n"
    ++ codes "@0 root root\nqconf -Arqs\n{\nname y\nenabled TRUE\nlimit users ann hosts h1,h3 to slots=1\n}\n"
    ++ codes "@0 bob staff\nqsub -q p@h1 x\n"
    ++ codes "@0 ann staff\nqsub -pe fu 2 x\n"
    ++ codes "@0 root root\nsched\n"
    ++ codes "@1 root root\nsched\n")
    ≡ codes "0 1\ndone\n"
    ++ codes "0 1\ndone\n"
    ++ codes "0 1\ndone\n"
    ++ codes "0 1\ndone\n"
    ++ codes "0 1\ndone\n"
    ++ codes "0 1\ndone\n"
    ++ codes "0 1\ndone\n"
    ++ codes "0 1\ndone\n"
    ++ codes "0 1\nYour job 1 (\"x\") has been submitted\n"
    ++ codes "0 1\nYour job 2 (\"x\") has been submitted\n"
    ++ codes "0 1\nstart 1 1.1 p@h1=1\n"
    ++ codes "0 1\nstart 2 2.1 p@h2=1,p@h3=1\n"
unfolding written_for
less_room_places_more = refl

-- a task is placed over what is booked by then, also where one like it could not be placed before
each_task_is_tried : written_for (
    codes "@0 root root\nqconf -dq all.q\n"
    ++ codes "@0 root root\nqconf -Ae\nhostname h1\n"
    ++ codes "@0 root root\nqconf -Ae\nhostname h2\n"
    ++ codes "@0 root root\nqconf -Ae\nhostname h3\n"
    ++ codes "@0 root root\nqconf -Ap\npe_name fu\nslots 100\nallocation_rule $fill_up\n"
    ++ codes "@0 root root\nqconf -Aq\nqname p\nhostlist h1 h2 h3\nslots 1\npe_list fu\n"
    ++ codes "@0 root root\nqconf -Arqs\n{\nname x\nenabled TRUE\nlimit users ann hosts h1,h2 to slots=1\n}\n"
    ++ codes "@0 root root\nqconf -Arqs\n{\nname y\nenabled TRUE\nlimit users ann hosts h1,h3 to slots=1\n}\n"
    ++ codes "@0 bob staff\nqsub -q p@h1 x\n"
    ++ codes "@0 ann staff\nqsub -pe fu 2 x\n"
    ++ codes "@0 ann staff\nqsub -pe fu 2 -p -1000 x\n"
    ++ codes "@0 root root\nsched\n")
    ≡ codes "0 1\ndone\n"
    ++ codes "0 1\ndone\n"
    ++ codes "0 1\ndone\n"
    ++ codes "0 1\ndone\n"
    ++ codes "0 1\ndone\n"
    ++ codes "0 1\ndone\n"
    ++ codes "0 1\ndone\n"
    ++ codes "0 1\ndone\n"
    ++ codes "0 1\nYour job 1 (\"x\") has been submitted\n"
    ++ codes "0 1\nYour job 2 (\"x\") has been submitted\n"
    ++ codes "0 1\nYour job 3 (\"x\") has been submitted\n"
    ++ codes "0 2\nstart 1 1.1 p@h1=1\nstart 2 3.1 p@h2=1,p@h3=1\n"
unfolding written_for
each_task_is_tried = refl
