-- Resource quotas.
use Rattle.std.specs.Prelude.{◌≡◌, ◌++◌, codes, refl}
use Rattle.ge_model_core.specs.Scripts.{written_for}

-- in braces each user has a slot of its own
quota_braces : written_for (
    codes "@0 root root\nqconf -Mq\nqname all.q\nhostlist local\nslots 4\n"
    ++ codes "@0 root root\nqconf -Arqs\n{\nname r\nenabled TRUE\nlimit users {*} to slots=1\n}\n"
    ++ codes "@0 ann staff\nqsub x\n"
    ++ codes "@0 ann staff\nqsub x\n"
    ++ codes "@0 ann staff\nqsub x\n"
    ++ codes "@0 bob staff\nqsub x\n"
    ++ codes "@0 bob staff\nqsub x\n"
    ++ codes "@0 root root\nsched\n")
    ≡ codes "0 1\ndone\n"
    ++ codes "0 1\ndone\n"
    ++ codes "0 1\nYour job 1 (\"x\") has been submitted\n"
    ++ codes "0 1\nYour job 2 (\"x\") has been submitted\n"
    ++ codes "0 1\nYour job 3 (\"x\") has been submitted\n"
    ++ codes "0 1\nYour job 4 (\"x\") has been submitted\n"
    ++ codes "0 1\nYour job 5 (\"x\") has been submitted\n"
    ++ codes "0 2\nstart 1 1.1 all.q@local=1\nstart 2 4.1 all.q@local=1\n"
unfolding written_for
quota_braces = refl

-- without braces all users share one slot
quota_without_braces : written_for (
    codes "@0 root root\nqconf -Mq\nqname all.q\nhostlist local\nslots 4\n"
    ++ codes "@0 root root\nqconf -Arqs\n{\nname r\nenabled TRUE\nlimit users * to slots=1\n}\n"
    ++ codes "@0 ann staff\nqsub x\n"
    ++ codes "@0 ann staff\nqsub x\n"
    ++ codes "@0 ann staff\nqsub x\n"
    ++ codes "@0 bob staff\nqsub x\n"
    ++ codes "@0 bob staff\nqsub x\n"
    ++ codes "@0 root root\nsched\n")
    ≡ codes "0 1\ndone\n"
    ++ codes "0 1\ndone\n"
    ++ codes "0 1\nYour job 1 (\"x\") has been submitted\n"
    ++ codes "0 1\nYour job 2 (\"x\") has been submitted\n"
    ++ codes "0 1\nYour job 3 (\"x\") has been submitted\n"
    ++ codes "0 1\nYour job 4 (\"x\") has been submitted\n"
    ++ codes "0 1\nYour job 5 (\"x\") has been submitted\n"
    ++ codes "0 1\nstart 1 1.1 all.q@local=1\n"
unfolding written_for
quota_without_braces = refl

-- only the first rule that matches counts
quota_first_match : written_for (
    codes "@0 root root\nqconf -Mq\nqname all.q\nhostlist local\nslots 4\n"
    ++ codes "@0 root root\nqconf -Arqs\n{\nname r\nenabled TRUE\nlimit users !ann to slots=1\nlimit users * to slots=2\n}\n"
    ++ codes "@0 ann staff\nqsub x\n"
    ++ codes "@0 ann staff\nqsub x\n"
    ++ codes "@0 ann staff\nqsub x\n"
    ++ codes "@0 bob staff\nqsub x\n"
    ++ codes "@0 bob staff\nqsub x\n"
    ++ codes "@0 root root\nsched\n")
    ≡ codes "0 1\ndone\n"
    ++ codes "0 1\ndone\n"
    ++ codes "0 1\nYour job 1 (\"x\") has been submitted\n"
    ++ codes "0 1\nYour job 2 (\"x\") has been submitted\n"
    ++ codes "0 1\nYour job 3 (\"x\") has been submitted\n"
    ++ codes "0 1\nYour job 4 (\"x\") has been submitted\n"
    ++ codes "0 1\nYour job 5 (\"x\") has been submitted\n"
    ++ codes "0 3\nstart 1 1.1 all.q@local=1\nstart 2 2.1 all.q@local=1\nstart 3 4.1 all.q@local=1\n"
unfolding written_for
quota_first_match = refl
