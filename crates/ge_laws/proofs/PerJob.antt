-- Consumables that count once for each job.
use Rattle.std.specs.Prelude.{◌≡◌, ◌++◌, codes, refl}
use Rattle.ge_model_core.specs.Scripts.{written_for}

-- one licence for the whole site: a job with three slots takes it once, and the next one waits
a_licence_for_a_job : written_for (
    codes "@0 root root\nqconf -Ac\nlic lic INT <= YES JOB 0 0\n"
    ++ codes "@0 root root\nqconf -Me\nhostname global\ncomplex_values lic=1\n"
    ++ codes "@0 root root\nqconf -Ap\npe_name smp\nslots 100\nallocation_rule $pe_slots\n"
    ++ codes "@0 root root\nqconf -Mq\nqname all.q\nhostlist local\nslots 4\npe_list smp\n"
    ++ codes "@0 ann staff\nqsub -N a -pe smp 3 -l lic=1 x\n"
    ++ codes "@0 ann staff\nqsub -N b -l lic=1 x\n"
    ++ codes "@0 root root\nsched\n")
    ≡ codes "0 1\ndone\n0 1\ndone\n0 1\ndone\n0 1\ndone\n"
    ++ codes "0 1\nYour job 1 (\"a\") has been submitted\n"
    ++ codes "0 1\nYour job 2 (\"b\") has been submitted\n"
    ++ codes "0 1\nstart 1 1.1 all.q@local=3\n"
unfolding written_for
a_licence_for_a_job = refl

-- one that counts for each slot is too little for three
a_licence_for_a_slot : written_for (
    codes "@0 root root\nqconf -Ac\nlic lic INT <= YES YES 0 0\n"
    ++ codes "@0 root root\nqconf -Me\nhostname global\ncomplex_values lic=1\n"
    ++ codes "@0 root root\nqconf -Ap\npe_name smp\nslots 100\nallocation_rule $pe_slots\n"
    ++ codes "@0 root root\nqconf -Mq\nqname all.q\nhostlist local\nslots 4\npe_list smp\n"
    ++ codes "@0 ann staff\nqsub -N a -pe smp 3 -l lic=1 x\n"
    ++ codes "@0 ann staff\nqsub -N b -l lic=1 x\n"
    ++ codes "@0 root root\nsched\n")
    ≡ codes "0 1\ndone\n0 1\ndone\n0 1\ndone\n0 1\ndone\n"
    ++ codes "0 1\nYour job 1 (\"a\") has been submitted\n"
    ++ codes "0 1\nYour job 2 (\"b\") has been submitted\n"
    ++ codes "0 1\nstart 1 2.1 all.q@local=1\n"
unfolding written_for
a_licence_for_a_slot = refl

-- JOB in any case and by its first letter; slots never have it, and what a rule names stays a consumable
words_of_the_column : written_for (
    codes "@0 root root\nqconf -Ac\nlic lic INT <= YES job 0 0\n"
    ++ codes "@0 root root\nqconf -Ac\nlic lic INT <= YES J 0 0\n"
    ++ codes "@0 root root\nqconf -Ac\nslots s INT <= YES JOB 1 1000\n"
    ++ codes "@0 root root\nqconf -Ac\nver v INT >= YES JOB 0 0\n"
    ++ codes "@0 root root\nqconf -Arqs\n{\nname q\nenabled TRUE\nlimit users ann to lic=1\n}\n"
    ++ codes "@0 root root\nqconf -Ac\nlic lic INT <= YES NO 0 0\n"
    ++ codes "@0 root root\nqconf -Ac\nlic lic INT <= YES YES 0 0\n"
    ++ codes "@0 root root\nqconf -Ac\nlic lic INT <= YES JOB 0 0\n")
    ≡ codes "0 1\ndone\n0 1\ndone\n18 1\nbad value\n18 1\nbad value\n0 1\ndone\n17 1\nin use\n0 1\ndone\n0 1\ndone\n"
unfolding written_for
words_of_the_column = refl
