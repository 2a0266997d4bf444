-- What jobs ask for: complexes, and what hosts and queues have of them.
use Rattle.std.specs.Prelude.{◌≡◌, ◌++◌, codes, refl}
use Rattle.ge_model_core.specs.Scripts.{written_for}

-- 4 is not at least 5, and no level has an arch
resources_asked_for : written_for (
    codes "@0 root root\nqconf -Ac\nver v INT >= YES NO 0 0\n"
    ++ codes "@0 root root\nqconf -Me\nhostname local\ncomplex_values ver=5\n"
    ++ codes "@0 ann staff\nqsub -N a -l ver=5 x\n"
    ++ codes "@0 ann staff\nqsub -N b -l v=4 x\n"
    ++ codes "@0 ann staff\nqsub -N c -l arch=lx x\n"
    ++ codes "@0 root root\nsched\n")
    ≡ codes "0 1\ndone\n"
    ++ codes "0 1\ndone\n"
    ++ codes "0 1\nYour job 1 (\"a\") has been submitted\n"
    ++ codes "0 1\nYour job 2 (\"b\") has been submitted\n"
    ++ codes "0 1\nYour job 3 (\"c\") has been submitted\n"
    ++ codes "0 1\nstart 1 1.1 all.q@local=1\n"
unfolding written_for
resources_asked_for = refl

-- a host with a forced attribute takes only jobs that ask for it
forced_attributes : written_for (
    codes "@0 root root\nqconf -Ac\ngpu gpu BOOL == FORCED NO 0 0\n"
    ++ codes "@0 root root\nqconf -Me\nhostname local\ncomplex_values gpu=TRUE\n"
    ++ codes "@0 ann staff\nqsub x\n"
    ++ codes "@0 ann staff\nqsub -l gpu x\n"
    ++ codes "@0 root root\nsched\n")
    ≡ codes "0 1\ndone\n"
    ++ codes "0 1\ndone\n"
    ++ codes "0 1\nYour job 1 (\"x\") has been submitted\n"
    ++ codes "0 1\nYour job 2 (\"x\") has been submitted\n"
    ++ codes "0 1\nstart 1 2.1 all.q@local=1\n"
unfolding written_for
forced_attributes = refl

-- a job that asks for 0 of a consumable fits beside one that takes all
a_request_of_nothing : written_for (
    codes "@0 root root\nqconf -Ac\nmem mem MEMORY <= YES YES 1G 0\n"
    ++ codes "@0 root root\nqconf -Me\nhostname local\ncomplex_values mem=1G\n"
    ++ codes "@0 ann staff\nqsub x\n"
    ++ codes "@0 ann staff\nqsub -l mem=0 x\n"
    ++ codes "@0 root root\nsched\n")
    ≡ codes "0 1\ndone\n"
    ++ codes "0 1\ndone\n"
    ++ codes "0 1\nYour job 1 (\"x\") has been submitted\n"
    ++ codes "0 1\nYour job 2 (\"x\") has been submitted\n"
    ++ codes "0 2\nstart 1 1.1 all.q@local=1\nstart 2 2.1 all.q@local=1\n"
unfolding written_for
a_request_of_nothing = refl

-- a job that says nothing takes the default
a_default_request : written_for (
    codes "@0 root root\nqconf -Ac\nmem mem MEMORY <= YES YES 1G 0\n"
    ++ codes "@0 root root\nqconf -Me\nhostname local\ncomplex_values mem=1G\n"
    ++ codes "@0 ann staff\nqsub x\n"
    ++ codes "@0 ann staff\nqsub x\n"
    ++ codes "@0 root root\nsched\n")
    ≡ codes "0 1\ndone\n"
    ++ codes "0 1\ndone\n"
    ++ codes "0 1\nYour job 1 (\"x\") has been submitted\n"
    ++ codes "0 1\nYour job 2 (\"x\") has been submitted\n"
    ++ codes "0 1\nstart 1 1.1 all.q@local=1\n"
unfolding written_for
a_default_request = refl

-- a load that no job asks for, a name that is no complex, and a text that is no time
requests_refused : written_for (
    codes "@0 ann staff\nqsub -N a -l load_avg=1 x\n"
    ++ codes "@0 ann staff\nqsub -N a -l nosuch=1 x\n"
    ++ codes "@0 ann staff\nqsub -N a -l h_rt=x x\n")
    ≡ codes "19 1\nnot requestable\n"
    ++ codes "14 1\nno such object\n"
    ++ codes "18 1\nbad value\n"
unfolding written_for
requests_refused = refl
