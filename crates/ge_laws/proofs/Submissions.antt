-- Jobs that are submitted, and requests that are refused.
use Rattle.std.specs.Prelude.{◌≡◌, [], codes, refl}
use Rattle.ge_model_core.specs.Scripts.{written_for}

-- nothing is answered to no request
no_request : written_for [] ≡ []
unfolding written_for
no_request = refl

two_jobs : written_for (codes "@10 ann staff\nqsub -N one sleep 60\n@11 ann staff\nqsub -N two x\n")
    ≡ codes "0 1\nYour job 1 (\"one\") has been submitted\n0 1\nYour job 2 (\"two\") has been submitted\n"
unfolding written_for
two_jobs = refl

bad_header_and_no_name : written_for (codes "@x ann staff\nqsub -N one x\n@10 ann staff\nqsub -N\n") ≡ codes "11 1\nsyntax error\n11 1\nsyntax error\n"
unfolding written_for
bad_header_and_no_name = refl

two_blanks_in_a_header : written_for (codes "@10  ann staff\nqsub -N one x\n") ≡ codes "11 1\nsyntax error\n"
unfolding written_for
two_blanks_in_a_header = refl

refused_between : written_for (codes "@10 ann staff\nqsub -N a x\n@10 bob staff\nqsub -N 1a x\n@10 cy lab\nqsub -N b y z")
    ≡ codes "0 1\nYour job 1 (\"a\") has been submitted\n11 1\nsyntax error\n0 1\nYour job 2 (\"b\") has been submitted\n"
unfolding written_for
refused_between = refl
