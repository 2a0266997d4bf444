-- The scripts of small numbers, byte for byte as an independent program writes them.
use Rattle.std.specs.Prelude.{◌≡◌, [], ◌∷◌, ◌++◌, codes, refl}
use Rattle.std.specs.Fmt.{digits}
use Rattle.ge_model_grammar.specs.Generated.{submit_request, run_request, end_request, generated_requests, generated_script}

of_none : generated_script 0
    ≡ codes "@0 root root\nqconf -Ae\nhostname g0\n"
    ++ codes "@0 root root\nqconf -Ae\nhostname g1\n"
    ++ codes "@0 root root\nqconf -Ae\nhostname g2\n"
    ++ codes "@0 root root\nqconf -Ae\nhostname g3\n"
    ++ codes "@0 root root\nqconf -Ae\nhostname g4\n"
    ++ codes "@0 root root\nqconf -Ae\nhostname g5\n"
    ++ codes "@0 root root\nqconf -Ae\nhostname g6\n"
    ++ codes "@0 root root\nqconf -Ae\nhostname g7\n"
    ++ codes "@0 root root\nqconf -Aq\nqname gen.q\nhostlist g0 g1 g2 g3 g4 g5 g6 g7\nslots 4\n"
    ++ codes "@0 root root\nqconf -Msconf\nmax_reservation 4\n"
unfolding generated_requests
of_none = refl

of_four : generated_script 4
    ≡ codes "@0 root root\nqconf -Ae\nhostname g0\n"
    ++ codes "@0 root root\nqconf -Ae\nhostname g1\n"
    ++ codes "@0 root root\nqconf -Ae\nhostname g2\n"
    ++ codes "@0 root root\nqconf -Ae\nhostname g3\n"
    ++ codes "@0 root root\nqconf -Ae\nhostname g4\n"
    ++ codes "@0 root root\nqconf -Ae\nhostname g5\n"
    ++ codes "@0 root root\nqconf -Ae\nhostname g6\n"
    ++ codes "@0 root root\nqconf -Ae\nhostname g7\n"
    ++ codes "@0 root root\nqconf -Aq\nqname gen.q\nhostlist g0 g1 g2 g3 g4 g5 g6 g7\nslots 4\n"
    ++ codes "@0 root root\nqconf -Msconf\nmax_reservation 4\n"
    ++ codes "@10 u2 gen\nqsub -N g1 -l h_rt=420 -R n work\n"
    ++ codes "@20 u1 gen\nqsub -N g2 -l h_rt=480 -R y work\n"
    ++ codes "@20 root root\nend 1 0 38 0 0\n"
    ++ codes "@30 u1 gen\nqsub -N g3 -l h_rt=180 -R n work\n"
    ++ codes "@40 u1 gen\nqsub -N g4 -l h_rt=120 -R n work\n"
    ++ codes "@40 root root\nsched\n"
    ++ codes "@40 root root\nend 2 0 67 0 0\n"
unfolding generated_requests submit_request run_request end_request digits
of_four = refl
