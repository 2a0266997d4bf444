-- Host groups and what a queue has at their hosts.
use Rattle.std.specs.Prelude.{◌≡◌, ◌++◌, codes, refl}
use Rattle.ge_model_core.specs.Scripts.{written_for}

-- a host wins over groups, and the first group over later ones; a group can not have itself
overrides_by_host_and_group : written_for (
    codes "@0 root root\nqconf -Ae\nhostname h1\n"
    ++ codes "@0 root root\nqconf -Ae\nhostname h2\n"
    ++ codes "@0 root root\nqconf -Ae\nhostname h3\n"
    ++ codes "@0 root root\nqconf -Ahgrp\ngroup_name @a\nhostlist h1 h2\n"
    ++ codes "@0 root root\nqconf -Ahgrp\ngroup_name @b\nhostlist h1 h2\n"
    ++ codes "@0 root root\nqconf -Aq\nqname q\nhostlist h1 h2 h3\nslots 1,[@a=2],[@b=3],[h1=4]\n"
    ++ codes "@0 root root\nqstat -f\n"
    ++ codes "@0 root root\nqconf -Mhgrp\ngroup_name @a\nhostlist @a\n"
    ++ codes "@0 root root\nqconf -Ahgrp\ngroup_name @c\nhostlist @c\n")
    ≡ codes "0 1\ndone\n"
    ++ codes "0 1\ndone\n"
    ++ codes "0 1\ndone\n"
    ++ codes "0 1\ndone\n"
    ++ codes "0 1\ndone\n"
    ++ codes "0 1\ndone\n"
    ++ codes "0 4\nall.q@local 0/2 - -\nq@h1 0/4 - -\nq@h2 0/2 - -\nq@h3 0/1 - -\n"
    ++ codes "20 1\ncycle\n"
    ++ codes "14 1\nno such object\n"
unfolding written_for
overrides_by_host_and_group = refl
