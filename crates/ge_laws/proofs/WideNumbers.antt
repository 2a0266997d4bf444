-- Numbers are cut at 2^128 - 1 where they are read, and refused by what they mean.
use Rattle.std.specs.Prelude.{◌≡◌, ◌++◌, codes, refl}
use Rattle.ge_model_core.specs.Scripts.{written_for}

-- both ends of a range are the same greatest number, and no task has it; such a job isn't there either
past_the_greatest : written_for (
    codes "@0 ann staff\nqsub -t 340282366920938463463374607431768211457-340282366920938463463374607431768211456 x\n"
    ++ codes "@0 ann staff\nqsub x\n"
    ++ codes "@0 ann staff\nqdel 1.340282366920938463463374607431768211457-340282366920938463463374607431768211456\n"
    ++ codes "@0 ann staff\nqdel 340282366920938463463374607431768211456\n"
    ++ codes "@0 ann staff\nqsub -hold_jid 340282366920938463463374607431768211456 x\n"
    ++ codes "@0 ann staff\nqsub -js 340282366920938463463374607431768211456 x\n"
    ++ codes "@0 ann staff\nqrsub -e 340282366920938463463374607431768211456\n"
    ++ codes "@0 ann staff\nqsub -ar 340282366920938463463374607431768211456 x\n")
    ≡ codes "21 1\nlimit reached\n0 1\nYour job 1 (\"x\") has been submitted\n14 1\nno such object\n14 1\nno such object\n"
    ++ codes "14 1\nno such object\n18 1\nbad value\n18 1\nbad value\n14 1\nno such object\n"
unfolding written_for
past_the_greatest = refl
