-- What is meant by at home.
use Rattle.std.proofs.Common.{ℕ, List, [], ◌∷◌, length, refl, inl, arith}
use Rattle.ge_model_journal.specs.Disk.{Content, IsImageNow, IsImageSince}
use Rattle.ge_model_program.specs.StandsFor.{held}
use Rattle.ge_model_program.specs.declared.Wrong.TheVariants.{Frame, Bad}
use Rattle.ge_keeping.proofs.Standing.{stays}
use Rattle.ge_master.specs.Areas.{Areas, StandsNow}
use Rattle.ge_master.specs.Homes.{Parts, IsHome}

since-now : (told : List Content) (image : List ℕ) → IsImageNow told image → IsImageSince (length told) told image
since-now [] image left = absurd left
since-now (now ∷ earlier) image left = (omega arith, inl left)

-- every pair of images now stands for the cluster
pub home-stands : (parts : Parts) (now : Areas) → IsHome parts now → StandsNow now parts.cluster
home-stands parts now home c d of_c of_d =
    stays Frame Bad held parts.spool parts.cluster now now home refl refl c d (since-now now.a c of_c) (since-now now.b d of_d)
