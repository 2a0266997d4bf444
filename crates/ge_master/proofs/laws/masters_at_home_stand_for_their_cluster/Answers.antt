use Rattle.ge_master.proofs.AtHome.{home-stands}
use Rattle.ge_master.proofs.laws.masters_at_home_stand_for_their_cluster.Goals as goal

pub returns : goal.returns
returns c = home-stands
