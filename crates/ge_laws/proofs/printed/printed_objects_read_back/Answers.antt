use Rattle.ge_laws.proofs.ReadAgain.{answered_again, listed_again, settings_again, complexes_again, host_again}
use Rattle.ge_laws.proofs.printed.printed_objects_read_back.Goals as goal

pub returns-clause-listed : goal.returns-clause-listed
returns-clause-listed c = listed_again

pub returns-clause-settings : goal.returns-clause-settings
returns-clause-settings c = settings_again

pub returns-clause-complexes : goal.returns-clause-complexes
returns-clause-complexes c = complexes_again

pub returns-clause-hosts : goal.returns-clause-hosts
returns-clause-hosts c = host_again

pub returns-clause-answered : goal.returns-clause-answered
returns-clause-answered c = answered_again
