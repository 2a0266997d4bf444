use Rattle.ge_laws.proofs.ReadAgain.{listed_shown, settings_shown, complexes_shown, host_shown}
use Rattle.ge_laws.proofs.printed.shown_objects_are_taken_again.Goals as goal

pub returns-clause-listed : goal.returns-clause-listed
returns-clause-listed c = listed_shown

pub returns-clause-settings : goal.returns-clause-settings
returns-clause-settings c = settings_shown

pub returns-clause-complexes : goal.returns-clause-complexes
returns-clause-complexes c = complexes_shown

pub returns-clause-hosts : goal.returns-clause-hosts
returns-clause-hosts c = host_shown
