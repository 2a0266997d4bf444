-- What is told of an end, in the words of the definitions.
use Rattle.ge_model_jobs.specs.Accounts.{Report}
use Rattle.ge_applying.specs.declared.accounts.Told.{Told}

abbrev pub report_of : Told → Report
report_of told = record { failed = told.failure; exit = told.status; cpu = told.time; mem = told.memory; io = told.transfer }
