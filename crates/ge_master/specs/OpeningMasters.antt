-- What opening a master answers and leaves.
use Rattle.std.specs.Prelude.{Result}
use Rattle.ge_model_program.specs.StandsFor.{held}
use Rattle.ge_model_program.specs.declared.Wrong.TheVariants.{Frame, Bad}
use Rattle.ge_spool.specs.declared.faults.OpenFault.{OpenFault}
use Rattle.ge_keeping.specs.Opening.{Opens}
use Rattle.ge_master.specs.Areas.{Areas}
use Rattle.ge_master.specs.Masters.{spool_of, cluster_of}
use Rattle.ge_master.specs.declared.master.Master.{Master}

-- What opening a master comes to: it is at home with the cluster that the areas stood for, or the first of what is wrong in them is told.
abbrev pub OpensMaster : Result Master OpenFault → Areas → Areas → Type 0
OpensMaster result before after = Opens Frame Bad held spool_of cluster_of result before after
