-- What a journal keeps of how it keeps batches.
use Rattle.ge_model_program.specs.Keeping.{Ledger}
use Rattle.ge_spool.specs.Settled.{format_of, generation_of, record_count, end_of}
use Rattle.ge_spool.specs.declared.spool.Spool.{Spool}

abbrev pub ledger_of : Spool → Ledger
ledger_of s = record { format = format_of s; generation = generation_of s; count = record_count s; end = end_of s }
