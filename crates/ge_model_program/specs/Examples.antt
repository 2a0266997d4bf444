-- Areas worked out by hand, each a theorem by computation.
use Rattle.std.specs.Prelude.{◌≡◌, [], ◌∷◌, Ok, Err, refl}
use Rattle.ge_model_rows.specs.ClusterRows.{opening_cluster}
use Rattle.ge_model_rows.specs.EntryRows.{Change}
use Rattle.ge_model_jobs.specs.Applying.{after_entry}
use Rattle.ge_model_journal.specs.Area.{head, records_from}
use Rattle.ge_model_journal.specs.Journal.{meaning}
use Rattle.ge_model_program.specs.StandsFor.{held, stands_for}
use Rattle.ge_model_program.specs.declared.Wrong.TheVariants.{Frame, Bad}

-- no area is open
nothing : stands_for [] [] ≡ Ok opening_cluster
unfolding meaning head held
nothing = refl

-- a format of 3
wrong_format : stands_for (1 ∷ 3 ∷ 0 ∷ 0 ∷ 0 ∷ 0 ∷ 0 ∷ 0 ∷ 0 ∷ 1 ∷ 0 ∷ 0 ∷ 0 ∷ 0 ∷ 0 ∷ 0 ∷ 0 ∷ 0 ∷ 0 ∷ []) [] ≡ Err (Frame 0 1)
unfolding meaning head held
wrong_format = refl

-- a record of one byte, which is no entry: its first byte is blamed
short_entry : stands_for (1 ∷ 1 ∷ 0 ∷ 0 ∷ 0 ∷ 0 ∷ 0 ∷ 0 ∷ 0 ∷ 1 ∷ 0 ∷ 0 ∷ 0 ∷ 0 ∷ 0 ∷ 0 ∷ 0 ∷ 0 ∷ 1 ∷ 0 ∷ 0 ∷ 0 ∷ 1 ∷ 0 ∷ 0 ∷ []) [] ≡ Err (Bad 0 23)
unfolding meaning head records_from held
short_entry = refl

-- a snapshot of one byte, which is no cluster
short_snapshot : stands_for [] (1 ∷ 2 ∷ 0 ∷ 0 ∷ 0 ∷ 0 ∷ 0 ∷ 0 ∷ 0 ∷ 2 ∷ 0 ∷ 0 ∷ 0 ∷ 0 ∷ 0 ∷ 0 ∷ 0 ∷ 1 ∷ 7 ∷ 0 ∷ []) ≡ Err (Bad 1 18)
unfolding meaning head records_from held
short_snapshot = refl

-- a record of format 1 with one entry, which holds no job
no_holds : stands_for (1 ∷ 1 ∷ 0 ∷ 0 ∷ 0 ∷ 0 ∷ 0 ∷ 0 ∷ 0 ∷ 1 ∷ 0 ∷ 0 ∷ 0 ∷ 0 ∷ 0 ∷ 0 ∷ 0 ∷ 0 ∷ 1 ∷ 0 ∷ 0 ∷ 0 ∷ 18 ∷ 0 ∷ 0 ∷ 0 ∷ 0 ∷ 0 ∷ 0 ∷ 0 ∷ 0 ∷ 2 ∷ 0 ∷ 0 ∷ 0 ∷ 0 ∷ 0 ∷ 0 ∷ 0 ∷ 0 ∷ 0 ∷ 0 ∷ []) [] ≡ Ok (after_entry opening_cluster (record { moment = 0; change = Change.Hold [] 0 }))
unfolding meaning head records_from held
no_holds = refl
