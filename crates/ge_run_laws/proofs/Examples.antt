-- What was written for two events, up to a byte of the second reply, worked out by hand.
use Rattle.std.specs.Prelude.{true, false, [], ◌∷◌, Some, None, refl}
use Rattle.std.specs.Fmt.{digits}
use Rattle.ge_model_rows.specs.ClusterRows.{Cluster}
use Rattle.ge_model_rows.specs.EventRows.{Event, Planned}
use Rattle.ge_model_core.specs.Render.{rendered}
use Rattle.ge_model_program.specs.Traced.{traced}
use Rattle.ge_model_program.specs.Runs.{written_of}
use Rattle.ge_run_laws.specs.Standing.{WroteWhole}

-- each event is answered with no lines and changes nothing
abbrev plain : Cluster → Event → Planned
plain c e = record { entry = None; reply = record { code = 0; lines = [] }; stop = false }

first-whole : (c : Cluster) (e : Event) → WroteWhole (Some []) (Some (48 ∷ 32 ∷ 48 ∷ 10 ∷ 48 ∷ 32 ∷ 48 ∷ [])) (written_of (traced plain c (e ∷ e ∷ []) (true ∷ [])))
unfolding rendered digits
first-whole c e = record { before = []; later = 48 ∷ 32 ∷ 48 ∷ []; old_is = refl; new_is = refl }
