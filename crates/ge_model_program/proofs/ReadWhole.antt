-- What a run says of its whole input: it was read to its end where no trace of its events stops the master, and it has as many
-- bytes as a script may have where the end did not come.
use Rattle.std.proofs.Common.{◌≡◌, ℕ, ◌<◌, ◌≤◌, inl, Bool, false, List, length, Option, Some, None, refl, ap, arith}
use Rattle.ge_limits.specs.Limits as limit
use Rattle.ge_model_rows.specs.ClusterRows.{opening_cluster}
use Rattle.ge_model_grammar.specs.Events.{events_of}
use Rattle.ge_model_grammar.specs.Sources.{IsReadToEnd}
use Rattle.ge_model_program.specs.Simulating.{Simulates, IfRead, is_stopped}

abbrev NeverStops : List ℕ → Type 0
NeverStops script = (marks : List Bool) → length marks ≡ length (events_of script) → is_stopped opening_cluster (events_of script) marks ≡ false

pub read-to-end : (script : List ℕ) (rest old new : Option (List ℕ)) (reads_before reads_after writes_before writes_after : ℕ)
    → Simulates 0 (Some script) rest reads_before reads_after old new writes_before writes_after → NeverStops script → IsReadToEnd rest
read-to-end script rest old new reads_before reads_after writes_before writes_after run never =
    let wrote = run.ended refl in wrote.3 (never wrote.0 wrote.1)

-- a source that told nothing before tells nothing after
pub untold-to-end : (rest old new : Option (List ℕ)) (reads_before reads_after writes_before writes_after : ℕ)
    → Simulates 0 None rest reads_before reads_after old new writes_before writes_after → IsReadToEnd rest
untold-to-end None old new reads_before reads_after writes_before writes_after run = tt
untold-to-end (Some rest) old new reads_before reads_after writes_before writes_after run = absurd (run.below (inl refl))

below-whole : (script : List ℕ) (rest : Option (List ℕ)) → IsReadToEnd rest → IfRead (Some script) rest (λ n. n < limit.script_bytes) → length script < limit.script_bytes
below-whole script None ended below = absurd below
below-whole script (Some rest) ended below = omega (arith, ap length ended)

pub read-below : (script : List ℕ) (rest old new : Option (List ℕ)) (reads_before reads_after writes_before writes_after : ℕ)
    → Simulates 0 (Some script) rest reads_before reads_after old new writes_before writes_after → NeverStops script → length script < limit.script_bytes
read-below script rest old new reads_before reads_after writes_before writes_after run never =
    below-whole script rest (read-to-end script rest old new reads_before reads_after writes_before writes_after run never) (run.below (inl refl))

long-by : (script : List ℕ) (rest : Option (List ℕ)) → IfRead (Some script) rest (λ n. limit.script_bytes ≤ n) → limit.script_bytes ≤ length script
long-by script None long = absurd long
long-by script (Some rest) long = omega arith

pub long-whole : (script : List ℕ) (rest old new : Option (List ℕ)) (reads_before reads_after writes_before writes_after : ℕ)
    → Simulates 3 (Some script) rest reads_before reads_after old new writes_before writes_after → limit.script_bytes ≤ length script
long-whole script rest old new reads_before reads_after writes_before writes_after run = long-by script rest (run.long refl)
