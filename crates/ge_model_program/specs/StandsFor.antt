-- What two areas stand for as a cluster.
use Rattle.std.specs.Prelude.{ℕ, ◌==◌, if◌then◌else◌, Bool, List, Option, Result}
use Rattle.ge_model_rows.specs.ClusterRows.{Cluster, opening_cluster}
use Rattle.ge_model_rows.specs.EntryRows.{Entry}
use Rattle.ge_model_codec.specs.Code.{Code}
use Rattle.ge_model_codec.specs.Cluster.{cluster_code, cluster_code_1}
use Rattle.ge_model_codec.specs.Entries.{entry_code, entry_code_1}
use Rattle.ge_model_codec.specs.Reading.{Reading}
use Rattle.ge_model_jobs.specs.Applying.{after_entry}
use Rattle.ge_model_journal.specs.Journal.{State}
use Rattle.ge_model_keeping.specs.Standing as standing
use Rattle.ge_model_program.specs.declared.Wrong.{Wrong}
use Rattle.ge_model_program.specs.declared.Wrong.TheVariants.{Frame, Bad}
use Rattle.ge_model_program.specs.Reading.{after_from, after_record, in_snapshot, held_in}

-- how an area of a format writes a cluster, and an entry
abbrev pub snapshot_code : ℕ → Code Cluster
snapshot_code format = if format == 1 then cluster_code_1 else cluster_code

abbrev pub body_code : ℕ → Code Entry
body_code format = if format == 1 then entry_code_1 else entry_code

-- the bytes that are written for an entry and for a cluster
unfoldable pub entry_bytes : Entry → List ℕ
entry_bytes e = entry_code.write e

unfoldable pub cluster_bytes : Cluster → List ℕ
cluster_bytes c = cluster_code.write c

-- whether such bytes can hold it
unfoldable pub entry_fits : Entry → Bool
entry_fits e = entry_code.fits e

unfoldable pub cluster_fits : Cluster → Bool
cluster_fits c = cluster_code.fits c

-- what is read of an entry at a place, in an area of a format
unfoldable pub entry_reading : ℕ → List ℕ → ℕ → Reading Entry
entry_reading format bytes at = (body_code format).read bytes at

-- the cluster after the entries from a place on, in so many steps at most
unfoldable pub cluster_from : ℕ → ℕ → List ℕ → ℕ → Cluster → Option Cluster
cluster_from format steps bytes at c =
    after_from (snapshot_code format) (body_code format) after_entry opening_cluster steps bytes at c

-- the cluster after the entries of a record, if they can be read
unfoldable pub cluster_after_record : ℕ → Cluster → List ℕ → Option Cluster
cluster_after_record format c bytes =
    after_record (snapshot_code format) (body_code format) after_entry opening_cluster c bytes

-- the cluster of a snapshot, or its place
unfoldable pub cluster_in_snapshot : ℕ → List ℕ → Result Cluster ℕ
cluster_in_snapshot format bytes =
    in_snapshot (snapshot_code format) (body_code format) after_entry opening_cluster bytes

-- The cluster that a snapshot with its records stands for, each read in the area's format and the entries applied in order; or the
-- place of the first byte of the snapshot or record that can't be read.
unfoldable pub held : State → Result Cluster ℕ
held s = held_in (snapshot_code s.format) (body_code s.format) after_entry opening_cluster s

-- what two areas stand for, or the first of what is wrong: headers and lists before bodies, and each by its place
abbrev pub stands_for : List ℕ → List ℕ → Result Cluster Wrong
stands_for a b = standing.stands_for Frame Bad held a b

-- two areas stand for the one cluster or for the other
abbrev pub StandsForOneOf : Cluster → Cluster → List ℕ → List ℕ → Type 0
StandsForOneOf before later a b = standing.StandsForOneOf Frame Bad held before later a b
