-- The cluster after jobs are submitted, altered, held and released: qsub, qalter, qhold, qrls.
use Rattle.std.specs.Prelude.{ℕ, ◌+◌, ◌-◌, ◌^◌, min, List, fold, bit_or, bit_and}
use Rattle.std.specs.BTreeMap.{is_at}
use Rattle.std.specs.Option.{unwrap_or}
use Rattle.std.specs.Ordering.{nat_cmp}
use Rattle.ge_collections.specs.Changed.{change_value}
use Rattle.ge_collections.specs.Keyed.{put_number}
use Rattle.ge_model_rows.specs.ClusterRows.{Cluster}
use Rattle.ge_model_rows.specs.EntryRows.{Patch}
use Rattle.ge_model_rows.specs.JobRows.{Job}

-- a job changed where it stands; one that isn't there changes nothing
abbrev pub change_job : (Job → Job) → List (ℕ × Job) → ℕ → List (ℕ × Job)
change_job change jobs number = change_value (is_at (nat_cmp number)) change jobs

-- the number after a job's, cut at the end of its type
abbrev pub number_after : ℕ → ℕ
number_after number = min (number + 1) (2 ^ 32 - 1)

-- a job stands under its number
abbrev pub submitted : List (ℕ × Job) → Job → List (ℕ × Job)
submitted jobs job = put_number jobs job.number job

-- a job is submitted, and the next job has the number after it
unfoldable pub with_job : Cluster → Job → Cluster
with_job c job = record c { jobs = submitted c.jobs job; next_job = number_after job.number }

-- a job with what a patch gives; the rest stays
abbrev pub patched : Patch → Job → Job
patched patch job = record job {
  name = unwrap_or patch.name job.name;
  request = unwrap_or patch.request job.request;
  priority = unwrap_or patch.priority job.priority;
  share = unwrap_or patch.share job.share;
  project = unwrap_or patch.project job.project;
  reserve = unwrap_or patch.reserve job.reserve;
  not_before = unwrap_or patch.not_before job.not_before;
  deadline = unwrap_or patch.deadline job.deadline;
  account = unwrap_or patch.account job.account;
  after = unwrap_or patch.after job.after;
  after_each = unwrap_or patch.after_each job.after_each;
  oticket = unwrap_or patch.oticket job.oticket;
}

-- one job of an alteration
abbrev pub alter_job : List (ℕ × Job) → ℕ × Patch → List (ℕ × Job)
alter_job jobs altered = change_job (patched altered.1) jobs altered.0

-- jobs are altered, one after the other
unfoldable pub with_altered : Cluster → List (ℕ × Patch) → Cluster
with_altered c altered = record c { jobs = fold alter_job c.jobs altered }

-- a job with these hold bits and no others, where it is there
abbrev pub with_hold : ℕ → Job → Job
with_hold bits job = record job { hold = bits }

abbrev pub hold_set : List (ℕ × Job) → ℕ → ℕ → List (ℕ × Job)
hold_set jobs number bits = change_job (with_hold bits) jobs number

-- a job with hold bits more, and without them
abbrev pub held : ℕ → Job → Job
held bits job = record job { hold = bit_or job.hold bits }

abbrev pub freed : ℕ → Job → Job
freed bits job = record job { hold = bit_and job.hold (2 ^ 8 - 1 - bits) }

-- jobs are held
unfoldable pub with_held : Cluster → List ℕ → ℕ → Cluster
with_held c numbers bits = record c { jobs = fold (change_job (held bits)) c.jobs numbers }

-- jobs are released
unfoldable pub with_freed : Cluster → List ℕ → ℕ → Cluster
with_freed c numbers bits = record c { jobs = fold (change_job (freed bits)) c.jobs numbers }
