-- The code of the whole cluster.
use Rattle.std.specs.Prelude.{ℕ, Bool, List, [], length, ◌==◌, ◌&&◌}
use Rattle.std.specs.Ordering.{nat_cmp, ordering_then}
use Rattle.std.specs.declared.cmp.Ordering.{Ordering}
use Rattle.ge_rows.specs.Keyed.{text_cmp}
use Rattle.ge_model_rows.specs.AccountRows.{Line}
use Rattle.ge_model_rows.specs.ClusterRows.{Cluster}
use Rattle.ge_model_rows.specs.HostRows.{HostRow}
use Rattle.ge_model_rows.specs.JobRows.{Job, Advance}
use Rattle.ge_model_rows.specs.PeRows.{PeRow}
use Rattle.ge_model_rows.specs.PeopleRows.{UserRow, ProjectRow, ShareNode}
use Rattle.ge_model_rows.specs.QueueRows.{QueueRow}
use Rattle.ge_model_rows.specs.QuotaRows.{QuotaRow}
use Rattle.ge_model_rows.specs.SettingRows.{Sched}
use Rattle.ge_model_rows.specs.ValueRows.{ComplexDef}
use Rattle.ge_model_codec.specs.Code.{Code, u32_code, u64_code, u128_code, text_code, list_code, table_code, pair_code, ◌⊗◌, triple_code, quadruple_code, quintuple_code, row_code, absent_code}
use Rattle.ge_model_codec.specs.Configured.{complex_def_code, complex_def_code_1, texts_code, host_row_code, pe_row_code, project_row_code, queue_row_code, quota_row_code, sched_code, share_node_code, user_row_code}
use Rattle.ge_model_codec.specs.Jobs.{job_code, job_code_1, advance_code, line_code}

-- the order of usage keys: by first difference
abbrev pub usage_key_cmp : (List ℕ × List ℕ × ℕ) → (List ℕ × List ℕ × ℕ) → Ordering
usage_key_cmp x y = ordering_then (ordering_then (text_cmp x.0 y.0) (text_cmp x.1 y.1)) (nat_cmp x.2 y.2)

-- who may do what, the jobs, and what was used; with this code of a job
abbrev pub Work : Type 0
Work =
    (List (List ℕ) × List (List ℕ)) ×
    List (ℕ × Job) ×
    (List ((List ℕ × List ℕ × ℕ) × ℕ) × List Line)

abbrev pub work_code : Code Job → Code Work
work_code job = triple_code
    (pair_code texts_code texts_code)
    (table_code nat_cmp u32_code job)
    (pair_code (table_code usage_key_cmp (triple_code text_code text_code u64_code) u128_code) (list_code line_code))

-- the fields of a cluster before `next_advance`; with these codes of a row of the complex table and of a job
abbrev pub ClusterFront : Type 0
ClusterFront =
    (ℕ × ℕ × ℕ × ℕ) ×
    List (List ℕ × ComplexDef) ×
    (List (List ℕ × HostRow) × List (List ℕ × List (List ℕ)) × List (List ℕ × QueueRow) ×
    List (List ℕ × PeRow) × List (List ℕ × QuotaRow)) ×
    (List (List ℕ × List (List ℕ)) × List (List ℕ × UserRow) × List (List ℕ × ProjectRow) ×
    List (ℕ × ShareNode) × Sched) ×
    Work

abbrev pub cluster_front_code : Code ComplexDef → Code Job → Code ClusterFront
cluster_front_code complex job = quintuple_code
    (quadruple_code u64_code u64_code u32_code u64_code)
    (table_code text_cmp text_code complex)
    (quintuple_code
    (table_code text_cmp text_code host_row_code)
    (table_code text_cmp text_code texts_code)
    (table_code text_cmp text_code queue_row_code)
    (table_code text_cmp text_code pe_row_code)
    (table_code text_cmp text_code quota_row_code))
    (quintuple_code
    (table_code text_cmp text_code texts_code)
    (table_code text_cmp text_code user_row_code)
    (table_code text_cmp text_code project_row_code)
    (table_code nat_cmp u32_code share_node_code)
    sched_code)
    (work_code job)

-- the number of the next advance reservation, and the reservations
abbrev pub Booked : Type 0
Booked = ℕ × List (ℕ × Advance)

abbrev pub cluster_parts : Cluster → ClusterFront × Booked
cluster_parts r = (
  (
    (r.last, r.last_run, r.next_job, r.next_serial),
    r.complexes,
    (r.hosts, r.groups, r.queues, r.pes, r.quotas),
    (r.sets, r.users, r.projects, r.shares, r.sched),
    ((r.managers, r.operators), r.jobs, (r.usage, r.lines)),
  ),
  (r.next_advance, r.advances),
)

abbrev pub cluster_of : ClusterFront × Booked → Cluster
cluster_of p = record {
  last = p.0.0.0;
  last_run = p.0.0.1;
  next_job = p.0.0.2;
  next_serial = p.0.0.3;
  complexes = p.0.1;
  hosts = p.0.2.0;
  groups = p.0.2.1;
  queues = p.0.2.2;
  pes = p.0.2.3;
  quotas = p.0.2.4;
  sets = p.0.3.0;
  users = p.0.3.1;
  projects = p.0.3.2;
  shares = p.0.3.3;
  sched = p.0.3.4;
  managers = p.0.4.0.0;
  operators = p.0.4.0.1;
  jobs = p.0.4.1;
  usage = p.0.4.2.0;
  lines = p.0.4.2.1;
  next_advance = p.1.0;
  advances = p.1.1;
}

-- a cluster, with these codes of the fields in front and of the advance reservations
abbrev pub cluster_code_with : Code ClusterFront → Code Booked → Code Cluster
cluster_code_with front booked = row_code (front ⊗ booked) cluster_parts cluster_of

-- the cluster
abbrev pub cluster_code : Code Cluster
cluster_code = cluster_code_with
    (cluster_front_code complex_def_code job_code)
    (u32_code ⊗ table_code nat_cmp u32_code advance_code)

-- whether no advance reservation was ever made
abbrev pub is_unbooked : Booked → Bool
is_unbooked b = b.0 == 1 && length b.1 == 0

-- a cluster of format 1: the next advance reservation is 1 and there are none
abbrev pub cluster_code_1 : Code Cluster
cluster_code_1 = cluster_code_with
    (cluster_front_code complex_def_code_1 job_code_1)
    (absent_code is_unbooked (1, []))
