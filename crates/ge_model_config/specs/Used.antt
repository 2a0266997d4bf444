-- What is there and what is used.
use Rattle.std.specs.Prelude.{ℕ, Bool, true, false, ◌||◌, ◌&&◌, List, ◌∷◌, Option, Some, None, codes}
use Rattle.std.specs.List.{list_any}
use Rattle.ge_collections.specs.Keyed.{text_eq}
use Rattle.ge_model_rows.specs.ClusterRows.{Cluster}
use Rattle.ge_model_rows.specs.EntryRows.{ObjectKind}
use Rattle.ge_model_rows.specs.JobRows.{Job, PeRequest, Grant, Advance}
use Rattle.ge_model_rows.specs.QueueRows.{QueueRow, Attr}
use Rattle.ge_model_rows.specs.QuotaRows.{Rule}
use Rattle.ge_model_rows.specs.Pieces.{is_one_of}
use Rattle.ge_model_rows.specs.Complexes.{opening_complexes}
use Rattle.ge_model_config.specs.Cited.{has_name}
use Rattle.ge_model_config.specs.Quotas.{elements_of}

-- whether a running task has a grant that passes a test
abbrev pub runs_where : Cluster → (Grant → Bool) → Bool
runs_where c test = list_any (λ job. list_any (λ task. list_any test task.1.grants) job.1.running) c.jobs

-- whether a grant of a running task or of an advance reservation passes a test
abbrev pub granted_where : Cluster → (Grant → Bool) → Bool
granted_where c test = runs_where c test || list_any (λ booked. list_any test booked.1.grants) c.advances

-- whether a live job passes a test
abbrev pub job_where : Cluster → (Job → Bool) → Bool
job_where c test = list_any (λ job. test job.1) c.jobs

-- whether an advance reservation does
abbrev pub advance_where : Cluster → (Advance → Bool) → Bool
advance_where c test = list_any (λ booked. test booked.1) c.advances

-- whether a queue does
abbrev pub queue_where : Cluster → (QueueRow → Bool) → Bool
queue_where c test = list_any (λ queue. test queue.1) c.queues

-- whether a rule of a rule set does
abbrev pub rule_where : Cluster → (Rule → Bool) → Bool
rule_where c test = list_any (λ set. list_any test set.1.rules) c.quotas

module _ {T : Type 0} where
  -- whether the plain value of an attribute, or one of its overrides, passes a test
  abbrev pub attr_where : (T → Bool) → Attr T → Bool
  attr_where test attr = test attr.plain || list_any (λ o. test o.1) attr.overrides

  -- whether an attribute has an override for a host or group
  abbrev pub overrides_at : List ℕ → Attr T → Bool
  overrides_at name attr = list_any (λ o. text_eq name o.0) attr.overrides

-- whether an attribute of a queue has an override for a host or group
abbrev pub is_overridden : List ℕ → QueueRow → Bool
is_overridden name q =
    overrides_at name q.seq_no || overrides_at name q.thresholds || overrides_at name q.pes || overrides_at name q.users || overrides_at name q.xusers
    || overrides_at name q.projects || overrides_at name q.xprojects || overrides_at name q.values || overrides_at name q.slots
    || list_any (λ limit. overrides_at name limit.1) q.limits

-- whether lists of an attribute have a name
abbrev pub lists_name : List ℕ → Attr (List (List ℕ)) → Bool
lists_name name attr = attr_where (is_one_of name) attr

-- a host or group in a hostlist, in a group or in an override
abbrev pub is_cited_as_host : Cluster → List ℕ → Bool
is_cited_as_host c name =
    list_any (λ group. is_one_of name group.1) c.groups || queue_where c (λ q. is_one_of name q.hosts || is_overridden name q)

-- a queue with a running task, or with slots of an advance reservation
abbrev pub is_queue_used : Cluster → List ℕ → Bool
is_queue_used c name = granted_where c (λ grant. text_eq name grant.at.queue)

-- a host that is cited, has a running task or has slots of an advance reservation, and global
abbrev pub is_host_used : Cluster → List ℕ → Bool
is_host_used c name = text_eq name (codes "global") || granted_where c (λ grant. text_eq name grant.at.host) || is_cited_as_host c name

-- a group that is cited, in rules too
abbrev pub is_group_used : Cluster → List ℕ → Bool
is_group_used c name = is_cited_as_host c name || rule_where c (λ rule. is_one_of name (elements_of rule.hosts))

-- whether a job asks for a parallel environment
abbrev pub asks_pe : List ℕ → Option PeRequest → Bool
asks_pe name None = false
asks_pe name (Some pe) = text_eq name pe.name

-- a parallel environment in a pe_list, a live job or an advance reservation
abbrev pub is_pe_used : Cluster → List ℕ → Bool
is_pe_used c name =
    queue_where c (λ q. lists_name name q.pes)
    || job_where c (λ job. asks_pe name job.request.pe)
    || advance_where c (λ booked. asks_pe name booked.request.pe)

-- a user set in a list of a queue, a parallel environment or a project, or in a rule
abbrev pub is_set_used : Cluster → List ℕ → Bool
is_set_used c name =
    queue_where c (λ q. lists_name name q.users || lists_name name q.xusers)
    || list_any (λ pe. is_one_of name pe.1.users || is_one_of name pe.1.xusers) c.pes
    || list_any (λ project. is_one_of name project.1.acl || is_one_of name project.1.xacl) c.projects
    || rule_where c (λ rule. is_one_of (64 ∷ name) (elements_of rule.users))

-- a project in a list of a queue, a live job or the share tree
abbrev pub is_project_used : Cluster → List ℕ → Bool
is_project_used c name =
    queue_where c (λ q. lists_name name q.projects || lists_name name q.xprojects)
    || job_where c (λ job. text_eq name job.project)
    || list_any (λ node. node.1.project && text_eq name node.1.name) c.shares

-- a complex in values, thresholds, rules, load reports, live jobs, advance reservations or the load formula, and each of
-- the opening table
abbrev pub is_complex_used : Cluster → List ℕ → Bool
is_complex_used c name =
    has_name opening_complexes name || text_eq name c.sched.load_formula
    || list_any (λ host. has_name host.1.values name || has_name host.1.load name) c.hosts
    || queue_where c (λ q. attr_where (λ table. has_name table name) q.values || attr_where (λ table. has_name table name) q.thresholds)
    || rule_where c (λ rule. has_name rule.limits name)
    || job_where c (λ job. has_name job.request.asked name)
    || advance_where c (λ booked. has_name booked.request.asked name)

-- whether an object is used, so that it can't be deleted; users, rule sets and the share tree never are
unfoldable pub is_used : Cluster → ObjectKind → List ℕ → Bool
is_used c ObjectKind.Queue name = is_queue_used c name
is_used c ObjectKind.Host name = is_host_used c name
is_used c ObjectKind.Group name = is_group_used c name
is_used c ObjectKind.Pe name = is_pe_used c name
is_used c ObjectKind.Set name = is_set_used c name
is_used c ObjectKind.Project name = is_project_used c name
is_used c ObjectKind.Complexes name = is_complex_used c name
is_used c _ name = false

-- whether an object is there: a manager or operator by membership; the complexes, the share tree and the settings always are
unfoldable pub is_there : Cluster → ObjectKind → List ℕ → Bool
is_there c ObjectKind.Host name = has_name c.hosts name
is_there c ObjectKind.Group name = has_name c.groups name
is_there c ObjectKind.Queue name = has_name c.queues name
is_there c ObjectKind.Pe name = has_name c.pes name
is_there c ObjectKind.Quota name = has_name c.quotas name
is_there c ObjectKind.Set name = has_name c.sets name
is_there c ObjectKind.User name = has_name c.users name
is_there c ObjectKind.Project name = has_name c.projects name
is_there c ObjectKind.Managers name = is_one_of name c.managers
is_there c ObjectKind.Operators name = is_one_of name c.operators
is_there c ObjectKind.Complexes name = true
is_there c ObjectKind.Shares name = true
is_there c ObjectKind.Sched name = true
