-- The attributes of bodies (queue_conf, hostgroup, host_conf, sge_pe, access_list, project, user, sched_conf).
use Rattle.std.specs.Prelude.{ℕ, List, [], ◌∷◌, ◌++◌, codes}
use Rattle.ge_model_rows.specs.ClusterRows.{limit_names}
use Rattle.ge_model_rows.specs.EntryRows.{ObjectKind}

-- the attributes that a kind of object has, in the order in which they are printed
abbrev pub attribute_names : ObjectKind → List (List ℕ)
attribute_names ObjectKind.Queue =
    codes "qname" ∷ codes "hostlist" ∷ codes "seq_no" ∷ codes "load_thresholds" ∷ codes "pe_list" ∷ codes "user_lists" ∷ codes "xuser_lists"
    ∷ codes "projects" ∷ codes "xprojects" ∷ codes "complex_values" ∷ codes "slots" ∷ limit_names
attribute_names ObjectKind.Group = codes "group_name" ∷ codes "hostlist" ∷ []
attribute_names ObjectKind.Host = codes "hostname" ∷ codes "complex_values" ∷ []
attribute_names ObjectKind.Pe =
    codes "pe_name" ∷ codes "slots" ∷ codes "user_lists" ∷ codes "xuser_lists" ∷ codes "allocation_rule" ∷ codes "urgency_slots" ∷ []
attribute_names ObjectKind.Set = codes "name" ∷ codes "entries" ∷ []
attribute_names ObjectKind.Project = codes "name" ∷ codes "oticket" ∷ codes "fshare" ∷ codes "acl" ∷ codes "xacl" ∷ []
attribute_names ObjectKind.User = codes "name" ∷ codes "oticket" ∷ codes "fshare" ∷ []
attribute_names ObjectKind.Sched =
    codes "schedule_interval" ∷ codes "maxujobs" ∷ codes "queue_sort_method" ∷ codes "load_formula" ∷ codes "weight_priority"
    ∷ codes "weight_urgency" ∷ codes "weight_ticket" ∷ codes "weight_waiting_time" ∷ codes "weight_deadline"
    ∷ codes "weight_tickets_functional" ∷ codes "weight_tickets_share" ∷ codes "weight_user" ∷ codes "weight_project" ∷ codes "weight_job"
    ∷ codes "halftime" ∷ codes "max_reservation" ∷ codes "default_duration" ∷ codes "usage_weight_list" ∷ codes "max_pending_tasks_per_job" ∷ []
attribute_names _ = []

-- those that are read without effect
abbrev pub idle_attributes : ObjectKind → List (List ℕ)
idle_attributes ObjectKind.Queue =
    codes "priority" ∷ codes "min_cpu_interval" ∷ codes "processors" ∷ codes "qtype" ∷ codes "ckpt_list" ∷ codes "rerun" ∷ codes "tmpdir"
    ∷ codes "shell" ∷ codes "shell_start_mode" ∷ codes "starter_method" ∷ codes "suspend_method" ∷ codes "resume_method"
    ∷ codes "terminate_method" ∷ codes "notify" ∷ codes "owner_list" ∷ codes "nsuspend" ∷ codes "suspend_interval" ∷ codes "initial_state" ∷ []
idle_attributes ObjectKind.Pe =
    codes "start_proc_args" ∷ codes "stop_proc_args" ∷ codes "control_slaves" ∷ codes "job_is_first_task" ∷ codes "accounting_summary" ∷ []
idle_attributes ObjectKind.Host =
    codes "load_scaling" ∷ codes "load_values" ∷ codes "processors" ∷ codes "usage_scaling" ∷ codes "report_variables" ∷ []
idle_attributes ObjectKind.Set = codes "type" ∷ codes "fshare" ∷ codes "oticket" ∷ []
idle_attributes ObjectKind.User = codes "delete_time" ∷ codes "default_project" ∷ []
idle_attributes ObjectKind.Sched =
    codes "algorithm" ∷ codes "job_load_adjustments" ∷ codes "load_adjustment_decay_time" ∷ codes "flush_submit_sec" ∷ codes "flush_finish_sec"
    ∷ codes "params" ∷ codes "schedd_job_info" ∷ codes "reprioritize_interval" ∷ codes "compensation_factor" ∷ codes "weight_department"
    ∷ codes "share_override_tickets" ∷ codes "share_functional_shares" ∷ codes "max_functional_jobs_to_schedule"
    ∷ codes "report_pjob_tickets" ∷ codes "policy_hierarchy" ∷ codes "halflife_decay_list" ∷ []
idle_attributes _ = []

-- those that may be NONE alone
abbrev pub none_attributes : ObjectKind → List (List ℕ)
none_attributes ObjectKind.Queue =
    codes "subordinate_list" ∷ codes "calendar" ∷ codes "suspend_thresholds" ∷ codes "prolog" ∷ codes "epilog" ∷ []
none_attributes ObjectKind.Host = codes "user_lists" ∷ codes "xuser_lists" ∷ codes "projects" ∷ codes "xprojects" ∷ []
none_attributes _ = []

-- all that a body may have
abbrev pub known_attributes : ObjectKind → List (List ℕ)
known_attributes kind = attribute_names kind ++ (idle_attributes kind ++ none_attributes kind)

-- those that a body has to have: the one that names the object
abbrev pub naming_attributes : ObjectKind → List (List ℕ)
naming_attributes ObjectKind.Queue = codes "qname" ∷ []
naming_attributes ObjectKind.Group = codes "group_name" ∷ []
naming_attributes ObjectKind.Host = codes "hostname" ∷ []
naming_attributes ObjectKind.Pe = codes "pe_name" ∷ []
naming_attributes ObjectKind.Set = codes "name" ∷ []
naming_attributes ObjectKind.Project = codes "name" ∷ []
naming_attributes ObjectKind.User = codes "name" ∷ []
naming_attributes _ = []
