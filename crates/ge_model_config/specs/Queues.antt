-- Queues read from a body and printed (queue_conf).
use Rattle.std.specs.Prelude.{ℕ, Bool, if◌then◌else◌, List, [], ◌++◌, fold, codes, ◌∷◌, map, unwrap_or, decimal}
use Rattle.ge_collections.specs.Keyed.{put_text, at_text}
use Rattle.ge_limits.specs.Limits as limit
use Rattle.ge_model_rows.specs.ClusterRows.{Cluster, default_queue, plain_attr, limit_names}
use Rattle.ge_model_rows.specs.EntryRows.{Item, Queue, ObjectKind}
use Rattle.ge_model_rows.specs.QueueRows.{QueueRow, Attr}
use Rattle.ge_model_rows.specs.ValueRows.{Kind, infinity}
use Rattle.ge_model_rows.specs.Pieces.{is_one_of, list_text}
use Rattle.ge_model_rows.specs.Complexes.{time_limits}
use Rattle.ge_model_config.specs.Cited.{Read, given, none_text, number_read, names_read, has_name, is_host_or_group, printed_attribute, number_text}
use Rattle.ge_model_config.specs.Pairs.{values_read, any_fits, number_fits, values_text}
use Rattle.ge_model_config.specs.Overrides.{attr_read, attr_text}
use Rattle.ge_model_config.specs.Named.{name_faults, absent_faults}

-- the limits of run time and processor time are times, the others sizes
abbrev pub limit_kind : List ℕ → Kind
limit_kind name = if is_one_of name time_limits then Kind.Time else Kind.Memory

-- one limit, INFINITY where the body leaves it out, put beside those that were read
abbrev pub with_queue_limit : Cluster → List (List ℕ × List ℕ) → Read (List (List ℕ × Attr ℕ)) → List ℕ → Read (List (List ℕ × Attr ℕ))
with_queue_limit c values limits name =
    let limit = attr_read c values name (plain_attr infinity) (number_read (limit_kind name) 0 infinity) in
    (put_text limits.0 name limit.0, limits.1 ++ limit.1)

-- the sixteen limits
abbrev pub limits_read : Cluster → List (List ℕ × List ℕ) → Read (List (List ℕ × Attr ℕ))
limits_read c values = fold (with_queue_limit c values) ([], []) limit_names

-- the queue that a body gives: an attribute that is left out has its default
unfoldable pub queue_read : Cluster → List (List ℕ × List ℕ) → Read QueueRow
queue_read c values =
    let hosts = names_read (is_host_or_group c) (given values (codes "hostlist") none_text) in
    let seq_no = attr_read c values (codes "seq_no") default_queue.seq_no (number_read Kind.Int 0 infinity) in
    let thresholds = attr_read c values (codes "load_thresholds") default_queue.thresholds (values_read c number_fits) in
    let pes = attr_read c values (codes "pe_list") default_queue.pes (names_read (has_name c.pes)) in
    let users = attr_read c values (codes "user_lists") default_queue.users (names_read (has_name c.sets)) in
    let xusers = attr_read c values (codes "xuser_lists") default_queue.xusers (names_read (has_name c.sets)) in
    let projects = attr_read c values (codes "projects") default_queue.projects (names_read (has_name c.projects)) in
    let xprojects = attr_read c values (codes "xprojects") default_queue.xprojects (names_read (has_name c.projects)) in
    let amounts = attr_read c values (codes "complex_values") default_queue.values (values_read c any_fits) in
    let slots = attr_read c values (codes "slots") default_queue.slots (number_read Kind.Int 0 infinity) in
    let limits = limits_read c values in (
      record {
        hosts = hosts.0;
        seq_no = seq_no.0;
        thresholds = thresholds.0;
        pes = pes.0;
        users = users.0;
        xusers = xusers.0;
        projects = projects.0;
        xprojects = xprojects.0;
        values = amounts.0;
        slots = slots.0;
        limits = limits.0;
      },
      hosts.1 ++ seq_no.1 ++ thresholds.1 ++ pes.1 ++ users.1 ++ xusers.1 ++ projects.1 ++ xprojects.1 ++ amounts.1 ++ slots.1 ++ limits.1,
    )

unfoldable pub queue_item : Cluster → Bool → List (List ℕ × List ℕ) → Read Item
queue_item c adding values =
    let name = given values (codes "qname") [] in
    let queue = queue_read c values in
    (Queue name queue.0, name_faults ObjectKind.Queue limit.queues c.queues adding name ++ absent_faults ObjectKind.Queue values ++ queue.1)

-- a limit of a queue; one that its table doesn't have is INFINITY
abbrev pub limit_line : List (List ℕ × Attr ℕ) → List ℕ → List ℕ
limit_line limits name = printed_attribute name (attr_text (number_text (limit_kind name)) (unwrap_or (at_text limits name) (plain_attr infinity)))

-- queue_conf
abbrev pub queue_lines : Cluster → List ℕ → QueueRow → List (List ℕ)
queue_lines c name q =
    printed_attribute (codes "qname") name
    ∷ printed_attribute (codes "hostlist") (list_text q.hosts)
    ∷ printed_attribute (codes "seq_no") (attr_text decimal q.seq_no)
    ∷ printed_attribute (codes "load_thresholds") (attr_text (values_text c) q.thresholds)
    ∷ printed_attribute (codes "pe_list") (attr_text list_text q.pes)
    ∷ printed_attribute (codes "user_lists") (attr_text list_text q.users)
    ∷ printed_attribute (codes "xuser_lists") (attr_text list_text q.xusers)
    ∷ printed_attribute (codes "projects") (attr_text list_text q.projects)
    ∷ printed_attribute (codes "xprojects") (attr_text list_text q.xprojects)
    ∷ printed_attribute (codes "complex_values") (attr_text (values_text c) q.values)
    ∷ printed_attribute (codes "slots") (attr_text decimal q.slots)
    ∷ map (limit_line q.limits) limit_names
