use Rattle.std.specs.Prelude.{codes}
use Rattle.ge_model_rows.specs.ClusterRows.{default_queue}
use Rattle.ge_model_config.specs.Queues.{limits_read, queue_read}
use Rattle.ge_model_config.specs.Overrides.{attr_read}
use Rattle.ge_model_config.specs.Pairs.{values_read, any_fits}
use Rattle.ge_model_rows.specs.ClusterRows.{plain_attr}
use Rattle.std.proofs.Common.{[]}
use Rattle.ge_config.specs.Queues.{count_attr, names_attr, first_attributes}
use Rattle.ge_config.proofs.Gathered.{queue_noted}
use Rattle.ge_config.proofs.queues.read_row.Goals as goal

pub returns : goal.returns
unfolding queue_read default_queue
returns c =
    let f = c.in_ok-hosts.ensures in
    let a = c.in_ok-users.ensures in
    let b = c.in_ok-values.ensures in
    let k = c.args.c.now in
    let v = c.args.values.now in (
      λ i. record {
        hosts = (f.0 i).0;
        seq_no = (f.0 i).1;
        thresholds = (f.0 i).2;
        pes = (f.0 i).3;
        users = (a.0 i).0;
        xusers = (a.0 i).1;
        projects = (a.0 i).2;
        xprojects = (a.0 i).3;
        values = (b.0 i).0;
        slots = (b.0 i).1;
        limits = (b.0 i).2;
      },
      queue_noted c.args.faults.now c.read_first.new.faults c.read_access.new.faults c.read_last.new.faults (first_attributes k v).1
          (names_attr k v (codes "user_lists") k.sets).1 (names_attr k v (codes "xuser_lists") k.sets).1 (names_attr k v (codes "projects") k.projects).1
          (names_attr k v (codes "xprojects") k.projects).1 (attr_read k v (codes "complex_values") (plain_attr []) (values_read k any_fits)).1
          (count_attr k v (codes "slots") 1).1 (limits_read k v).1 f.1 a.1 b.1,
    )
