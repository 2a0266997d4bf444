use Rattle.std.specs.Prelude.{codes}
use Rattle.ge_model_rows.specs.ClusterRows.{default_sched}
use Rattle.ge_model_rows.specs.EntryRows.{Item}
use Rattle.ge_model_rows.specs.ValueRows.{Kind, infinity}
use Rattle.ge_model_config.specs.Settings.{setting, weights_read, weight_at, sched_item}
use Rattle.ge_config.specs.Settings.{amount_setting, count_setting, plain_weights, first_settings}
use Rattle.ge_config.proofs.Gathered.{settings_noted}
use Rattle.ge_config.proofs.SchedParts.{sched_is}
use Rattle.ge_config.proofs.settings.read_sched.Goals as goal

pub returns : goal.returns
unfolding sched_item default_sched
returns c =
    let f = c.in_ok-interval.ensures in
    let p = c.in_ok-w_priority.ensures in
    let t = c.in_ok-functional.ensures in
    let l = c.in_ok-halftime.ensures in
    let v = c.args.values.now in (
      sched_is c.args.c.now v _ _ _ _ c.in_ok-u_cpu.u_cpu c.in_ok-u_mem.u_mem c.in_ok-u_io.u_io f.0 p.0 t.0 l.0 c.in_ok-u_cpu.ensures c.in_ok-u_mem.ensures c.in_ok-u_io.ensures,
      settings_noted c.args.faults.now c.read_first.new.faults c.read_priority_weights.new.faults c.read_ticket_weights.new.faults c.read_last.new.faults
          (first_settings c.args.c.now v).1
          (amount_setting v (codes "weight_priority") Kind.Double 1000000).1 (amount_setting v (codes "weight_urgency") Kind.Double 100000).1
          (amount_setting v (codes "weight_ticket") Kind.Double 10000).1 (amount_setting v (codes "weight_waiting_time") Kind.Double 0).1
          (amount_setting v (codes "weight_deadline") Kind.Double 3600000000000).1
          (count_setting v (codes "weight_tickets_functional") 1000000000 0).1 (count_setting v (codes "weight_tickets_share") 1000000000 0).1
          (amount_setting v (codes "weight_user") Kind.Double 250000).1 (amount_setting v (codes "weight_project") Kind.Double 250000).1
          (amount_setting v (codes "weight_job") Kind.Double 250000).1
          (count_setting v (codes "halftime") 1048575 168).1 (amount_setting v (codes "max_reservation") Kind.Int 0).1
          (amount_setting v (codes "default_duration") Kind.Time infinity).1 (setting v (codes "usage_weight_list") plain_weights weights_read).1
          (amount_setting v (codes "max_pending_tasks_per_job") Kind.Int 50).1 f.1 p.1 t.1 l.1,
    )
