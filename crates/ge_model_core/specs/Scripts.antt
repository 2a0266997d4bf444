-- The whole model run on a script where memory is ample: what is written, and what cluster is left. Both open all large
-- definitions, so that a theorem by computation names one of them alone.
use Rattle.std.specs.Prelude.{ℕ, true, List, length, replicate}
use Rattle.ge_model_rows.specs.ClusterRows.{Cluster, opening_cluster, default_queue, default_sched}
use Rattle.ge_model_rows.specs.ClusterRows.{opening_complexes}
use Rattle.ge_model_grammar.specs.Events.{events_of}
use Rattle.ge_model_core.specs.Render.{rendered}
use Rattle.ge_model_rows.specs.Complexes.{opening}
use Rattle.ge_model_rows.specs.Groups.{members_of, has_loop, expanded}
use Rattle.ge_model_rows.specs.Queues.{instances_of, resolved}
use Rattle.ge_model_jobs.specs.Altering.{with_job, with_altered, with_held, with_freed}
use Rattle.ge_model_jobs.specs.Applying.{after_change, after_entry, changes_in_full}
use Rattle.ge_model_jobs.specs.Configuring.{with_item, without_item, with_load}
use Rattle.ge_model_jobs.specs.Ending.{with_end, with_deleted, with_cleared}
use Rattle.ge_model_jobs.specs.Holds.{eligible_tasks}
use Rattle.ge_model_jobs.specs.Starting.{with_run}
use Rattle.ge_model_order.specs.Candidates.{is_candidate}
use Rattle.ge_model_order.specs.Priority.{prios_of, prios_at, order_of, order_of_runs}
use Rattle.ge_model_order.specs.Share.{share_tickets_of}
use Rattle.ge_model_order.specs.ShareTree.{tree_of}
use Rattle.ge_model_order.specs.Tickets.{tickets_of}
use Rattle.ge_model_order.specs.Urgency.{urgency_of}
use Rattle.ge_model_place.specs.Advances.{advance_grants}
use Rattle.ge_model_place.specs.InstanceOrder.{instance_order}
use Rattle.ge_model_place.specs.Limits.{counted_at, demands_of}
use Rattle.ge_model_place.specs.Opening.{reaches_threshold, is_open}
use Rattle.ge_model_place.specs.Placement.{placement}
use Rattle.ge_model_place.specs.Running.{run_of, runs_in_full}
use Rattle.ge_model_place.specs.Windows.{base_bookings}
use Rattle.ge_model_grammar.specs.Bodies.{attribute_body, rule_set_body, node_body, complex_body, body_of, grammar_of_bodies}
use Rattle.ge_model_grammar.specs.Commands.{script_options, submit_command, alter_command, delete_command, clear_command, hold_command, show_command, account_command, load_command, end_command, orders_command, dispatch_command, book_command, unbook_command, show_booked_command, command_of, grammar_of_commands}
use Rattle.ge_model_grammar.specs.Configuring.{config_command}
use Rattle.ge_model_grammar.specs.Parsing.{parsed}
use Rattle.ge_model_grammar.specs.Rules.{rule_line_of}
use Rattle.ge_model_grammar.specs.Shapes.{read_options, merged_options}
use Rattle.ge_model_config.specs.Complexes.{complexes_item}
use Rattle.ge_model_config.specs.Hosts.{host_item}
use Rattle.ge_model_config.specs.Groups.{group_item}
use Rattle.ge_model_config.specs.Environments.{pe_item}
use Rattle.ge_model_config.specs.UserSets.{set_item}
use Rattle.ge_model_config.specs.People.{user_item, project_item}
use Rattle.ge_model_config.specs.Printing.{printed, item_at}
use Rattle.ge_model_config.specs.Queues.{queue_read, queue_item}
use Rattle.ge_model_config.specs.Quotas.{quota_item}
use Rattle.ge_model_config.specs.Reading.{item_of, body_read, items_of_bodies}
use Rattle.ge_model_config.specs.Requests.{request_of, request_read, request_changed}
use Rattle.ge_model_config.specs.Settings.{sched_item}
use Rattle.ge_model_config.specs.Shares.{shares_item}
use Rattle.ge_model_config.specs.Used.{is_used, is_there}
use Rattle.ge_model_report.specs.Accounting.{line_text, account_of as account_of_of_report}
use Rattle.ge_model_report.specs.Booked.{booked_lines}
use Rattle.ge_model_report.specs.Listing.{listing_of, listings_in_full}
use Rattle.ge_model_report.specs.Orders.{orders_of as orders_of_of_report, task_lines}
use Rattle.ge_model_core.specs.Altering.{alter_plan}
use Rattle.ge_model_core.specs.Booking.{book_plan, unbook_plan, show_booked_plan}
use Rattle.ge_model_core.specs.Configuring.{body_plan, remove_plan, print_plan}
use Rattle.ge_model_core.specs.Deleting.{delete_plan, clear_plan}
use Rattle.ge_model_core.specs.Holding.{hold_plan, release_plan}
use Rattle.ge_model_core.specs.Plan.{plan_of}
use Rattle.ge_model_core.specs.Reports.{load_plan, end_plan, orders_plan, task_plan, stop_plan}
use Rattle.ge_model_core.specs.Scheduling.{decisions_at, sched_plan}
use Rattle.ge_model_core.specs.Showing.{show_plan, account_plan}
use Rattle.ge_model_core.specs.Submitting.{submitted_job, submit_plan}
use Rattle.std.specs.Fmt.{digits}
use Rattle.ge_model_core.specs.Trace.{output, cluster_after}

-- all large definitions of the model
unfoldable pub model_in_full : Unit {0}
unfolding default_queue default_sched opening_cluster opening_complexes events_of rendered opening members_of has_loop expanded instances_of resolved with_job with_altered with_held with_freed after_change after_entry changes_in_full with_item without_item with_load with_end with_deleted with_cleared eligible_tasks with_run is_candidate prios_of prios_at order_of order_of_runs share_tickets_of tree_of tickets_of urgency_of instance_order counted_at demands_of reaches_threshold is_open placement advance_grants run_of runs_in_full base_bookings attribute_body rule_set_body node_body complex_body body_of grammar_of_bodies script_options submit_command alter_command delete_command clear_command hold_command show_command account_command load_command end_command orders_command dispatch_command book_command unbook_command show_booked_command command_of parsed grammar_of_commands config_command rule_line_of read_options merged_options complexes_item host_item group_item pe_item set_item user_item project_item printed item_at queue_read queue_item quota_item item_of body_read items_of_bodies request_of request_read request_changed sched_item shares_item is_used is_there line_text account_of_of_report listing_of listings_in_full orders_of_of_report task_lines booked_lines alter_plan body_plan remove_plan print_plan delete_plan clear_plan hold_plan release_plan plan_of load_plan end_plan orders_plan task_plan stop_plan decisions_at sched_plan show_plan account_plan submitted_job submit_plan book_plan unbook_plan show_booked_plan digits
model_in_full = tt

-- the output of the events of a script, from the opening cluster on
unfoldable pub written_for : List ℕ → List ℕ
unfolding model_in_full
written_for script = let events = events_of script in output plan_of opening events (replicate (length events) true)

-- the cluster after the events of a script, from the opening cluster on
unfoldable pub left_by : List ℕ → Cluster
unfolding model_in_full
left_by script = let events = events_of script in cluster_after plan_of opening events (replicate (length events) true)
