-- The settings of their four parts.
use Rattle.std.proofs.Common.{◌≡◌, ℕ, List, ap, ◌∙◌}
use Rattle.std.specs.Prelude.{codes}
use Rattle.ge_model_rows.specs.ClusterRows.{Cluster, default_sched}
use Rattle.ge_model_rows.specs.EntryRows.{Item}
use Rattle.ge_model_rows.specs.SettingRows.{SortMethod}
use Rattle.ge_model_config.specs.Settings.{weight_at, sched_item}
use Rattle.ge_config.specs.Settings.{first_settings, priority_weights, ticket_weights, last_settings}

-- the settings that were read are those of the body
pub sched_is : (c : Cluster) (values : List (List ℕ × List ℕ)) (f : ℕ × ℕ × SortMethod × List ℕ) (p t : ℕ × ℕ × ℕ × ℕ × ℕ)
    (l : ℕ × ℕ × ℕ × List (List ℕ × ℕ) × ℕ) (cpu mem io : ℕ) → f ≡ (first_settings c values).0 → p ≡ (priority_weights values).0 → t ≡ (ticket_weights values).0
    → l ≡ (last_settings values).0 → cpu ≡ weight_at l.3 (codes "cpu") → mem ≡ weight_at l.3 (codes "mem") → io ≡ weight_at l.3 (codes "io")
    → Item.Sched (record {
      interval = f.0;
      maxujobs = f.1;
      sort = f.2;
      load_formula = f.3;
      w_priority = p.0;
      w_urgency = p.1;
      w_ticket = p.2;
      w_waiting = p.3;
      w_deadline = p.4;
      functional = t.0;
      share = t.1;
      w_user = t.2;
      w_project = t.3;
      w_job = t.4;
      halftime = l.0;
      max_reservation = l.1;
      default_duration = l.2;
      u_cpu = cpu;
      u_mem = mem;
      u_io = io;
      max_pending = l.4;
    }) ≡ (sched_item c values).0
unfolding sched_item default_sched
sched_is c values f p t l cpu mem io first second third last by_cpu by_mem by_io = λ i. Item.Sched (record {
  interval = (first i).0;
  maxujobs = (first i).1;
  sort = (first i).2;
  load_formula = (first i).3;
  w_priority = (second i).0;
  w_urgency = (second i).1;
  w_ticket = (second i).2;
  w_waiting = (second i).3;
  w_deadline = (second i).4;
  functional = (third i).0;
  share = (third i).1;
  w_user = (third i).2;
  w_project = (third i).3;
  w_job = (third i).4;
  halftime = (last i).0;
  max_reservation = (last i).1;
  default_duration = (last i).2;
  u_cpu = (by_cpu ∙ ap (λ (x : ℕ × ℕ × ℕ × List (List ℕ × ℕ) × ℕ). weight_at x.3 (codes "cpu")) last) i;
  u_mem = (by_mem ∙ ap (λ (x : ℕ × ℕ × ℕ × List (List ℕ × ℕ) × ℕ). weight_at x.3 (codes "mem")) last) i;
  u_io = (by_io ∙ ap (λ (x : ℕ × ℕ × ℕ × List (List ℕ × ℕ) × ℕ). weight_at x.3 (codes "io")) last) i;
  max_pending = (last i).4;
})
