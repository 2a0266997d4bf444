-- What was worked out for one job serves the next.
use Rattle.std.proofs.Common.{◌≡◌, ◌∙◌}
use Rattle.std.specs.Prelude.{ℕ, ℤ}
use Rattle.ge_model_rows.specs.SettingRows.{Sched}
use Rattle.ge_model_order.specs.Priority.{priority_part, urgency_part, tickets_part}
use Rattle.ge_order.specs.declared.priority.Scale.{Scale}
use Rattle.ge_order.specs.declared.weighing.Worked.{Worked}
use Rattle.ge_order.specs.Weighed.{with_parts, worked_by, IsWorked}

module _ (sched : Sched) (scale : Scale) where
  -- the same numbers
  pub worked_again : (last : Worked) (priority : ℤ) (urgency tickets : ℕ) → IsWorked sched scale last → last.priority ≡ priority → last.urgency ≡ urgency → last.tickets ≡ tickets
      → last ≡ worked_by sched scale priority urgency tickets
  worked_again last priority urgency tickets is one two three = is ∙ (λ i. worked_by sched scale (one i) (two i) (three i))

  -- other numbers, from their parts
  pub worked_anew : (priority : ℤ) (urgency tickets np nu nt : ℕ) → np ≡ priority_part priority → nu ≡ urgency_part scale.low scale.high urgency → nt ≡ tickets_part scale.most tickets
      → with_parts sched priority urgency tickets np nu nt ≡ worked_by sched scale priority urgency tickets
  worked_anew priority urgency tickets np nu nt one two three = λ i. with_parts sched priority urgency tickets (one i) (two i) (three i)
