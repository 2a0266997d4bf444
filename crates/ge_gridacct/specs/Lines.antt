-- What tells two lines apart.
use Rattle.std.specs.Prelude.{◌≡◌}
use Rattle.ge_model_rows.specs.AccountRows.{Line}

-- the texts of two lines are the same
pub record HaveSameTexts (line other : Line) : Type 0 where
  pub queue : line.queue ≡ other.queue
  pub host : line.host ≡ other.host
  pub group : line.group ≡ other.group
  pub owner : line.owner ≡ other.owner
  pub name : line.name ≡ other.name
  pub account : line.account ≡ other.account
  pub project : line.project ≡ other.project
  pub pe : line.pe ≡ other.pe

-- and the numbers
pub record HaveSameNumbers (line other : Line) : Type 0 where
  pub job : line.job ≡ other.job
  pub priority : line.priority ≡ other.priority
  pub submitted : line.submitted ≡ other.submitted
  pub start : line.start ≡ other.start
  pub end : line.end ≡ other.end
  pub failed : line.failed ≡ other.failed
  pub exit : line.exit ≡ other.exit
  pub slots : line.slots ≡ other.slots
  pub task : line.task ≡ other.task
  pub cpu : line.cpu ≡ other.cpu
  pub mem : line.mem ≡ other.mem
  pub io : line.io ≡ other.io
