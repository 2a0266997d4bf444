-- The sums of accounting lines.
use Rattle.std.specs.Prelude.{◌≡◌, List, length}
use Rattle.ge_model_rows.specs.AccountRows.{Line}
use Rattle.ge_model_order.specs.Amounts.{cut_total}
use Rattle.ge_model_report.specs.Accounting.{wallclock}
use Rattle.ge_listing.specs.declared.summing.Sums.{Sums}

-- these are the number and the sums of lines
pub record AreSums (sums : Sums) (lines : List Line) : Type 0 where
  pub count : sums.count ≡ length lines
  pub ran : sums.ran ≡ cut_total wallclock lines
  pub processor : sums.processor ≡ cut_total (λ line. line.cpu) lines
  pub memory : sums.memory ≡ cut_total (λ line. line.mem) lines
  pub moved : sums.moved ≡ cut_total (λ line. line.io) lines
