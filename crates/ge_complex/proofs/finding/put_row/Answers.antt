use Rattle.std.proofs.Common.{◌≡◌}
use Rattle.ge_complex.proofs.Lent.{lent_at_put}
use Rattle.ge_complex.proofs.finding.put_row.Goals as goal

pub returns : goal.returns
returns c = λ word. lent_at_put c.args.shortcuts.now.entries c.insert.new.self.entries c.bytes.result (c.args.name, c.args.row) c.args.row.now.shortcut word c.bytes.ensures c.in_ok-insert.ensures.entries
