use Rattle.std.proofs.Common.{◌≡◌, ◌<◌, length}
use Rattle.ge_wire.proofs.Payloads.{some-of}
use Rattle.ge_wire.proofs.asking.payload_for.Goals as goal

pub returns-clause-some : goal.returns-clause-some
returns-clause-some g c =
    rw c.from_vec.ensures (
    some-of c.args.user.now c.args.group.now c.in_ok-bytes.bytes.items c.read_up_to.new.bytes.items c.in_ok-bytes.bytes.len c.in_ok-bytes.ensures c.in-Ok.ensures.kept)
