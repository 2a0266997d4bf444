use Rattle.ge_outside.specs.Starts.{start_of}
use Rattle.ge_outside.specs.DrawnImages.{drawn_now-image}
use Rattle.ge_outside.proofs.memory_disks.MemDisk.image.Goals as goal

pub returns-clause-image : goal.returns-clause-image
returns-clause-image c =
    drawn_now-image (start_of c.args.self.now.history.first c.args.self.now.history.bytes.items) c.args.self.now.history.steps.items c.args.pick
