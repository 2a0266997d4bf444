-- What a disk holds at a moment, as the code keeps it.
use Rattle.ge_model_journal.specs.Disk.{Content}
use Rattle.ge_outside.specs.declared.showing.Shown.{Shown}

abbrev pub shown_content : Shown → Content
shown_content s = record { synced = s.synced.items; bytes = s.bytes.items; pending = s.pending.items; longest = s.longest }
