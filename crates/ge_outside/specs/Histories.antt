-- What a disk in memory tells.
use Rattle.std.specs.Prelude.{◌≡◌, List, [], ◌∷◌}
use Rattle.ge_model_journal.specs.Disk.{Content, settled_content}
use Rattle.ge_outside.specs.Starts.{start_of}
use Rattle.ge_outside.specs.Steps.{moments}
use Rattle.ge_outside.specs.declared.histories.History.{History}

abbrev pub history_told : History → List Content
history_told h = moments (settled_content (start_of h.first h.bytes.items)) h.steps.items

-- a content is that of the newest moment
abbrev pub IsNewest : Content → List Content → Type 0
IsNewest c [] = ⊥
IsNewest c (now ∷ earlier) = c ≡ now
