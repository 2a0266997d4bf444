-- What a disk in memory tells: its moments, from the bytes that it began with and its steps since.
use Rattle.std.specs.Prelude.{◌≡◌, ℕ, Bool, true, false, if◌then◌else◌, List, [], ◌∷◌, ◌++◌, Result, Ok, Err, OnOk, OnErr, refl}
use Rattle.ge_model_journal.specs.Disk.{Content, content_written, content_synced, overwritten, told_written, told_synced}
use Rattle.ge_outside.specs.declared.memory_steps.Write.{Write}
use Rattle.ge_outside.specs.declared.memory_steps.Step.{Step}
use Rattle.ge_outside.specs.declared.memory_steps.Step.TheVariants.{Wrote, Synced}

-- the steps are one write more, of a copy of this piece
abbrev pub Keeps : List Step → List Step → ℕ → List ℕ → Type 0
Keeps steps more at piece = (write : Write) × (write.at ≡ at) × (write.piece.items ≡ piece) × (more ≡ steps ++ Wrote write ∷ [])

-- a content after a step
abbrev pub after_step : Content → Step → Content
after_step c (Wrote write) = content_written c write.at write.piece.items
after_step c Synced = content_synced c

-- a content after steps
abbrev pub after_steps : Content → List Step → Content
after_steps c [] = c
after_steps c (step ∷ steps) = after_steps (after_step c step) steps

-- the contents before the last of the steps, newest first, and then those of the past
abbrev pub contents_before : List Content → Content → List Step → List Content
contents_before past c [] = past
contents_before past c (step ∷ steps) = contents_before (c ∷ past) (after_step c step) steps

-- all moments of a disk that began with a content and took steps, newest first
abbrev pub moments : Content → List Step → List Content
moments c steps = after_steps c steps ∷ contents_before [] c steps

pub after_steps-push : (c : Content) (steps : List Step) (step : Step) → after_steps c (steps ++ step ∷ []) ≡ after_step (after_steps c steps) step
after_steps-push c [] step = refl
after_steps-push c (first ∷ steps) step = after_steps-push (after_step c first) steps step

pub contents_before-push : (past : List Content) (c : Content) (steps : List Step) (step : Step)
    → contents_before past c (steps ++ step ∷ []) ≡ after_steps c steps ∷ contents_before past c steps
contents_before-push past c [] step = refl
contents_before-push past c (first ∷ steps) step = contents_before-push (c ∷ past) (after_step c first) steps step

-- What a write more makes of the bytes that are read, where the step's piece is a copy; where the write wasn't kept, nothing changed.
pub write-tied : {T E : Type 0} (c : Content) (steps more : List Step) (bytes now piece : List ℕ) (at : ℕ) (r : Result T E)
    → OnOk r (now ≡ overwritten bytes at piece) → OnOk r (Keeps steps more at piece) → OnErr r (now ≡ bytes) → OnErr r (more ≡ steps)
    → bytes ≡ (after_steps c steps).bytes → now ≡ (after_steps c more).bytes
write-tied c steps more bytes now piece at (Ok x) written pushed stay same tied =
    rw (pushed.3, after_steps-push c steps (Wrote pushed.0), written, tied, pushed.1, pushed.2) refl
write-tied c steps more bytes now piece at (Err e) written pushed stay same tied = rw (same, stay) tied

-- and of the moments
pub write-told : (c : Content) (steps more : List Step) (piece : List ℕ) (at : ℕ)
    → Keeps steps more at piece → moments c more ≡ told_written (moments c steps) at piece
write-told c steps more piece at pushed =
    rw (pushed.3, after_steps-push c steps (Wrote pushed.0), contents_before-push [] c steps (Wrote pushed.0), pushed.1, pushed.2) refl

-- what a sync more makes of both
pub sync-tied : (c : Content) (steps more : List Step) (bytes : List ℕ) (ok : Bool)
    → more ≡ (if ok then steps ++ Synced ∷ [] else steps) → bytes ≡ (after_steps c steps).bytes → bytes ≡ (after_steps c more).bytes
sync-tied c steps more bytes true pushed tied = rw (pushed, after_steps-push c steps Synced) tied
sync-tied c steps more bytes false same tied = rw same tied

pub sync-told : (c : Content) (steps more : List Step) → more ≡ steps ++ Synced ∷ [] → moments c more ≡ told_synced (moments c steps)
sync-told c steps more pushed = rw (pushed, after_steps-push c steps Synced, contents_before-push [] c steps Synced) refl
