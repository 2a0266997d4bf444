-- What a snapshot was read as.
use Rattle.std.proofs.Common.{◌≡◌, ℕ, List, [], ◌∷◌, Option, Some, None, Ok, refl, ap, subst}
use Rattle.ge_execd.specs.declared.daemon.Daemon.{Daemon}
use Rattle.ge_keeping.specs.Reading.{ReadsPart}
use Rattle.ge_model_keeping.specs.Reading.{or_at}
use Rattle.ge_model_keeping.specs.Wholes.{in_snapshot}

-- a snapshot without bytes is that of the first value, and another one that of the value that its bytes are
pub first-part : (part : List ℕ → Option Daemon) (first : Daemon) (bytes : List ℕ) → bytes ≡ [] → in_snapshot part first bytes ≡ Ok first
first-part part first bytes none = ap (in_snapshot part first) none

reads-part : (part : List ℕ → Option Daemon) (first : Daemon) (o : Option Daemon) → ReadsPart o (or_at 18 o) 18
reads-part part first None = refl
reads-part part first (Some d) = refl

pub snapshot-part : (part : List ℕ → Option Daemon) (first : Daemon) (bytes : List ℕ) (o : Option Daemon) → (bytes ≡ [] → ⊥) → o ≡ part bytes → ReadsPart o (in_snapshot part first bytes) 18
snapshot-part part first [] o some is = absurd (some refl)
snapshot-part part first (b ∷ bytes) o some is = subst (λ x. ReadsPart o (or_at 18 x) 18) is (reads-part part first o)
