-- What may be told.
use Rattle.std.proofs.Common.{◌≡◌, Option, Some, None, Result, Err, IfSome, IsErrOf, ap}

pub no_some : {T : Type 0} (x : T) → ◌≡◌ {A = Option T} None (Some x) → ⊥
no_some x is = cc

pub same_some : {T : Type 0} (x y : T) → ◌≡◌ {A = Option T} (Some x) (Some y) → x ≡ y
same_some x y is = cc

-- a fact of what is told, from another one
pub on-some : {T : Type 0} (P Q : T → Type 0) (o : Option T) → ((x : T) → P x → Q x) → IfSome o P → IfSome o Q
on-some P Q None weaker holds = tt
on-some P Q (Some x) weaker holds = weaker x holds

pub same_err : {T E : Type 0} (x y : E) → ◌≡◌ {A = Result T E} (Err x) (Err y) → x ≡ y
same_err x y is = cc

-- a fault that is handed on is the same one
pub handed-on : {T U E : Type 0} (fault known : E) → IsErrOf {T = T} {E = E} (Err fault) known → IsErrOf {T = U} {E = E} (Err fault) known
handed-on fault known is = ap (λ f. Err f) (same_err fault known is)
