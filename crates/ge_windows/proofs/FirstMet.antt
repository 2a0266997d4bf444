-- A walk over a table keeps the first value that it met under a name.
use Rattle.std.proofs.Common.{◌≡◌, Bool, true, false, cond, Option, Some, None, refl}
use Rattle.std.specs.Option.{option_or}

module _ {V : Type 0} where
  pub met_more : (met : Option V) (named : Bool) (value : V) (rest : Option V) → option_or (option_or met (cond named (Some value) None)) rest ≡ option_or met (cond named (Some value) rest)
  met_more None true value rest = refl
  met_more None false value rest = refl
  met_more (Some first) named value rest = refl

  pub met_all : (met : Option V) → option_or met None ≡ met
  met_all None = refl
  met_all (Some first) = refl
