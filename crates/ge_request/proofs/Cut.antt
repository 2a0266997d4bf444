-- A range of slots, cut.
use Rattle.std.proofs.Common.{◌≡◌, ℕ, refl}
use Rattle.std.specs.Prelude.{Option, Some, None}
use Rattle.std.specs.Option.{option_map, option_zip}
use Rattle.ge_model_config.specs.Requests.{slots_cut}
use Rattle.ge_request.specs.Slots.{both_cut}

pub zipped : (low high : Option ℕ) → option_zip (option_map slots_cut low) (option_map slots_cut high) ≡ option_map both_cut (option_zip low high)
zipped None high = refl
zipped (Some n) None = refl
zipped (Some n) (Some m) = refl
