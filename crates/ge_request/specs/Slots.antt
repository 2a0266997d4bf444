-- A range of slots as a request has room for it.
use Rattle.std.specs.Prelude.{ℕ}
use Rattle.ge_model_config.specs.Requests.{slots_cut}

-- both ends, each cut at the end of its type
abbrev pub both_cut : ℕ × ℕ → ℕ × ℕ
both_cut range = (slots_cut range.0, slots_cut range.1)
