-- Numbers that are listed once each.
use Rattle.std.specs.Prelude.{◌≡◌, ℕ}
use Rattle.std.specs.BTreeSet.{contains}
use Rattle.std.specs.Ordering.{nat_cmp}
use Rattle.ge_model_rows.specs.Pieces.{lists_number}
use Rattle.ge_job_options.specs.declared.numbers.Listed.{Listed}

-- the set has the numbers of the list
abbrev pub Knows : Listed → Type 0
Knows listed = (q : ℕ) → contains nat_cmp listed.seen q ≡ lists_number listed.numbers q
