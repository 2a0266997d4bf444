-- A limit that a grant counts for, as the model has it.
use Rattle.std.specs.Prelude.{List, map}
use Rattle.ge_model_place.specs.Limits.{Counted as Limited}
use Rattle.ge_capacities.specs.declared.counting.Counted.{Counted}

abbrev pub counted_as : Counted → Limited
counted_as counted = record {
  limit = counted.limit;
  capacity = counted.capacity;
  amount = counted.amount;
  once = counted.once;
}

abbrev pub all_counted : List Counted → List Limited
all_counted counted = map counted_as counted
