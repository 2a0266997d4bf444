-- Several readings one after the other: their values side by side, and the refusals of all.
use Rattle.std.specs.Prelude.{◌++◌}
use Rattle.ge_model_config.specs.Cited.{Read}

module _ {A B : Type 0} where
  abbrev pub both : Read A → Read B → Read (A × B)
  both a b = ((a.0, b.0), a.1 ++ b.1)

module _ {A B C : Type 0} where
  abbrev pub three : Read A → Read B → Read C → Read (A × B × C)
  three a b c = ((a.0, b.0, c.0), a.1 ++ b.1 ++ c.1)

module _ {A B C D : Type 0} where
  abbrev pub four : Read A → Read B → Read C → Read D → Read (A × B × C × D)
  four a b c d = ((a.0, b.0, c.0, d.0), a.1 ++ b.1 ++ c.1 ++ d.1)

module _ {A B C D E : Type 0} where
  abbrev pub five : Read A → Read B → Read C → Read D → Read E → Read (A × B × C × D × E)
  five a b c d e = ((a.0, b.0, c.0, d.0, e.0), a.1 ++ b.1 ++ c.1 ++ d.1 ++ e.1)
