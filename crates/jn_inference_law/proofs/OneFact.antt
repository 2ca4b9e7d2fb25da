-- That a program can be inferred is one fact.
use Rattle.std.specs.Prelude.{ℕ, Option, Some, None}
use Rattle.std.specs.Coded.{Unit-prop, le_prop}
use Rattle.jn_base.specs.declared.number.PointNo.{PointNo}
use Rattle.jn_points.specs.declared.program.Program.{Program}
use Rattle.jn_transfer.specs.Sized.{Below}
use Rattle.jn_tables_law.specs.Inferable.{IsInferable}

below_prop : (n : ℕ) (o : Option PointNo) → IsProp (Below n o)
below_prop n None = Unit-prop
below_prop n (Some to) = le_prop

pub inferable_prop : (P : Program) → IsProp (IsInferable P)
inferable_prop P = hlevel (le_prop, below_prop)
