-- The least signature where bodies alone send.
use Rattle.std.specs.Prelude.{List}
use Rattle.jn_quals.specs.Qualifier.{Qualifier}
use Rattle.jn_points.specs.declared.program.Program.{Program}
use Rattle.jn_env.specs.Order.{QualsWithin}
use Rattle.jn_transfer.specs.Closing.{IsClosedUnderBodies, IsNotBelowStart}

-- closed under the bodies, not below the start, and within every signature that is both
pub record IsLeastOfBodies (P : Program) (s : List Qualifier) : Type 0 where
  pub closed : IsClosedUnderBodies P s
  pub starts : IsNotBelowStart P s
  pub least : (t : List Qualifier) → IsClosedUnderBodies P t → IsNotBelowStart P t → QualsWithin s t
