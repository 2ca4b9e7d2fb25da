-- The least signature of a program.
use Rattle.std.specs.Prelude.{List}
use Rattle.jn_quals.specs.Qualifier.{Qualifier}
use Rattle.jn_points.specs.declared.program.Program.{Program}
use Rattle.jn_env.specs.Order.{QualsWithin}
use Rattle.jn_transfer.specs.Closing.{IsClosed, IsNotBelowStart}

-- closed under all tasks, not below the start, and within every signature that is both
pub record IsLeastSignature (P : Program) (s : List Qualifier) : Type 0 where
  pub closed : IsClosed P s
  pub starts : IsNotBelowStart P s
  pub least : (t : List Qualifier) → IsClosed P t → IsNotBelowStart P t → QualsWithin s t
