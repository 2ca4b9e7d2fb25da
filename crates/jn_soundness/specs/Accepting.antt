-- Accepted programs, by what is checked of them: regular and base-typed, the signature closed under all tasks and not below the start, and no rule broken.
use Rattle.std.specs.Prelude.{List, []}
use Rattle.jn_quals.specs.Qualifier.{Qualifier}
use Rattle.jn_points.specs.declared.program.Program.{Program}
use Rattle.jn_points.specs.BaseRows.{NoBaseRows}
use Rattle.jn_points.specs.Regular.{Regular}
use Rattle.jn_transfer.specs.Rules.{Breaks}
use Rattle.jn_transfer.specs.Closing.{IsClosed, IsNotBelowStart}

module _ (P : Program) (s : List Qualifier) where
  -- program P is accepted under signature s
  pub record IsAccepted : Type 0 where
    pub regular : Regular P
    pub typed : NoBaseRows P
    pub closed : IsClosed P s
    pub starts : IsNotBelowStart P s
    pub unbroken : Breaks P s []
