-- What holds of a program with an index.
use Rattle.std.specs.Prelude.{IfSome, Option}
use Rattle.jn_points.specs.declared.program.Program.{Program}
use Rattle.jn_index.specs.Index.{IsIndex, Lists}
use Rattle.jn_index.specs.Sizes.{Few}

-- its items have numbers of 32 bits, and an index that is there is the program's
pub record IsIndexed (P : Program) (index : Option Lists) : Type 0 where
  pub few : Few P
  pub is : IfSome index (λ i. IsIndex P i)
