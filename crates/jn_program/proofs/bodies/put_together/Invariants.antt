use Rattle.std.proofs.Common.{◌≡◌, map, flat_map}
use Rattle.jn_program.specs.Ranges.{body_of, rows_in}
use Rattle.jn_program.proofs.bodies.put_together.Given as goal

abbrev pub invariant-loop-one : goal.invariant-loop-one
invariant-loop-one l = (l.bodies ≡ map body_of l.yielded) × (l.rows ≡ flat_map rows_in l.yielded)
