use Rattle.std.proofs.Common.{◌≡◌, ◌++◌, drop}
use Rattle.jn_type_notes.specs.Mismatched.{bodies_found}
use Rattle.jn_type_notes.proofs.points.put_bodies.Given as goal

abbrev pub invariant-loop-body : goal.invariant-loop-body
invariant-loop-body l = l.found ++ bodies_found l.program l.body (drop l.body l.bodies) ≡ l.fn.found ++ bodies_found l.program 0 l.bodies
