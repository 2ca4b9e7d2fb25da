use Rattle.std.proofs.Common.{◌≡◌, ◌++◌}
use Rattle.std.specs.Prelude.{flat_map}
use Rattle.jn_points.specs.Members.{below}
use Rattle.jn_notes.specs.Spoken.{left_in}
use Rattle.jn_notes.proofs.lefts.put_bodies.Given as goal

abbrev pub invariant-loop-body : goal.invariant-loop-body
invariant-loop-body l = l.topics.items ≡ l.fn.topics.items ++ flat_map (left_in l.basis.program.now l.basis.sig.now l.span l.basis.tables.now) (below l.body)
