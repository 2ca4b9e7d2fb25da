use Rattle.std.proofs.Common.{◌≡◌, ◌++◌, drop}
use Rattle.std.specs.Prelude.{map}
use Rattle.jn_voided.specs.Voided.{way}
use Rattle.jn_voided.proofs.course.ways_of.Given as goal

abbrev pub invariant-loop-edge : goal.invariant-loop-edge
invariant-loop-edge l = l.ways.items ++ map (way l.analysis.program l.analysis.sig l.analysis.body l.key) (drop l.edge-index l.edges) ≡ map (way l.analysis.program l.analysis.sig l.analysis.body l.key) l.edges
