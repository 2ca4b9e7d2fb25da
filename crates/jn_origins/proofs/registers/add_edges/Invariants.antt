use Rattle.std.proofs.Common.{◌≡◌, ◌++◌, drop}
use Rattle.jn_reasons.specs.Listed.{over_edges}
use Rattle.jn_origins.proofs.registers.add_edges.Given as goal

abbrev pub invariant-loop-edge : goal.invariant-loop-edge
invariant-loop-edge l = l.list.items ++ over_edges l.program l.spot.body.0 l.wanted.point.0 l.wanted.reg.0 l.wanted.bit l.spot.point.0 l.kind l.env (drop l.edge-index l.edges) ≡ l.fn.list.items ++ over_edges l.program l.spot.body.0 l.wanted.point.0 l.wanted.reg.0 l.wanted.bit l.spot.point.0 l.kind l.env l.edges
