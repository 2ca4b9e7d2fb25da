use Rattle.std.proofs.Common.{◌≡◌, ◌++◌, drop}
use Rattle.jn_reasons.specs.Listed.{placed}
use Rattle.jn_origins.proofs.adding.add_placed.Given as goal

abbrev pub invariant-loop-source : goal.invariant-loop-source
invariant-loop-source l = l.list.items ++ placed l.place (drop l.source-index l.sources) ≡ l.fn.list.items ++ placed l.place l.sources
