use Rattle.std.proofs.Common.{◌≡◌, drop}
use Rattle.jn_notes.specs.Asked.{by_asks}
use Rattle.jn_notes.specs.Asks.{ask_each}
use Rattle.jn_notes.proofs.reads.by_each.Given as goal

abbrev pub invariant-loop-value : goal.invariant-loop-value
invariant-loop-value l = by_asks l.sought l.spot.body.0 l.spot.point.0 l.env (ask_each (drop l.value-index l.values) l.taken) ≡ by_asks l.sought l.spot.body.0 l.spot.point.0 l.env (ask_each l.values l.taken)
