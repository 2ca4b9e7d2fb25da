use Rattle.std.proofs.Common.{◌≡◌, ◌++◌, drop}
use Rattle.jn_origins.specs.Standing.{standing}
use Rattle.jn_origins.proofs.standing.standing.Given as goal

abbrev pub invariant-loop-cause : goal.invariant-loop-cause
invariant-loop-cause l = l.list.items ++ standing l.sig l.tables (drop l.cause-index l.causes) ≡ standing l.sig l.tables l.causes
