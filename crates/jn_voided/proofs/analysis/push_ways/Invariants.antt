use Rattle.std.proofs.Common.{◌≡◌, ◌++◌, drop, length}
use Rattle.std.specs.Prelude.{flat_map}
use Rattle.jn_voided.specs.Courses.{passed_in}
use Rattle.jn_voided.specs.Turning.{along}
use Rattle.jn_voided.proofs.analysis.push_ways.Given as goal

abbrev pub invariant-loop-way : goal.invariant-loop-way
invariant-loop-way l = l.list.items ++ flat_map (along (length l.course) (passed_in l.course) l.wanted l.from) (drop l.way-index l.ways) ≡ l.fn.list.items ++ flat_map (along (length l.course) (passed_in l.course) l.wanted l.from) l.ways
