use Rattle.std.proofs.Common.{take}
use Rattle.jn_reasons.specs.declared.sources.Spot.{Spot}
use Rattle.jn_sites.specs.Marks.{marks}
use Rattle.jn_sites.specs.Sites.{Adds}
use Rattle.jn_sites.proofs.points.mark_each.Given as goal

abbrev pub invariant-loop-value : goal.invariant-loop-value
invariant-loop-value l = Adds Spot (marks l.spot (take l.value-index l.values)) l.fn.sites l.sites
