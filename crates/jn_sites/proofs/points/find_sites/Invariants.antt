use Rattle.std.specs.Prelude.{flat_map}
use Rattle.jn_points.specs.Members.{below}
use Rattle.jn_reasons.specs.declared.sources.Spot.{Spot}
use Rattle.jn_sites.specs.Marks.{body_marks}
use Rattle.jn_sites.specs.Sites.{AreKept}
use Rattle.jn_sites.proofs.points.find_sites.Given as goal

abbrev pub invariant-loop-body : goal.invariant-loop-body
invariant-loop-body l = AreKept Spot (λ z. flat_map (λ b. body_marks l.program b z) (below l.body)) l.sites
