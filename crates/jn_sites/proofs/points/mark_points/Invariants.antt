use Rattle.std.specs.Prelude.{flat_map}
use Rattle.jn_points.specs.Lookup.{point_at}
use Rattle.jn_points.specs.Members.{below}
use Rattle.jn_reasons.specs.declared.sources.Spot.{Spot}
use Rattle.jn_sites.specs.Marks.{point_marks, spot_of}
use Rattle.jn_sites.specs.Sites.{Adds}
use Rattle.jn_sites.proofs.points.mark_points.Given as goal

abbrev pub invariant-loop-at : goal.invariant-loop-at
invariant-loop-at l = Adds Spot (λ z. flat_map (λ p. point_marks (spot_of l.body.0 p) (point_at l.program l.body.0 p) z) (below l.at)) l.fn.sites l.sites
