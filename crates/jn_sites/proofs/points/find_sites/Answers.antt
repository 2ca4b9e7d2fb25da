use Rattle.jn_reasons.specs.declared.sources.Spot.{Spot}
use Rattle.jn_sites.specs.Marks.{body_marks}
use Rattle.jn_sites.proofs.Siting.{number_kept}
use Rattle.jn_sites.proofs.points.find_sites.Goals as goal

pub loop-body-preserved : goal.loop-body-preserved
loop-body-preserved c = number_kept Spot (body_marks c.args.program.now) c.loop-body.body c.loop-body.sites c.mark_body.new.sites c.loop-body.invariant c.in_ok-mark_body.ensures
