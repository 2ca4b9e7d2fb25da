use Rattle.std.proofs.Common.{List, get_or, ap, subst, ◌∙◌}
use Rattle.jn_base.specs.declared.number.WordNo.{WordNo}
use Rattle.jn_points.specs.declared.point.Point.{Point}
use Rattle.jn_points.specs.declared.program.Body.{Body}
use Rattle.jn_points.specs.Lookup.{method_in}
use Rattle.jn_inference_law.specs.Reading.{given_reads, points_reads}
use Rattle.jn_system.specs.ReadLists.{Adds}
use Rattle.jn_system.proofs.ListSteps.{points_there, body_list}
use Rattle.jn_system.proofs.listing.words_read.Goals as goal

pub returns : goal.returns
returns c =
    let P = c.args.program.now in
    let info = c.index-as_slice-body.result in
    body_list P c.args.count c.args.body.0 c.add_method.new.list.items c.add_points.new.list.items info.points
    (points_there P.bodies c.args.body.0 info c.requires.inside (c.index-as_slice-body.is ∙ ap (λ (l : List Body). get_or l c.args.body.0 info) c.as_slice.ensures))
    (subst (λ (l : List WordNo). Adds c.args.count (given_reads (method_in P c.args.body.0)) l c.add_method.new.list.items) c.new-list.ensures.items c.in_ok-add_method.ensures)
    (subst (λ (ps : List Point). Adds c.args.count (points_reads P ps) c.add_method.new.list.items c.add_points.new.list.items) c.as_slice-2.ensures c.in_ok-add_points.ensures)
