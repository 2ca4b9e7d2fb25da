use Rattle.std.proofs.Common.{◌≤◌, ◌<◌, Some, false, length, ap, sym, ◌∙◌, arith}
use Rattle.std.specs.Prelude.{slice_get}
use Rattle.std.proofs.lemmas.Option.{slice_get-get_or, slice_get_past}
use Rattle.jn_voided.specs.Voided.{makes}
use Rattle.jn_voided.proofs.Listing.{all_points, none_first, one_more}
use Rattle.jn_voided.proofs.course.find_makers.Goals as goal

pub loop-at-init : goal.loop-at-init
loop-at-init c = none_first (λ p. makes c.args.key (slice_get c.args.points.now p)) false c.new-found.result.items c.new-found.ensures.items

pub loop-at-preserved : goal.loop-at-preserved
loop-at-preserved c =
    let points = c.args.points.now in
    let at = c.loop-at.at in
    let lt : at < length points = omega (arith, c.loop-at-test.true) in
    let here = slice_get-get_or points at c.index-points-at.result lt ∙ ap (λ x. Some x) (sym c.index-points-at.is) in
    one_more (λ p. makes c.args.key (slice_get points p)) false at c.loop-at.found.items c.put.new.items.items c.makes.result c.loop-at.invariant (c.makes.ensures ∙ ap (λ o. makes c.args.key o) (sym here)) c.in_ok-put.ensures

pub returns : goal.returns
returns c =
    let points = c.args.points.now in
    all_points (λ p. makes c.args.key (slice_get points p)) false c.loop-at.at c.loop-at.found.items c.loop-at.invariant (λ p le. let past : length points ≤ p = omega (arith, le, c.loop-at-test.false) in ap (λ o. makes c.args.key o) (slice_get_past points p past))
