use Rattle.std.proofs.Common.{◌≡◌, ◌≤◌, ◌<◌, Some, None, length, ap, sym, ◌∙◌, arith}
use Rattle.std.specs.Prelude.{slice_get}
use Rattle.std.proofs.lemmas.Option.{slice_get-get_or, slice_get_past}
use Rattle.jn_points.specs.Lookup.{point_at}
use Rattle.jn_env.specs.Order.{env_in}
use Rattle.jn_voided.specs.Courses.{not_passed}
use Rattle.jn_voided.specs.Voided.{course, passed_at}
use Rattle.jn_voided.proofs.Listing.{all_points, none_first, one_more}
use Rattle.jn_voided.proofs.course.find_course.Goals as goal

pub loop-at-init : goal.loop-at-init
loop-at-init c = none_first (course c.args.analysis.now.program c.args.analysis.now.sig c.args.analysis.now.body c.args.slots.now c.args.key) not_passed c.new-course.result.items c.new-course.ensures.items

pub loop-at-preserved : goal.loop-at-preserved
loop-at-preserved c =
    let P = c.args.analysis.now.program in
    let s = c.args.analysis.now.sig in
    let b = c.args.analysis.now.body in
    let t = c.args.slots.now in
    let k = c.args.key in
    let points = c.args.points.now in
    let at = c.loop-at.at in
    let lt : at < length points = omega (arith, c.loop-at-test.true) in
    let here = slice_get-get_or points at c.index-points-at.result lt ∙ ap (λ x. Some x) (sym c.index-points-at.is) in
    let point : point_at P b at ≡ Some c.index-points-at.result = ap (λ xs. slice_get xs at) (sym c.requires.points) ∙ here in
    one_more (course P s b t k) not_passed at c.loop-at.course.items c.put.new.items.items c.in_ok-passed.passed c.loop-at.invariant (c.in_ok-passed.ensures ∙ ap (λ o. passed_at P s b k at o (env_in t at)) (sym point)) c.in_ok-put.ensures

pub returns : goal.returns
returns c =
    let P = c.args.analysis.now.program in
    let s = c.args.analysis.now.sig in
    let b = c.args.analysis.now.body in
    let t = c.args.slots.now in
    let k = c.args.key in
    let points = c.args.points.now in
    let many = c.loop-at.invariant.many in
    record {
      long = omega (arith, many, c.loop-at-test.false, c.loop-at.auto.at-end);
      course = all_points (course P s b t k) not_passed c.loop-at.at c.loop-at.course.items c.loop-at.invariant (λ p le.
          let past : length points ≤ p = omega (arith, le, c.loop-at-test.false) in
          let none : point_at P b p ≡ None = ap (λ xs. slice_get xs p) (sym c.requires.points) ∙ slice_get_past points p past in
          ap (λ o. passed_at P s b k p o (env_in t p)) none);
    }
