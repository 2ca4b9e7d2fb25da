use Rattle.std.proofs.Common.{◌≤◌, None, false, length, ap, ◌∙◌, arith}
use Rattle.jn_voided.specs.Courses.{is_there}
use Rattle.jn_voided.specs.Turning.{turn_at, turn_in}
use Rattle.jn_voided.proofs.Listing.{all_points, beyond, none_first, one_more}
use Rattle.jn_voided.proofs.turns.marks_of.Goals as goal

pub loop-at-init : goal.loop-at-init
loop-at-init c = none_first (λ p. is_there (turn_at c.args.slots.now p)) false c.new-marks.result.items c.new-marks.ensures.items

pub loop-at-preserved : goal.loop-at-preserved
loop-at-preserved c =
    let slots = c.args.slots.now in
    one_more (λ p. is_there (turn_at slots p)) false c.loop-at.at c.loop-at.marks.items c.put.new.items.items c.is_there.result c.loop-at.invariant (c.is_there.ensures ∙ ap is_there c.turn_at.ensures) c.in_ok-put.ensures

pub returns : goal.returns
returns c =
    let slots = c.args.slots.now in
    all_points (λ p. is_there (turn_at slots p)) false c.loop-at.at c.loop-at.marks.items c.loop-at.invariant (λ p le. let past : length slots ≤ p = omega (arith, le, c.loop-at-test.false) in ap (λ o. is_there (turn_in o)) (beyond None slots p past))
