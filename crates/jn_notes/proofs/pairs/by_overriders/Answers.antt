use Rattle.std.proofs.Common.{◌<◌, ◌≤◌, Some, length, sym, ap, ◌∙◌, arith}
use Rattle.jn_notes.proofs.Firsts.{next_none, next_found, next_done}
use Rattle.jn_notes.proofs.Nearby.{near_item, listed_item}
use Rattle.jn_notes.specs.Asked.{slot_item}
use Rattle.jn_notes.proofs.pairs.by_overriders.Goals as goal

pub loop-j-init : goal.loop-j-init
loop-j-init c = near_item c.args.program.now c.args.sig.now c.args.span c.args.part c.args.overriders.now c.requires.overriders

pub returns-then-is_some : goal.returns-then-is_some
returns-then-is_some c =
    let f = listed_item c.args.program.now c.args.sig.now c.args.span c.args.part in
    let list = c.args.overriders.now in
    let lt : c.loop-j.j < length list = omega (arith, c.loop-j-test.true) in
    next_found f list c.loop-j.j c.index-overriders-j.result c.by_overrider-found.result (slot_item c.args.program.now c.args.sig.now c.args.span (Some c.args.part)) lt
    (c.by_overrider-found.ensures ∙ ap f c.index-overriders-j.is) (sym c.is_some.ensures ∙ c.if-is_some.true) c.loop-j.invariant

pub loop-j-preserved : goal.loop-j-preserved
loop-j-preserved c =
    let f = listed_item c.args.program.now c.args.sig.now c.args.span c.args.part in
    let list = c.args.overriders.now in
    let lt : c.loop-j.j < length list = omega (arith, c.loop-j-test.true) in
    next_none f list c.loop-j.j c.index-overriders-j.result c.by_overrider-found.result (slot_item c.args.program.now c.args.sig.now c.args.span (Some c.args.part)) lt
    (c.by_overrider-found.ensures ∙ ap f c.index-overriders-j.is) (sym c.is_some.ensures ∙ c.if-is_some.false) c.loop-j.invariant

pub returns : goal.returns
returns c =
    let f = listed_item c.args.program.now c.args.sig.now c.args.span c.args.part in
    let list = c.args.overriders.now in
    let le : length list ≤ c.loop-j.j = omega (arith, c.loop-j-test.false) in
    next_done f list c.loop-j.j (slot_item c.args.program.now c.args.sig.now c.args.span (Some c.args.part)) le c.loop-j.invariant
