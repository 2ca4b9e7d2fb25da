use Rattle.std.proofs.Common.{◌<◌, length, sym, ◌∙◌, arith}
use Rattle.std.proofs.lemmas.Option.{get_or_from_slice_get}
use Rattle.jn_worklist.proofs.PlanFacts.{due_more, lists_here}
use Rattle.jn_worklist.proofs.bits.add_bodies.Goals as goal

pub add_body-requires : goal.add_body-requires
add_body-requires c =
    let inside : c.loop-at.at < length c.args.bodies.now = let t = c.loop-at-test.true in let l = c.len-at-end.ensures in omega arith in
    let fits = c.requires.room c.at.result.0 (lists_here c.args.bodies.now c.loop-at.at c.at.result inside (sym (get_or_from_slice_get c.args.bodies.now c.loop-at.at c.at.result c.at.result c.at.ensures))) in
    let same = c.loop-at.invariant.0 in omega arith

pub loop-at-preserved : goal.loop-at-preserved
loop-at-preserved c =
    let inside : c.loop-at.at < length c.args.bodies.now = let t = c.loop-at-test.true in let l = c.len-at-end.ensures in omega arith in (
      c.add_body.ensures.count ∙ c.loop-at.invariant.0,
      due_more c.args.bodies.now c.loop-at.at c.at.result c.args.due.now c.loop-at.due c.add_body.new.due inside (sym (get_or_from_slice_get c.args.bodies.now c.loop-at.at c.at.result c.at.result c.at.ensures)) c.loop-at.invariant.1 c.add_body.ensures.bits,
    )
