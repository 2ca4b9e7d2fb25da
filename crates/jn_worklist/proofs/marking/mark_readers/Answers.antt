use Rattle.std.proofs.Common.{◌<◌, length, sym, ◌∙◌, arith}
use Rattle.std.proofs.lemmas.Option.{get_or_from_slice_get}
use Rattle.jn_worklist.proofs.DueBy.{readers_less}
use Rattle.jn_worklist.proofs.PlanFacts.{lists_here}
use Rattle.jn_worklist.proofs.marking.mark_readers.Goals as goal

pub mark_one-requires-clause-inside : goal.mark_one-requires-clause-inside
mark_one-requires-clause-inside g c =
    let inside : c.loop-at.at < length c.args.readers.now = let t = c.loop-at-test.true in let l = c.len-at-end.ensures in omega arith in
    c.requires.room c.at.result.0 (lists_here c.args.readers.now c.loop-at.at c.at.result inside (sym (get_or_from_slice_get c.args.readers.now c.loop-at.at c.at.result c.at.result c.at.ensures)))

pub loop-at-preserved : goal.loop-at-preserved
loop-at-preserved g c =
    let inside : c.loop-at.at < length c.args.readers.now = let t = c.loop-at-test.true in let l = c.len-at-end.ensures in omega arith in
    let m = c.mark_one.ensures.marking in
    let i = c.loop-at.invariant.marking in
    record {
      marking = record { own = m.own; count = m.count; marking = record { same_share = m.marking.same_share ∙ i.marking.same_share; same_taken = m.marking.same_taken ∙ i.marking.same_taken; body = m.marking.body; read = m.marking.read; raised = m.marking.raised; owes = m.marking.owes; own = m.marking.own } };
      left = readers_less c.args.readers.now c.loop-at.at c.at.result c.args.due.now c.loop-at.due c.mark_one.new.due inside (sym (get_or_from_slice_get c.args.readers.now c.loop-at.at c.at.result c.at.result c.at.ensures)) c.loop-at.invariant.left c.mark_one.ensures.left;
    }
