use Rattle.std.proofs.Common.{get_or}
use Rattle.std.proofs.lemmas.List.{get_or_default}
use Rattle.jn_base.specs.declared.number.WordNo.{WordNo}
use Rattle.jn_worklist.proofs.PlanSteps.{planned_body, planned_more, word_inside}
use Rattle.jn_worklist.proofs.planning.add_readers.Goals as goal

pub add_reader-requires : goal.add_reader-requires
add_reader-requires g c =
    let i = c.loop-word.word-index in
    let ws = c.args.words.now in
    let x : WordNo = get_or ws i (record { 0 = 0 }) in
    word_inside (g.C.Constraints.describe c.args.system.now) c.args.body _ c.loop-word.readers ws i x c.loop-word-test.true (get_or_default ws i (record { 0 = 0 }) x c.loop-word-test.true) c.requires.list c.loop-word.invariant

pub loop-word-preserved : goal.loop-word-preserved
loop-word-preserved g c =
    let i = c.loop-word.word-index in
    let ws = c.args.words.now in
    let x : WordNo = get_or ws i (record { 0 = 0 }) in
    planned_more (g.C.Constraints.describe c.args.system.now) c.args.body c.loop-word.readers c.add_reader.new.readers ws i x c.loop-word-test.true (get_or_default ws i (record { 0 = 0 }) x c.loop-word-test.true) c.requires.list c.in_ok-add_reader.ensures c.loop-word.invariant

pub returns : goal.returns
returns g c = planned_body (g.C.Constraints.describe c.args.system.now) c.args.body c.loop-word.readers c.args.words.now c.loop-word.word-index c.loop-word-test.false c.requires.list c.loop-word.invariant
