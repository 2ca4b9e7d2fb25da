use Rattle.std.proofs.Common.{get_or, length, ap, arith}
use Rattle.std.proofs.lemmas.List.{get_or_default}
use Rattle.jn_base.specs.declared.number.WordNo.{WordNo}
use Rattle.jn_sigtable.specs.Words.{system_of, view_of}
use Rattle.jn_worklist.proofs.RunSteps.{reads_more, word_read}
use Rattle.jn_worklist.proofs.reading.read_all.Goals as goal

pub read_word-requires-clause-range : goal.read_word-requires-clause-range
read_word-requires-clause-range g c =
    let i = c.loop-word.word-index in
    let ws = c.args.reads.now in
    let x : WordNo = get_or ws i (record { 0 = 0 }) in
    (word_read (g.C.Constraints.describe (system_of c.args.task.now.table.now)) c.args.task.now.body.0 ws i x c.loop-word-test.true (get_or_default ws i (record { 0 = 0 }) x c.loop-word-test.true) c.requires.list).0

pub read_word-requires-clause-runs : goal.read_word-requires-clause-runs
read_word-requires-clause-runs g c =
    let i = c.loop-word.word-index in
    let ws = c.args.reads.now in
    let x : WordNo = get_or ws i (record { 0 = 0 }) in
    (c.args.task.now.body.0, c.loop-word.invariant.reading.body, (word_read (g.C.Constraints.describe (system_of c.args.task.now.table.now)) c.args.task.now.body.0 ws i x c.loop-word-test.true (get_or_default ws i (record { 0 = 0 }) x c.loop-word-test.true) c.requires.list).1)

pub bounds-values-word : goal.bounds-values-word
bounds-values-word g c =
    let i = c.loop-word.word-index in
    let ws = c.args.reads.now in
    let x : WordNo = get_or ws i (record { 0 = 0 }) in
    let lt = (word_read (g.C.Constraints.describe (system_of c.args.task.now.table.now)) c.args.task.now.body.0 ws i x c.loop-word-test.true (get_or_default ws i (record { 0 = 0 }) x c.loop-word-test.true) c.requires.list).0 in
    let n = c.loop-word.invariant.reading.count in
    let e = ap length c.loop-word.invariant.reading.are in
    omega (arith, lt, n, e)

pub loop-word-preserved : goal.loop-word-preserved
loop-word-preserved g c =
    let i = c.loop-word.word-index in
    let ws = c.args.reads.now in
    let x : WordNo = get_or ws i (record { 0 = 0 }) in
    record {
      own = c.read_word.ensures.own;
      reading = reads_more g.C.Constraints.describe (g.C.Constraints.describe (system_of c.args.task.now.table.now)) c.args.task.now.body.0 (view_of c.args.pass.now) (view_of c.loop-word.pass) (view_of c.read_word.new.pass) c.loop-word.values ws i x c.read_word.result c.loop-word-test.true (get_or_default ws i (record { 0 = 0 }) x c.loop-word-test.true) c.loop-word.invariant.reading c.read_word.ensures.view;
    }
