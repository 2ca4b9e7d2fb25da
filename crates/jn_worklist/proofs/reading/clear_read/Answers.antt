use Rattle.std.proofs.Common.{◌≤◌, get_or, length, arith}
use Rattle.std.proofs.lemmas.List.{get_or_default}
use Rattle.jn_base.specs.declared.number.WordNo.{WordNo}
use Rattle.jn_worklist.proofs.RunSteps.{cleared_all, word_there}
use Rattle.jn_worklist.proofs.reading.clear_read.Goals as goal

pub bounds-values-word : goal.bounds-values-word
bounds-values-word c =
    let i = c.loop-word.word-index in
    let ws = c.args.reads.now in
    let x : WordNo = get_or ws i (record { 0 = 0 }) in
    let p = c.requires.inside x.0 (word_there ws i x c.loop-word-test.true (get_or_default ws i (record { 0 = 0 }) x c.loop-word-test.true)) in
    let n = c.loop-word.invariant.count in
    omega (arith, p, n)

pub returns : goal.returns
returns c =
    let past : length c.args.reads.now ≤ c.loop-word.word-index = let lo = c.loop-word-test.false in omega arith in
    cleared_all c.loop-word.values c.args.reads.now c.loop-word.word-index past c.loop-word.invariant.rest
