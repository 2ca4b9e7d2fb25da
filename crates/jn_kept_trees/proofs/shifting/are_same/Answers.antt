use Rattle.std.proofs.Common.{arith}
use Rattle.std.proofs.lemmas.List.{ext_get_or}
use Rattle.jn_base.specs.declared.number.NameNo.{NameNo}
use Rattle.jn_kept_trees.proofs.shifting.are_same.Goals as goal

pub returns-clause-same : goal.returns-clause-same
returns-clause-same c is =
    let zero : NameNo = record { 0 = 0 } in
    let all = c.loop-at-test.false in
    ext_get_or zero c.args.old.now c.args.new.now (let long = c.if-old-new.false in omega (arith, long)) (λ i lt. c.loop-at.invariant i zero (omega (arith, lt, all)))
