use Rattle.std.proofs.Common.{arith}
use Rattle.jn_member_tables.proofs.Rounds.{lower_rooted}
use Rattle.jn_member_tables.proofs.tables.add_others.Goals as goal

pub loop-round-preserved : goal.loop-round-preserved
loop-round-preserved c =
    let before = c.loop-round.invariant in
    let after = c.in_ok-add_round.ensures in
    record {
      are = after.are;
      low = lower_rooted c.args.program.now _ _ c.loop-round._round before.are.long before.low after.ready;
    }

pub returns-clause-all : goal.returns-clause-all
returns-clause-all c = λ C k lt. c.loop-round.invariant.low C k lt (omega (arith, C.few k, c.loop-round-test.false, c.len-round-end.ensures))
