use Rattle.std.proofs.Common.{arith}
use Rattle.jn_member_tables.proofs.Rounds.{kept_step, round_step}
use Rattle.jn_member_tables.proofs.tables.add_round.Goals as goal

pub loop-place-preserved : goal.loop-place-preserved
loop-place-preserved c =
    let before = c.loop-place.invariant in
    let after = c.in_ok-add_tree.ensures in
    record {
      are = after.are;
      kept = kept_step c.args.program.now _ _ _ before.kept after.kept;
      ready = round_step c.args.program.now _ _ _ before.kept after.kept c.loop-place.place (let now = before.are.long in let first = c.requires.are.long in omega (arith, now, first)) before.ready after.ready;
    }
