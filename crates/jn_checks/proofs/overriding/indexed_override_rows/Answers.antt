use Rattle.std.proofs.Common.{[], length}
use Rattle.std.specs.Prelude.{flat_map}
use Rattle.jn_points.specs.Members.{below}
use Rattle.jn_transfer.specs.Rules as spec
use Rattle.jn_checks.proofs.Pairs.{rows_more}
use Rattle.jn_checks.proofs.overriding.indexed_override_rows.Goals as goal

pub loop-m-preserved : goal.loop-m-preserved
loop-m-preserved c = rows_more (λ m. flat_map (spec.pair_rows c.args.program.now c.args.sig.now m) (below (length c.args.program.now.methods))) c.loop-m.m [] c.loop-m.rows.items c.push_all_found.new.rows.items c.loop-m.invariant c.in_ok-push_all_found.ensures
