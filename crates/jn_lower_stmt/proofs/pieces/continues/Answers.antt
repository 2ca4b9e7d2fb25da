use Rattle.std.proofs.Common.{refl}
use Rattle.jn_lower_stmt.proofs.pieces.continues.Goals as goal

pub returns : goal.returns
returns c = let a = c.in_ok-jump.ensures c.args.ways.out.0 in record { adds = record { points = a.points; sized = a.sized; kept = a.kept }; behind = refl }
