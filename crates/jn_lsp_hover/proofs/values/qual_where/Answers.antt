use Rattle.std.proofs.Common.{subst, sym}
use Rattle.jn_env.specs.Order.{Table}
use Rattle.jn_env.specs.Sized.{Sized}
use Rattle.jn_tables_law.proofs.Climbing.{sized_at}
use Rattle.jn_lsp_hover.proofs.values.qual_where.Goals as goal

pub qual_by-requires-clause-sized : goal.qual_by-requires-clause-sized
qual_by-requires-clause-sized c =
    let P = c.args.program.now in
    let b = c.args.spot.body in
    let sized : Sized P b c.table_of.result.now = subst (λ (t : Table). Sized P b t) (sym c.table_of.ensures) (c.requires.sized b c.requires.inside) in
    sized_at P b c.table_of.result.now c.args.spot.point c.in-Some.env.now sized c.in-Some.ensures
