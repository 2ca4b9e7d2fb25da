use Rattle.std.proofs.Common.{inl, refl, sym, subst}
use Rattle.jn_dataflow.specs.Problem.{IsAmong}
use Rattle.jn_dataflow.proofs.Settling.{one_edge, one_goes_on}
use Rattle.jn_dataflow.proofs.blocks.goes_on.Goals as goal

pub at-requires : goal.at-requires
at-requires g c =
    let x = c.edge-item.result in
    c.requires x (subst (λ ys. IsAmong x ys) (sym (one_edge c.args.edges.now x c.in-len1.len_at_least c.in-len1.len_below c.edge-item.is)) (inl refl))

pub returns-then-is_next : goal.returns-then-is_next
returns-then-is_next g c =
    let xs = c.args.edges.now in
    let x = c.edge-item.result in
    one_goes_on c.args.at c.args.starts.now xs x c.is_next.result c.at.result (one_edge xs x c.in-len1.len_at_least c.in-len1.len_below c.edge-item.is) c.is_next.ensures c.if-is_next.true c.at.ensures
