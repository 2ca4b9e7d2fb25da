use Rattle.std.proofs.Common.{subst, sym, arith}
use Rattle.jn_basecheck.specs.Rows.{AreRowsOf}
use Rattle.jn_basecheck.proofs.Ranges.{no_rows_yet, rows_of_more}
use Rattle.jn_basecheck.proofs.sharing.rows_of.Goals as goal

pub returns : goal.returns
returns c =
    let P = c.args.program.now in
    let body = c.args.body in
    let none = subst (λ rows. AreRowsOf P body body rows) (sym c.new-rows.ensures.items) (no_rows_yet P body) in
    rows_of_more P body body c.new-rows.result.items c.push_body.new.rows.items (omega arith) none c.in_ok-push_body.ensures
