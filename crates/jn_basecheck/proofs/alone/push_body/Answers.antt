use Rattle.std.proofs.Common.{subst}
use Rattle.jn_basecheck.specs.Rows.{Adds, TypeRows, PathRow}
use Rattle.jn_basecheck.proofs.Gather.{adds_then}
use Rattle.jn_basecheck.proofs.alone.push_body.Goals as goal

pub returns : goal.returns
returns c =
    let P = c.args.program.now in
    let b = c.args.body in
    let old = c.args.rows.now.items in
    let typed = c.push_body_types.new.rows.items in
    let new = c.push_on_paths.new.rows.items in
    adds_then (TypeRows P b) (PathRow P b) old typed new c.in_ok-push_body_types.ensures (subst (λ Q. Adds (PathRow Q b) typed new) c.program-lists.ensures c.in_ok-push_on_paths.ensures)
