use Rattle.std.proofs.lemmas.Result.{on_ok_weaker}
use Rattle.jn_basecheck.specs.Rows.{UnassignedRows, ResultRows}
use Rattle.jn_basecheck.proofs.Gather.{adds_then}
use Rattle.jn_basecheck.proofs.alone.push_on_paths.Goals as goal

pub returns : goal.returns
returns c =
    let P = c.args.program.now in
    let b = c.args.body in
    let old = c.args.rows.now.items in
    let read = c.push_unassigned.new.rows.items in
    let new = c.push_results.new.rows.items in
    on_ok_weaker c.push_results.result (adds_then (UnassignedRows P b) (ResultRows P b) old read new c.in_ok-push_unassigned.ensures) c.push_results.ensures
