use Rattle.std.proofs.lemmas.Result.{on_ok_weaker}
use Rattle.jn_dataflow.specs.Problem.{slot_at}
use Rattle.jn_basecheck.proofs.Gather.{readings_listed}
use Rattle.jn_basecheck.proofs.assigned.push_readings.Goals as goal

pub returns : goal.returns
returns c =
    let t = c.args.unwritten.now in
    on_ok_weaker c.push_list_readings.result
    (λ last. readings_listed c.args.program.now c.args.body (slot_at t c.args.at) c.args.operands.now c.args.rows.now.items c.push_optional_reading.new.rows.items c.push_optional_reading-2.new.rows.items c.push_optional_reading-3.new.rows.items c.push_list_readings.new.rows.items
    c.in_ok-push_optional_reading.ensures c.in_ok-push_optional_reading-2.ensures c.in_ok-push_optional_reading-3.ensures last)
    c.push_list_readings.ensures
