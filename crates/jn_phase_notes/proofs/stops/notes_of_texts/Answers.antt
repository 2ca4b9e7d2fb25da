use Rattle.std.proofs.Common.{◌<◌, length, arith}
use Rattle.jn_front.specs.Files.{files_of_reads}
use Rattle.jn_phase_notes.proofs.Stopping.{row_more}
use Rattle.jn_phase_notes.proofs.stops.notes_of_texts.Goals as goal

pub loop-row-preserved : goal.loop-row-preserved
loop-row-preserved c =
    let lt : c.loop-row.row-index < length c.args.rows.now = omega (arith, c.loop-row-test.true) in
    row_more (files_of_reads c.args.reads.now) c.args.rows.now c.loop-row.row-index _ c.in_ok-notes.notes c.loop-row.list.items c.put.new.items.items lt c.in_ok-notes.ensures c.in_ok-put.ensures c.loop-row.invariant
