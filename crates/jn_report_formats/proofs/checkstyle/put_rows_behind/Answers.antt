use Rattle.jn_report_formats.proofs.Behind.{row_more}
use Rattle.jn_report_formats.proofs.checkstyle.put_rows_behind.Goals as goal

pub loop-row-preserved : goal.loop-row-preserved
loop-row-preserved c = row_more c.put_next.new.out.items c.loop-row.out.items _ c.loop-row.last.now.name c.args.rest.now c.loop-row.row-index c.row-item.result c.loop-row-test.true c.row-item.is c.in_ok-put_next.ensures c.loop-row.invariant
