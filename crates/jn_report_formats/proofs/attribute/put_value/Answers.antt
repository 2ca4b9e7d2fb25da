use Rattle.jn_report_formats.proofs.Behind.{byte_more}
use Rattle.jn_report_formats.proofs.attribute.put_value.Goals as goal

pub loop-byte-preserved : goal.loop-byte-preserved
loop-byte-preserved c = byte_more c.put_behind.new.out.items c.loop-byte.out.items _ c.loop-byte.second c.loop-byte.last c.args.text.now c.loop-byte.byte-index 0 c.loop-byte-test.true c.in_ok-put_behind.ensures c.loop-byte.invariant
