use Rattle.std.proofs.Common.{◌≡◌, ◌++◌, drop}
use Rattle.jn_report_formats.specs.Escapes.{xml_from}
use Rattle.jn_report_formats.proofs.attribute.put_value.Given as goal

abbrev pub invariant-loop-byte : goal.invariant-loop-byte
invariant-loop-byte l = l.out.items ++ xml_from l.second l.last (drop l.byte-index l.text) ≡ l.fn.out.items ++ xml_from 0 0 l.text
