use Rattle.std.proofs.Common.{◌≡◌, ◌++◌, take}
use Rattle.jn_report_formats.specs.Escapes.{escaped}
use Rattle.jn_report_formats.proofs.escapes.put.Given as goal

abbrev pub invariant-loop-byte : goal.invariant-loop-byte
invariant-loop-byte l = l.out.items ≡ l.fn.out.items ++ escaped l.escape (take l.byte-index l.text)
