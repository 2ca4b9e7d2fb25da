use Rattle.std.proofs.Common.{◌≡◌, drop}
use Rattle.jn_report_formats.specs.Fingerprints as spec
use Rattle.jn_report_formats.proofs.fingerprint.printed.Given as goal

abbrev pub invariant-loop-byte : goal.invariant-loop-byte
invariant-loop-byte l = spec.printed l.print (drop l.byte-index l.text) ≡ spec.printed l.begin l.text
