use Rattle.std.proofs.Common.{◌≡◌, drop}
use Rattle.nullcheck_cert_check.specs.Lines.{method_span}
use Rattle.nullcheck_cert_check.proofs.lines.method_span.Given as goal

abbrev pub invariant-loop-method : goal.invariant-loop-method
invariant-loop-method l = method_span l.number (drop l.method-index l.methods) ≡ method_span l.number l.methods
