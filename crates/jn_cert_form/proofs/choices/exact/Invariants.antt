use Rattle.std.proofs.Common.{◌≤◌}
use Rattle.jn_cert_form.proofs.choices.exact.Given as goal

abbrev pub invariant-loop-place : goal.invariant-loop-place
invariant-loop-place l = l.from ≤ l.place
