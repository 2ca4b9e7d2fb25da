use Rattle.std.proofs.Common.{◌≡◌, drop}
use Rattle.std.specs.Prelude.{replicate}
use Rattle.jn_cert_form.specs.Chosen as spec
use Rattle.jn_cert_form.proofs.building.marked.Given as goal

abbrev pub invariant-loop-at : goal.invariant-loop-at
invariant-loop-at l = spec.with_ones (drop l.at l.places) l.marks.items ≡ spec.with_ones l.places (replicate l.count 0)
