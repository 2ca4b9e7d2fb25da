use Rattle.std.proofs.Common.{false}
use Rattle.std.specs.Prelude.{slice_get}
use Rattle.jn_voided.specs.Voided.{makes}
use Rattle.jn_voided.proofs.Listing.{AreFirst}
use Rattle.jn_voided.proofs.course.find_makers.Given as goal

abbrev pub invariant-loop-at : goal.invariant-loop-at
invariant-loop-at l = AreFirst (λ p. makes l.key (slice_get l.points p)) false l.at l.found.items
