use Rattle.std.proofs.Common.{false}
use Rattle.jn_voided.specs.Courses.{is_there}
use Rattle.jn_voided.specs.Turning.{turn_at}
use Rattle.jn_voided.proofs.Listing.{AreFirst}
use Rattle.jn_voided.proofs.turns.marks_of.Given as goal

abbrev pub invariant-loop-at : goal.invariant-loop-at
invariant-loop-at l = AreFirst (λ p. is_there (turn_at l.slots p)) false l.at l.marks.items
