use Rattle.jn_voided.specs.Courses.{not_passed}
use Rattle.jn_voided.specs.Voided.{course}
use Rattle.jn_voided.proofs.Listing.{AreFirst}
use Rattle.jn_voided.proofs.course.find_course.Given as goal

abbrev pub invariant-loop-at : goal.invariant-loop-at
invariant-loop-at l = AreFirst (course l.analysis.program l.analysis.sig l.analysis.body l.slots l.key) not_passed l.at l.course.items
