use Rattle.std.proofs.Common.{◌≡◌, length}
use Rattle.jn_resume.specs.Open.{AreLeftOpen}
use Rattle.jn_resume.proofs.closing.mark_all_open.Given as goal

abbrev pub invariant-loop-body : goal.invariant-loop-body
invariant-loop-body g l = (length l.left ≡ length l.fn.left) × AreLeftOpen (g.C.Constraints.describe l.system) l.words l.left l.any l.body
