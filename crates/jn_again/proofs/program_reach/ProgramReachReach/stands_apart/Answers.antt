use Rattle.std.specs.Prelude.{slice_index}
use Rattle.jn_again.proofs.Reaching.{off_apart}
use Rattle.jn_again.proofs.program_reach.ProgramReachReach.stands_apart.Goals as goal

pub returns : goal.returns
returns c = λ e. off_apart c.args.self.now.program.now (slice_index c.args.bits.now) c.args.body.0 c.in_ok-off.off c.in_ok-off.ensures e
