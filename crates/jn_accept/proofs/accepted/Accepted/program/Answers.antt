use Rattle.std.proofs.Common.{subst}
use Rattle.jn_heap.specs.Runs.{NeverNull}
use Rattle.jn_progress_law.specs.Progress.{NeverStuck}
use Rattle.jn_accept.proofs.accepted.Accepted.program.Goals as goal

pub returns-clause-never_null : goal.returns-clause-never_null
returns-clause-never_null c = subst (λ v. NeverNull v.0) c.self.view_is (c.accepted_programs_never_fault.ensures _ _ c.self.invariant)

pub returns-clause-never_stuck : goal.returns-clause-never_stuck
returns-clause-never_stuck c = subst (λ v. NeverStuck v.0) c.self.view_is (c.accepted_programs_never_stick.ensures _ _ c.self.invariant)
