use Rattle.jn_running.specs.Going.{IsGoing}
use Rattle.nullcheck_cases.proofs.single.by_steps.Given as goal

abbrev pub invariant-loop : goal.invariant-loop
invariant-loop l = IsGoing l.machine
