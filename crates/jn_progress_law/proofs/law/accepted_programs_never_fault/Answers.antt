use Rattle.jn_progress_law.proofs.Solved.{accepted_never_null}
use Rattle.jn_progress_law.proofs.law.accepted_programs_never_fault.Goals as goal

pub returns : goal.returns
returns c P s A =
    let typed = c.regular_programs_are_typed.ensures in
    accepted_never_null c.rounds_give_the_least_table.ensures.respects typed.shaped typed.slots typed.inside c.solved_programs_never_fault.ensures typed.typed P s A
