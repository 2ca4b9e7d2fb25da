use Rattle.jn_progress_law.proofs.Solved.{world_solved}
use Rattle.jn_progress_law.proofs.law.accepted_programs_are_solved.Goals as goal

pub returns : goal.returns
returns c =
    let typed = c.regular_programs_are_typed.ensures in
    let tables = c.rounds_give_the_least_table.ensures in
    world_solved tables.respects typed.shaped typed.slots typed.inside tables.unique
