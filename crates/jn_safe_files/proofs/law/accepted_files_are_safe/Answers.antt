use Rattle.jn_safe_files.proofs.Trees.{accepted, meaningful, safe}
use Rattle.jn_safe_files.proofs.law.accepted_files_are_safe.Goals as goal

pub returns-clause-null : goal.returns-clause-null
returns-clause-null c infer files names P of_files none = c.accepted_programs_never_fault.ensures P none.0 (accepted infer files names P of_files none)

pub returns-clause-stuck : goal.returns-clause-stuck
returns-clause-stuck c infer files names P of_files none = c.accepted_programs_never_stick.ensures P none.0 (accepted infer files names P of_files none)

pub returns-clause-trees_null : goal.returns-clause-trees_null
returns-clause-trees_null c infer files names P typed none = safe infer files names P typed c.accepted_files_are_safe_by_trees.ensures.null none

pub returns-clause-trees_stuck : goal.returns-clause-trees_stuck
returns-clause-trees_stuck c infer files names P typed = meaningful infer files names P typed c.accepted_files_are_safe_by_trees.ensures.stuck

pub returns-clause-callers : goal.returns-clause-callers
returns-clause-callers c infer files names P of_files none = (none.0, none.1, c.accepted_programs_are_safe_for_callers.ensures P none.0 (accepted infer files names P of_files none))

pub returns-clause-safe : goal.returns-clause-safe
returns-clause-safe c infer files names P of_files none =
    let is = accepted infer files names P of_files none in
    record {
      names = names;
      P = P;
      of_files = of_files;
      never_null = c.accepted_programs_never_fault.ensures P none.0 is;
      never_stuck = c.accepted_programs_never_stick.ensures P none.0 is;
      trees_never_null = safe infer files names P of_files c.accepted_files_are_safe_by_trees.ensures.null none;
      trees_never_stuck = meaningful infer files names P of_files c.accepted_files_are_safe_by_trees.ensures.stuck;
      callers = (none.0, none.1, c.accepted_programs_are_safe_for_callers.ensures P none.0 is);
    }
