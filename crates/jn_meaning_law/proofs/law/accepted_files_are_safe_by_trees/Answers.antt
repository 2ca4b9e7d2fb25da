-- The run of the trees' program has no null fault, and the trees agree with it.
use Rattle.jn_program_law.specs.FileProgram.{inferring}
use Rattle.jn_program_law.specs.FileSources.{sources}
use Rattle.jn_meaning_law.proofs.Safe.{meaningful_trees, safe_trees}
use Rattle.jn_meaning_law.proofs.law.accepted_files_are_safe_by_trees.Goals as goal

pub returns-clause-null : goal.returns-clause-null
returns-clause-null c infer files signature none accepted =
    safe_trees (inferring infer files) (sources files) (λ names m b limits words main deep. c.files_mean_what_they_do.ensures infer files names m b limits words none accepted.regular accepted.typed main deep)
    (c.accepted_programs_never_fault.ensures (inferring infer files) signature accepted)

pub returns-clause-stuck : goal.returns-clause-stuck
returns-clause-stuck c infer files none regular typed =
    meaningful_trees (inferring infer files) (sources files) (λ names m b limits words main deep. c.files_mean_what_they_do.ensures infer files names m b limits words none regular typed main deep)
