use Rattle.std.proofs.Common.{arith}
use Rattle.jn_points.specs.declared.program.Program.{Program}
use Rattle.jn_program_law.specs.FileProgram.{inferring}
use Rattle.jn_program_law.specs.FileSources.{sources}
use Rattle.jn_heap.specs.Values.{usual_limits}
use Rattle.jn_meaning.specs.Bodies.{Told, tree}
use Rattle.jn_meaning_run.proofs.Runs.{runs_over, trees_over}
use Rattle.jn_meaning_run.proofs.law.runs_write_what_trees_mean.Goals as goal

pub returns-clause-over : goal.returns-clause-over
returns-clause-over c infer files trees names words m b n none regular typed only main over =
    let P : Program = inferring infer trees in
    let agrees = c.files_mean_what_they_do.ensures infer trees names m b usual_limits words none regular typed main (omega arith) in
    let t : Told = tree P (sources trees) names usual_limits m words n in
    runs_over files P names words m b only main n t.end t.text (agrees.forward n) over

pub returns-clause-written : goal.returns-clause-written
returns-clause-written c infer files trees names words m b steps status bytes none regular typed only main over r =
    let P : Program = inferring infer trees in
    let agrees = c.files_mean_what_they_do.ensures infer trees names m b usual_limits words none regular typed main (omega arith) in
    trees_over files P names words m b only main (sources trees) agrees steps status bytes over r
