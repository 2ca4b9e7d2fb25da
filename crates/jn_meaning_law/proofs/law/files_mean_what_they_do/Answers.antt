-- The parts are put together in `Files`.
use Rattle.std.proofs.Common.{ap, ◌∙◌}
use Rattle.jn_points.specs.declared.program.Program.{Program}
use Rattle.jn_points.specs.Lookup.{body_of}
use Rattle.jn_program_law.specs.FileProgram.{inferring}
use Rattle.jn_program_law.specs.FileSources.{sources}
use Rattle.jn_meaning.proofs.Unrowed.{fitting_by}
use Rattle.jn_meaning.proofs.WorthBodies.{all_values}
use Rattle.jn_meaning_law.proofs.Files.{files_sourced, files_unrowed}
use Rattle.jn_meaning_law.proofs.Never.{never_sticks}
use Rattle.jn_meaning_law.proofs.law.files_mean_what_they_do.Goals as goal

pub returns : goal.returns
returns c infer files names m b limits words none regular base main deep =
    let P : Program = inferring infer files in
    let typed = c.regular_programs_are_typed.ensures in
    let sourced = files_sourced infer files none regular in
    let unrowed = files_unrowed infer files none regular in
    c.trees_agree_with_the_machine.ensures P (sources files) names m b limits words (ap body_of main.there ∙ main.body) deep sourced
    (fitting_by P (sources files) regular unrowed (all_values P (sources files) regular base sourced unrowed))
    (never_sticks P regular base (typed.shaped P regular) (typed.typed P regular base) names m b main limits words)
