use Rattle.jn_points.specs.declared.program.Program.{Program}
use Rattle.jn_program_law.specs.FileProgram.{inferring}
use Rattle.jn_program_law.specs.FileSources.{sources}
use Rattle.jn_meaning.proofs.Unrowed.{fitting_by}
use Rattle.jn_meaning.proofs.WorthBodies.{all_values}
use Rattle.jn_meaning_law.proofs.Callers.{call_agrees}
use Rattle.jn_meaning_law.proofs.Files.{files_sourced, files_unrowed}
use Rattle.jn_meaning_law.proofs.law.calls_from_outside_mean_what_they_do.Goals as goal

pub returns : goal.returns
returns c infer files signature none accepted heap statics call whole allowed names limits out deep =
    let P : Program = inferring infer files in
    let sourced = files_sourced infer files none accepted.regular in
    let unrowed = files_unrowed infer files none accepted.regular in
    let fits = fitting_by P (sources files) accepted.regular unrowed (all_values P (sources files) accepted.regular accepted.typed sourced unrowed) in
    call_agrees P (sources files) signature (λ names m b limits vs heap statics printed bodied deep never. c.calls_agree_with_the_machine.ensures P (sources files) names m b limits vs heap statics printed bodied deep sourced fits never)
    (c.accepted_programs_are_safe_for_callers.ensures P signature accepted) heap statics call whole allowed names limits out deep
