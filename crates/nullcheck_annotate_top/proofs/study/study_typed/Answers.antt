use Rattle.std.proofs.Common.{◌∙◌, sym}
use Rattle.nullcheck_annotate_top.proofs.study.study_typed.Goals as goal

pub study_solved-requires-clause-program : goal.study_solved-requires-clause-program
study_solved-requires-clause-program g c =
    let typed = c.requires.program.0 in
    let same = c.in_ok-tokens.ensures typed.of_files.tokens c.args.names.now typed.of_files.lowered.declared.parsed.lexed in
    (typed, c.requires.program.1, sym (c.deref-2.ensures.value ∙ same))
