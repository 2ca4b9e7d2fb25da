use Rattle.std.proofs.Common.{drop, sym, ap, ◌∙◌}
use Rattle.jn_trees.specs.View.{local_marks, parameter_view, type_use_view}
use Rattle.jn_trees.specs.Spelling.{spell_marks, spell_type_use}
use Rattle.jn_places.specs.Places.{behind}
use Rattle.jn_annotate.proofs.Cursors.{through_parameter}
use Rattle.jn_annotate.proofs.steps.behind_parameter.Goals as goal

pub returns : goal.returns
returns c =
    let marks = c.behind_local_marks-rest.ensures ∙ ap (λ ms. behind c.args.tokens.now (spell_marks (local_marks ms))) c.deref.ensures.value in
    let kind = c.behind_type_use.ensures ∙ ap (λ ts. behind ts (spell_type_use (type_use_view c.args.parameter.now.type_use))) marks in
    c.step-2.ensures ∙ ap (drop 1) (c.step.ensures ∙ ap (drop 1) kind) ∙ sym (through_parameter c.args.tokens.now (parameter_view c.args.parameter.now))
