use Rattle.std.proofs.Common.{◌++◌, ap, ◌∙◌}
use Rattle.nullcheck_lsp_top.specs.Placing.{asks, is_asked, says}
use Rattle.nullcheck_lsp_top.proofs.messages.first_of.Goals as goal

pub returns-clause-notices : goal.returns-clause-notices
returns-clause-notices c =
    c.in_ok-notices.ensures ∙ ap (λ f. asks (is_asked c.args.phase c.args.root.now c.args.message.now) ++ says c.args.said f) c.in_ok-foreign.ensures
