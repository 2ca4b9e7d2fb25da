use Rattle.std.proofs.Common.{◌≡◌, List, map, sym, subst, ◌∙◌}
use Rattle.jn_lsp_solved.specs.Solving.{AreTokens, HaveTrees, SolvedFiles}
use Rattle.jn_lsp_actions.specs.Hinted.{HaveReasons}
use Rattle.jn_lsp_actions.specs.declared.hints.SlotHint.{SlotHint}
use Rattle.jn_lsp_actions.proofs.Showing.{of_inferred}
use Rattle.jn_lsp_actions.proofs.hinting.of_traced.Goals as goal

pub returns : goal.returns
returns c =
    let v = c.args.traced.now in
    let tokens = c.deref.result.now in
    let trees = c.parts-parts.result.trees.now in
    let hints = c.in_ok-hints.hints in
    let typed : HaveTrees v trees = subst (λ (w : SolvedFiles). HaveTrees w trees) c.parts-parts.ensures.are c.parts-parts.ensures.hold.typed in
    let lexed : AreTokens v c.in_ok-tokens.tokens.items = subst (λ (w : SolvedFiles). AreTokens w c.in_ok-tokens.tokens.items) c.solved_files.ensures c.in_ok-tokens.ensures in
    let are = subst (λ (found : List SlotHint). HaveReasons v.encoding v.files v.names v.program v.sig found hints) (c.as_slice.ensures ∙ c.in_ok-shown.ensures) c.in_ok-hints.ensures in
    of_inferred v.infer v.encoding v.files c.args.asked.now.name.now c.args.asked.now.range v.names v.program v.sig tokens trees hints c.places_are_forgotten.ensures.view typed.0 typed.1 (c.deref.ensures.value ∙ lexed typed.0) c.facts.ensures.least are
