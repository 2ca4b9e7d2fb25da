use Rattle.std.proofs.Common.{◌≡◌, List, map, sym, subst, ◌∙◌}
use Rattle.jn_lsp_solved.specs.Solving.{AreTokens, HaveTrees, SolvedFiles}
use Rattle.jn_trees.specs.declared.token.Token.{Token}
use Rattle.jn_lsp_actions.proofs.Offering.{of_checked}
use Rattle.jn_lsp_actions.proofs.files.of_traced.Goals as goal

pub returns : goal.returns
returns c =
    let v = c.args.traced.now in
    let tokens = c.deref.result.now in
    let trees = c.parts-parts.result.trees.now in
    let typed : HaveTrees v trees = subst (λ (w : SolvedFiles). HaveTrees w trees) c.parts-parts.ensures.are c.parts-parts.ensures.hold.typed in
    let lexed : AreTokens v c.in_ok-tokens.tokens.items = subst (λ (w : SolvedFiles). AreTokens w c.in_ok-tokens.tokens.items) c.solved_files.ensures c.in_ok-tokens.ensures in
    of_checked v.infer v.encoding v.files c.args.asked.now.name.now c.args.asked.now.range v.names v.program v.sig tokens trees c.args.rows.now c.in_ok-actions.actions c.places_are_forgotten.ensures.view typed.0 typed.1 (c.deref.ensures.value ∙ lexed typed.0) c.facts.ensures.least c.requires.rows c.in_ok-actions.ensures
