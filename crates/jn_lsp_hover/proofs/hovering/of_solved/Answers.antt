use Rattle.std.proofs.Common.{◌≡◌, ℕ, List, Option, ap, subst, ◌∙◌}
use Rattle.jn_front.specs.declared.source.SourceFile.{SourceFile}
use Rattle.jn_lsp_solved.specs.Solving.{HaveTrees, SolvedFiles}
use Rattle.jn_recheck.specs.Files.{place_of}
use Rattle.jn_lsp_hover.specs.Hovered.{IsAtPlace}
use Rattle.jn_lsp_hover.proofs.Shown.{of_inferred}
use Rattle.jn_lsp_hover.proofs.hovering.of_solved.Goals as goal

pub returns : goal.returns
returns c =
    let v = c.args.solved.now in
    let name = c.args.asked.now.name.now in
    let position = c.args.asked.now.position in
    let trees = c.parts-parts.result.trees.now in
    let heads = c.as_slice-2.result.now in
    let hover = c.in_ok-hover.hover in
    let typed : HaveTrees v trees = subst (λ (w : SolvedFiles). HaveTrees w trees) c.parts-parts.ensures.are c.parts-parts.ensures.hold.typed in
    let place = c.place_of-place.ensures ∙ ap (place_of name) c.as_slice.ensures.are ∙ ap (λ (w : SolvedFiles). place_of name w.files) c.parts-parts.ensures.are in
    let is = subst (λ (place : Option ℕ). IsAtPlace v.encoding v.files v.names v.program v.sig v.tables heads position place hover) place c.in_ok-hover.ensures in
    of_inferred v.infer v.encoding v.files name position v.names v.program v.sig v.tables trees heads hover typed.0 typed.1 (c.as_slice-2.ensures ∙ c.in_ok-heads.ensures) c.facts.ensures.least c.facts.ensures.solved is
