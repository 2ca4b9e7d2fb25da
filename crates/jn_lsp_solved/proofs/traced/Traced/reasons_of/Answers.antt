use Rattle.std.proofs.Common.{sym, subst, ◌∙◌}
use Rattle.jn_lsp_solved.specs.Solving.{AreOriginsOf, SolvedFiles}
use Rattle.jn_lsp_solved.proofs.traced.Traced.reasons_of.Goals as goal

pub reasons_by-requires-clause-origins : goal.reasons_by-requires-clause-origins
reasons_by-requires-clause-origins c =
    subst (λ (w : SolvedFiles). AreOriginsOf w c.self.inside.origins) (c.self.view_is ∙ sym c.parts-parts.ensures.are) c.self.invariant
