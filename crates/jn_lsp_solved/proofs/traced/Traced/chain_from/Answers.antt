use Rattle.std.proofs.Common.{subst}
use Rattle.jn_lsp_solved.specs.Solving.{AreOriginsOf, SolvedFiles}
use Rattle.jn_lsp_solved.proofs.Tracing.{first_there, has_chain}
use Rattle.jn_lsp_solved.proofs.traced.Traced.chain_from.Goals as goal

pub first_chain-requires : goal.first_chain-requires
first_chain-requires c =
    let v = c.args.self.now in
    let ground = c.self.inside.origins in
    let of : AreOriginsOf v ground = subst (λ (w : SolvedFiles). AreOriginsOf w ground) c.self.view_is c.self.invariant in
    record { chain = has_chain c.what_stands_has_a_chain.ensures v ground c.args.item c.facts.ensures of c.requires.stands }

pub returns : goal.returns
returns c =
    let v = c.args.self.now in
    let ground = c.self.inside.origins in
    let of : AreOriginsOf v ground = subst (λ (w : SolvedFiles). AreOriginsOf w ground) c.self.view_is c.self.invariant in
    first_there v ground c.args.item c.in_ok-steps.steps.items of c.in_ok-steps.ensures
