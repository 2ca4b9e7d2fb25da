use Rattle.std.proofs.Common.{Option, sym, subst}
use Rattle.jn_reasons_law.specs.declared.item.Item.{Item}
use Rattle.jn_chain.specs.Search.{AreCauses}
use Rattle.jn_origins.proofs.Finding.{found}
use Rattle.jn_origins.proofs.origins.LeastOriginsOrigins.causes.Goals as goal

pub returns-in_ok-list-in-Some : goal.returns-in_ok-list-in-Some
returns-in_ok-list-in-Some c =
    let G = c.args.self.now in
    let x = c.in-Some.item in
    subst (λ (z : Option Item). AreCauses c.args.self.now z c.in_ok-list-in-Some.list.items) (sym c.in-Some.is)
    (found c.args.self.now c.in-Some.item c.in_ok-list-in-Some.list.items (c.causes_are_listed.ensures.all G.program G.sig G.tables x) (c.causes_are_listed.ensures.none_else G.program G.sig G.tables x) c.in_ok-list-in-Some.ensures)
