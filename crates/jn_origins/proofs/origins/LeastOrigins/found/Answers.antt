use Rattle.std.proofs.Common.{ap, subst, ◌∙◌}
use Rattle.jn_reasons.specs.Listed.{causes}
use Rattle.jn_chain.specs.Search.{Ground}
use Rattle.jn_origins.specs.Standing.{standing}
use Rattle.jn_origins.specs.Targets.{AreSame}
use Rattle.jn_origins.proofs.Finding.{same_standing}
use Rattle.jn_origins.proofs.origins.LeastOrigins.found.Goals as goal

pub returns : goal.returns
returns c =
    let G = c.args.self.now in
    let s = c.self.inside.sig.now in
    let ts = c.self.inside.tables.now in
    let all = causes G.program G.sig G.tables c.args.item in
    let list = c.in_ok-list.list.items in
    let here : AreSame list (standing s ts all) = same_standing s ts list c.in_ok-all.all.items all (c.in_ok-list.ensures ∙ ap (standing s ts) c.deref.ensures.value) c.in_ok-all.ensures in
    subst (λ (g : Ground). AreSame list (standing g.sig g.tables all)) c.self.view_is here
