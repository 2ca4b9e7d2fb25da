use Rattle.std.proofs.Common.{◌∷◌, [], Option, OnOk, sym, subst}
use Rattle.jn_reasons_law.specs.declared.item.Item.{Item}
use Rattle.jn_chain.specs.Keys.{rest_of}
use Rattle.jn_chain.specs.Search.{AreDue, AreSettled}
use Rattle.jn_chain.proofs.Settling.{text_settled}
use Rattle.jn_chain.proofs.settled.settle_source.Goals as goal

pub settle_item-requires-clause-due : goal.settle_item-requires-clause-due
settle_item-requires-clause-due g c = subst (λ (z : Option Item). AreDue (g.O.Origins.describe c.args.origins.now) (rest_of c.args.chains.now) (z ∷ []) c.args.left) c.in-Some.is c.requires.due

pub returns-in-None : goal.returns-in-None
returns-in-None g c = text_settled (g.O.Origins.describe c.args.origins.now) (rest_of c.args.chains.now) c.args.source c.args.left c.requires.some c.in-None.is c.requires.due

pub returns-in-Some : goal.returns-in-Some
returns-in-Some g c = subst (λ (z : Option Item). OnOk c.settle_item.result (AreSettled (g.O.Origins.describe c.args.origins.now) (z ∷ []) c.args.left (rest_of c.args.chains.now) (rest_of c.settle_item.new.chains))) (sym c.in-Some.is) c.settle_item.ensures
