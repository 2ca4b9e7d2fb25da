use Rattle.std.proofs.Common.{◌+◌}
use Rattle.jn_env.proofs.Lacking.{of_reg, of_field, of_both, chained_as, number_at}
use Rattle.jn_env.proofs.lists.FactKeys.next.Goals as goal

pub returns-in-OfReg-clause-lacks : goal.returns-in-OfReg-clause-lacks
returns-in-OfReg-clause-lacks c =
    let are = chained_as (λ k. k.reg) c.self.inside.keys.items c.args.self.now c.self.inside.by_reg.heads.items c.self.inside.by_reg.nexts.items c.self.view_is c.self.invariant.0 in
    let here = number_at (λ k. k.reg) c.args.self.now c.args.at c.reg.result c.at-key.result c.requires c.at-key.ensures c.reg.ensures in
    of_reg c.args.which c.args.self.now (c.args.at + 1) c.next.result c.in-OfReg.reg c.in-OfReg.is (c.next.ensures.avoids _ are here)

pub returns-in-OfField-clause-lacks : goal.returns-in-OfField-clause-lacks
returns-in-OfField-clause-lacks c =
    let are = chained_as (λ k. k.field) c.self.inside.keys.items c.args.self.now c.self.inside.by_field.heads.items c.self.inside.by_field.nexts.items c.self.view_is c.self.invariant.1 in
    let here = number_at (λ k. k.field) c.args.self.now c.args.at c.field.result c.at-key.result c.requires c.at-key.ensures c.field.ensures in
    of_field c.args.which c.args.self.now (c.args.at + 1) c.next-in-OfField.result c.in-OfField.field c.in-OfField.is (c.next-in-OfField.ensures.avoids _ are here)

pub returns-in-Exactly-clause-lacks : goal.returns-in-Exactly-clause-lacks
returns-in-Exactly-clause-lacks c =
    let are = chained_as (λ k. k.field) c.self.inside.keys.items c.args.self.now c.self.inside.by_field.heads.items c.self.inside.by_field.nexts.items c.self.view_is c.self.invariant.1 in
    let here = number_at (λ k. k.field) c.args.self.now c.args.at c.field-in-Exactly.result c.at-key.result c.requires c.at-key.ensures c.field-in-Exactly.ensures in
    of_both c.args.which c.args.self.now (c.args.at + 1) c.next-in-Exactly.result _ _ c.in-Exactly.is (c.next-in-Exactly.ensures.avoids _ are here)
