use Rattle.jn_env.proofs.Lacking.{of_reg, of_field, of_both, chained_as}
use Rattle.jn_env.proofs.lists.FactKeys.first.Goals as goal

pub returns-in-OfReg : goal.returns-in-OfReg
returns-in-OfReg c =
    let are = chained_as (λ k. k.reg) c.self.inside.keys.items c.args.self.now c.self.inside.by_reg.heads.items c.self.inside.by_reg.nexts.items c.self.view_is c.self.invariant.0 in
    of_reg c.args.which c.args.self.now 0 c.first.result c.in-OfReg.reg c.in-OfReg.is (c.first.ensures _ are)

pub returns-in-OfField : goal.returns-in-OfField
returns-in-OfField c =
    let are = chained_as (λ k. k.field) c.self.inside.keys.items c.args.self.now c.self.inside.by_field.heads.items c.self.inside.by_field.nexts.items c.self.view_is c.self.invariant.1 in
    of_field c.args.which c.args.self.now 0 c.first-in-OfField.result c.in-OfField.field c.in-OfField.is (c.first-in-OfField.ensures _ are)

pub returns-in-Exactly : goal.returns-in-Exactly
returns-in-Exactly c =
    let are = chained_as (λ k. k.field) c.self.inside.keys.items c.args.self.now c.self.inside.by_field.heads.items c.self.inside.by_field.nexts.items c.self.view_is c.self.invariant.1 in
    of_both c.args.which c.args.self.now 0 c.first-in-Exactly.result _ _ c.in-Exactly.is (c.first-in-Exactly.ensures _ are)
