use Rattle.std.proofs.Common.{◌-◌, ap, ◌∙◌, ◌%◌, arith}
use Rattle.jn_scopes.proofs.Linking.{popped_as}
use Rattle.jn_scopes.proofs.variables.Variables.pop.Goals as goal

pub invariant_of-self : goal.invariant_of-self
invariant_of-self c =
    popped_as c.self.inside.items.items (c.len-places.result - 1) c.index.result.now (omega (c.if-places-eq0.false, c.len-places.ensures, arith)) c.self.inside.previous.items c.self.inside.last c.truncate.new.self.items c.truncate-2.new.self.items c.group_of-group.result c.index-2.result.now
    c.self.invariant c.truncate.ensures.items c.truncate-2.ensures.items (c.group_of-group.ensures.is ∙ ap (λ v. v.name.0 % 64) c.index.ensures) c.index-2.ensures
