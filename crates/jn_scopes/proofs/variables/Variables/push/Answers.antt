use Rattle.std.proofs.Common.{arith}
use Rattle.jn_scopes.proofs.Linking.{pushed_as}
use Rattle.jn_scopes.proofs.variables.Variables.push.Goals as goal

pub invariant_of-self-2 : goal.invariant_of-self-2
invariant_of-self-2 c =
    pushed_as c.self.inside.items.items c.args.variable c.self.inside.previous.items c.self.inside.last c.push_both.new.items.items c.push_both.new.previous.items c.group_of-group.result c.len-places.result
    (omega (c.if-places-ge4294967295.false, c.len-places.ensures, arith)) c.self.invariant c.group_of-group.ensures.is (omega (c.len-places.ensures, arith)) c.in_ok-push_both.ensures.ok.0 c.in_ok-push_both.ensures.ok.1
