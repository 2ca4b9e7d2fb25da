use Rattle.jn_scopes.proofs.Linking.{fresh}
use Rattle.jn_scopes.proofs.variables.Variables.new.Goals as goal

pub invariant_of-result : goal.invariant_of-result
invariant_of-result c = fresh c.new.result.items c.new-2.result.items c.new.ensures.items c.new-2.ensures.items
