use Rattle.jn_system.proofs.ListSteps.{methods_end}
use Rattle.jn_system.proofs.listing.add_methods.Goals as goal

pub returns : goal.returns
returns c = c.loop-method.invariant c.loop-method.list.items (methods_end c.args.program.now c.args.count c.args.methods.now c.loop-method.method-index c.loop-method.list.items c.loop-method-test.false)
