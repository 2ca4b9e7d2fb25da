use Rattle.std.proofs.Common.{◌-◌, sym, ◌∙◌}
use Rattle.jn_points.specs.Sought.{declared}
use Rattle.jn_points.proofs.Walks.{along_found, along_missed}
use Rattle.jn_points.proofs.members.+find_along.Goals as goal

pub returns-in-Some-find_along-2-clause-is : goal.returns-in-Some-find_along-2-clause-is
returns-in-Some-find_along-2-clause-is t c = sym (sym c.loop-interface.invariant ∙ along_found c.args.program.now (declared c.args.program.now c.args.sought c.args.c.0) (c.args.steps - 1) c.in_ok-class.class.now.parent c.as_slice-supers.result.now c.loop-interface.interface-index _ c.in-Some-find_along-2.found c.loop-interface-test.true (sym c.is_class.ensures ∙ c.if-is_class.false) (sym c.find_along-in-loop-interface.ensures.is ∙ c.in-Some-find_along-2.is))

pub loop-interface-preserved : goal.loop-interface-preserved
loop-interface-preserved t c = sym (along_missed c.args.program.now (declared c.args.program.now c.args.sought c.args.c.0) (c.args.steps - 1) c.in_ok-class.class.now.parent c.as_slice-supers.result.now c.loop-interface.interface-index _ c.loop-interface-test.true (sym c.is_class.ensures ∙ c.if-is_class.false) (sym c.find_along-in-loop-interface.ensures.is ∙ c.in_default-find_along-2.is)) ∙ c.loop-interface.invariant
