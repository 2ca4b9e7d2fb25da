use Rattle.jn_accept.proofs.OneMain.{none_only, one_only, two_mains}
use Rattle.jn_accept.proofs.mains.only_main.Goals as goal

pub returns-in-None : goal.returns-in-None
returns-in-None c = none_only c.args.program.now c.in-None.ensures.first

pub returns-in-None-first_from : goal.returns-in-None-first_from
returns-in-None-first_from c = one_only c.args.program.now c.in-Some.first c.in-Some.ensures.first c.in-None-first_from.ensures.first

pub returns-in-Some-first_from : goal.returns-in-Some-first_from
returns-in-Some-first_from c = two_mains c.args.program.now c.in-Some.first c.in-Some-first_from.field-0 c.in-Some.ensures.first c.in-Some-first_from.ensures.first
