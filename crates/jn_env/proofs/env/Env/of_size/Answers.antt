use Rattle.std.proofs.Common.{ap}
use Rattle.jn_env.proofs.Laid.{view_of, least_laid}
use Rattle.jn_env.proofs.env.Env.of_size.Goals as goal

pub returns-clause-quals : goal.returns-clause-quals
returns-clause-quals c = ap (λ x. x.quals) (view_of c.in_ok-may.may c.args.registers c.args.facts _ (least_laid c.args.registers c.args.facts c.args.assigned c.in_ok-may.may c.in_ok-may.ensures))

pub returns-clause-facts : goal.returns-clause-facts
returns-clause-facts c = ap (λ x. x.facts) (view_of c.in_ok-may.may c.args.registers c.args.facts _ (least_laid c.args.registers c.args.facts c.args.assigned c.in_ok-may.may c.in_ok-may.ensures))

pub returns-clause-assigned : goal.returns-clause-assigned
returns-clause-assigned c = ap (λ x. x.assigned) (view_of c.in_ok-may.may c.args.registers c.args.facts _ (least_laid c.args.registers c.args.facts c.args.assigned c.in_ok-may.may c.in_ok-may.ensures))
