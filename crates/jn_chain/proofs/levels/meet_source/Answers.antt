use Rattle.std.proofs.Common.{sym, ◌∙◌}
use Rattle.jn_chain.specs.Keys.{rest_of}
use Rattle.jn_chain.proofs.Loops.{met_known, met_unknown}
use Rattle.jn_chain.proofs.levels.meet_source.Goals as goal

pub returns-in_ok-now-in-Some-clause-met : goal.returns-in_ok-now-in-Some-clause-met
returns-in_ok-now-in-Some-clause-met c = met_known (rest_of c.args.chains.now) c.args.levels.now c.args.depth c.args.source c.in-Some.left c.args.next.now.items c.args.best c.in_ok-now-in-Some.now (sym c.left.ensures ∙ c.in-Some.is) c.in_ok-now-in-Some.ensures

pub returns-in_ok-add_source-in-None-clause-met : goal.returns-in_ok-add_source-in-None-clause-met
returns-in_ok-add_source-in-None-clause-met c = met_unknown (rest_of c.args.chains.now) c.args.levels.now c.args.depth c.args.source c.args.next.now.items c.add_source.new.next.items c.args.best (sym c.left.ensures ∙ c.in-None.is) c.in_ok-add_source-in-None.ensures.added
