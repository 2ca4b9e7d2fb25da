use Rattle.jn_env.proofs.Laid.{laid, read_fact}
use Rattle.jn_env.proofs.env.Env.has_fact_at.Goals as goal

pub returns-then-at-self : goal.returns-then-at-self
returns-then-at-self c =
    let may = c.self.inside.may in
    let r = c.self.inside.registers in
    let f = c.self.inside.facts in
    let e = c.args.self.now in
    read_fact may r f e (laid may r f e c.self.invariant c.self.view_is) c.args.at c.facts_from.result c.get.result c.if-at-self.true c.facts_from.ensures.from c.get.ensures
