use Rattle.std.proofs.Common.{◌*◌, sym, ap}
use Rattle.jn_env.proofs.Laid.{laid}
use Rattle.jn_env.proofs.env.Env.facts_from.Goals as goal

pub returns-clause-from : goal.returns-clause-from
returns-clause-from c =
    let l = laid c.self.inside.may c.self.inside.registers c.self.inside.facts c.args.self.now c.self.invariant c.self.view_is in
    ap (λ n. 3 * n) (sym l.quals)
