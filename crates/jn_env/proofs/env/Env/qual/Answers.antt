use Rattle.std.proofs.Common.{◌≤◌, length, sym, ◌∙◌, arith}
use Rattle.std.proofs.lemmas.List.{get_or_past}
use Rattle.jn_quals.specs.Order.{no_qual}
use Rattle.jn_env.proofs.Laid.{laid, read_qual}
use Rattle.jn_env.proofs.env.Env.qual.Goals as goal

pub returns-then-i-self : goal.returns-then-i-self
returns-then-i-self c =
    let may = c.self.inside.may in
    let r = c.self.inside.registers in
    let f = c.self.inside.facts in
    let e = c.args.self.now in
    c.qual.ensures ∙ read_qual may r f e (laid may r f e c.self.invariant c.self.view_is) c.args.reg.0 c.if-i-self.true

pub returns-else-i-self : goal.returns-else-i-self
returns-else-i-self c =
    let may = c.self.inside.may in
    let r = c.self.inside.registers in
    let f = c.self.inside.facts in
    let e = c.args.self.now in
    let l = laid may r f e c.self.invariant c.self.view_is in
    let le : length e.quals ≤ c.args.reg.0 = omega (arith, c.if-i-self.false, l.quals) in
    c.none.ensures ∙ sym (get_or_past e.quals c.args.reg.0 no_qual le)
