use Rattle.std.proofs.Common.{◌≤◌, length, sym, ap, arith}
use Rattle.std.proofs.lemmas.List.{set_past}
use Rattle.jn_env.proofs.Laid.{laid, view_of, long_enough, write_qual}
use Rattle.jn_env.proofs.env.Env.set_at.Goals as goal

pub invariant_of-self : goal.invariant_of-self
invariant_of-self c =
    let may = c.self.inside.may in
    let r = c.self.inside.registers in
    let f = c.self.inside.facts in
    let e = c.args.self.now in
    long_enough c.set_qual.new.self r f _ (write_qual may r f e (laid may r f e c.self.invariant c.self.view_is) c.args.i c.args.qual c.set_qual.new.self c.if-i-self.true c.set_qual.ensures)

pub returns-then-i-self-clause-quals : goal.returns-then-i-self-clause-quals
returns-then-i-self-clause-quals c =
    let may = c.self.inside.may in
    let r = c.self.inside.registers in
    let f = c.self.inside.facts in
    let e = c.args.self.now in
    ap (λ x. x.quals) (view_of c.set_qual.new.self r f _ (write_qual may r f e (laid may r f e c.self.invariant c.self.view_is) c.args.i c.args.qual c.set_qual.new.self c.if-i-self.true c.set_qual.ensures))

pub returns-then-i-self-clause-facts : goal.returns-then-i-self-clause-facts
returns-then-i-self-clause-facts c =
    let may = c.self.inside.may in
    let r = c.self.inside.registers in
    let f = c.self.inside.facts in
    let e = c.args.self.now in
    ap (λ x. x.facts) (view_of c.set_qual.new.self r f _ (write_qual may r f e (laid may r f e c.self.invariant c.self.view_is) c.args.i c.args.qual c.set_qual.new.self c.if-i-self.true c.set_qual.ensures))

pub returns-then-i-self-clause-assigned : goal.returns-then-i-self-clause-assigned
returns-then-i-self-clause-assigned c =
    let may = c.self.inside.may in
    let r = c.self.inside.registers in
    let f = c.self.inside.facts in
    let e = c.args.self.now in
    ap (λ x. x.assigned) (view_of c.set_qual.new.self r f _ (write_qual may r f e (laid may r f e c.self.invariant c.self.view_is) c.args.i c.args.qual c.set_qual.new.self c.if-i-self.true c.set_qual.ensures))

pub returns-else-i-self-clause-quals : goal.returns-else-i-self-clause-quals
returns-else-i-self-clause-quals c =
    let may = c.self.inside.may in
    let r = c.self.inside.registers in
    let f = c.self.inside.facts in
    let e = c.args.self.now in
    let l = laid may r f e c.self.invariant c.self.view_is in
    let le : length e.quals ≤ c.args.i = omega (arith, c.if-i-self.false, l.quals) in
    sym (set_past e.quals c.args.i c.args.qual le)
