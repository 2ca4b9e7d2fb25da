use Rattle.std.proofs.Common.{ap}
use Rattle.jn_env.specs.Code.{is_field}
use Rattle.jn_env.proofs.Laid.{laid, view_of, long_enough, own_there, own_laid}
use Rattle.jn_env.proofs.env.Env.write_assigned.Goals as goal

pub write_own-requires-clause-inside : goal.write_own-requires-clause-inside
write_own-requires-clause-inside c =
    let may = c.self.inside.may in
    let r = c.self.inside.registers in
    let f = c.self.inside.facts in
    let e = c.args.self.now in
    own_there may r f e (laid may r f e c.self.invariant c.self.view_is) (is_field c.args.field) c.args.own.now c.own_from-first.result c.own_from-first.ensures.from c.requires

pub invariant_of-self : goal.invariant_of-self
invariant_of-self c =
    let may = c.self.inside.may in
    let r = c.self.inside.registers in
    let f = c.self.inside.facts in
    let e = c.args.self.now in
    long_enough c.write_own.new.bits r f _ (own_laid may r f e (laid may r f e c.self.invariant c.self.view_is) (is_field c.args.field) c.args.own.now c.own_from-first.result c.args.assigned c.write_own.new.bits c.own_from-first.ensures.from c.requires c.write_own.ensures)

pub returns-clause-quals : goal.returns-clause-quals
returns-clause-quals c =
    let may = c.self.inside.may in
    let r = c.self.inside.registers in
    let f = c.self.inside.facts in
    let e = c.args.self.now in
    ap (λ x. x.quals) (view_of c.write_own.new.bits r f _ (own_laid may r f e (laid may r f e c.self.invariant c.self.view_is) (is_field c.args.field) c.args.own.now c.own_from-first.result c.args.assigned c.write_own.new.bits c.own_from-first.ensures.from c.requires c.write_own.ensures))

pub returns-clause-facts : goal.returns-clause-facts
returns-clause-facts c =
    let may = c.self.inside.may in
    let r = c.self.inside.registers in
    let f = c.self.inside.facts in
    let e = c.args.self.now in
    ap (λ x. x.facts) (view_of c.write_own.new.bits r f _ (own_laid may r f e (laid may r f e c.self.invariant c.self.view_is) (is_field c.args.field) c.args.own.now c.own_from-first.result c.args.assigned c.write_own.new.bits c.own_from-first.ensures.from c.requires c.write_own.ensures))

pub returns-clause-assigned : goal.returns-clause-assigned
returns-clause-assigned c =
    let may = c.self.inside.may in
    let r = c.self.inside.registers in
    let f = c.self.inside.facts in
    let e = c.args.self.now in
    ap (λ x. x.assigned) (view_of c.write_own.new.bits r f _ (own_laid may r f e (laid may r f e c.self.invariant c.self.view_is) (is_field c.args.field) c.args.own.now c.own_from-first.result c.args.assigned c.write_own.new.bits c.own_from-first.ensures.from c.requires c.write_own.ensures))
