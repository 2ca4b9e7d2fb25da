use Rattle.std.proofs.Common.{ap}
use Rattle.jn_env.specs.Code.{picks}
use Rattle.jn_env.proofs.Laid.{laid, view_of, long_enough, facts_there, facts_laid}
use Rattle.jn_env.proofs.env.Env.write_facts.Goals as goal

pub write_keys-requires-clause-inside : goal.write_keys-requires-clause-inside
write_keys-requires-clause-inside c =
    let may = c.self.inside.may in
    let r = c.self.inside.registers in
    let f = c.self.inside.facts in
    let e = c.args.self.now in
    facts_there may r f e (laid may r f e c.self.invariant c.self.view_is) (picks c.args.which) c.args.keys.now c.facts_from-first.result c.facts_from-first.ensures.from c.requires

pub invariant_of-self : goal.invariant_of-self
invariant_of-self c =
    let may = c.self.inside.may in
    let r = c.self.inside.registers in
    let f = c.self.inside.facts in
    let e = c.args.self.now in
    long_enough c.write_keys.new.bits r f _ (facts_laid may r f e (laid may r f e c.self.invariant c.self.view_is) (picks c.args.which) c.args.keys.now c.facts_from-first.result c.args.known c.write_keys.new.bits c.facts_from-first.ensures.from c.requires c.write_keys.ensures)

pub returns-clause-quals : goal.returns-clause-quals
returns-clause-quals c =
    let may = c.self.inside.may in
    let r = c.self.inside.registers in
    let f = c.self.inside.facts in
    let e = c.args.self.now in
    ap (λ x. x.quals) (view_of c.write_keys.new.bits r f _ (facts_laid may r f e (laid may r f e c.self.invariant c.self.view_is) (picks c.args.which) c.args.keys.now c.facts_from-first.result c.args.known c.write_keys.new.bits c.facts_from-first.ensures.from c.requires c.write_keys.ensures))

pub returns-clause-facts : goal.returns-clause-facts
returns-clause-facts c =
    let may = c.self.inside.may in
    let r = c.self.inside.registers in
    let f = c.self.inside.facts in
    let e = c.args.self.now in
    ap (λ x. x.facts) (view_of c.write_keys.new.bits r f _ (facts_laid may r f e (laid may r f e c.self.invariant c.self.view_is) (picks c.args.which) c.args.keys.now c.facts_from-first.result c.args.known c.write_keys.new.bits c.facts_from-first.ensures.from c.requires c.write_keys.ensures))

pub returns-clause-assigned : goal.returns-clause-assigned
returns-clause-assigned c =
    let may = c.self.inside.may in
    let r = c.self.inside.registers in
    let f = c.self.inside.facts in
    let e = c.args.self.now in
    ap (λ x. x.assigned) (view_of c.write_keys.new.bits r f _ (facts_laid may r f e (laid may r f e c.self.invariant c.self.view_is) (picks c.args.which) c.args.keys.now c.facts_from-first.result c.args.known c.write_keys.new.bits c.facts_from-first.ensures.from c.requires c.write_keys.ensures))
