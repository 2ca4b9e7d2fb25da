use Rattle.std.proofs.Common.{subst, sym, ap, ◌∙◌}
use Rattle.jn_env.specs.Flat.{env_of}
use Rattle.jn_env.specs.Order.{join_env}
use Rattle.jn_env.proofs.Laid.{Laid, laid, long_enough}
use Rattle.jn_env.proofs.Joined.{joined_laid, joined_view, joined_back, same_length}
use Rattle.jn_env.proofs.env.Env.join.Goals as goal

pub join-requires : goal.join-requires
join-requires c =
    let a = c.self.inside in
    let b = c.other.inside in
    same_length a.may b.may a.registers a.facts b.registers b.facts c.args.self.now c.args.other.now (laid a.may a.registers a.facts c.args.self.now c.self.invariant c.self.view_is) (laid b.may b.registers b.facts c.args.other.now c.other.invariant c.other.view_is) c.requires

pub invariant_of-self : goal.invariant_of-self
invariant_of-self c =
    let a = c.self.inside in
    let b = c.other.inside in
    let whole = join_env c.args.self.now c.args.other.now in
    let joined = joined_laid a.may b.may a.registers a.facts b.registers b.facts c.args.self.now c.args.other.now (laid a.may a.registers a.facts c.args.self.now c.self.invariant c.self.view_is) (laid b.may b.registers b.facts c.args.other.now c.other.invariant c.other.view_is) c.requires in
    long_enough c.join.new.self a.registers a.facts whole (subst (λ bits. Laid bits a.registers a.facts whole) (sym c.join.ensures.joined) joined)

pub returns-clause-joined : goal.returns-clause-joined
returns-clause-joined c =
    let a = c.self.inside in
    let b = c.other.inside in
    ap (λ bits. env_of bits a.registers a.facts) c.join.ensures.joined
    ∙ joined_view a.may b.may a.registers a.facts b.registers b.facts c.args.self.now c.args.other.now (laid a.may a.registers a.facts c.args.self.now c.self.invariant c.self.view_is) (laid b.may b.registers b.facts c.args.other.now c.other.invariant c.other.view_is) c.requires

pub returns-clause-changed : goal.returns-clause-changed
returns-clause-changed c = λ t e.
    let a = c.self.inside in
    let b = c.other.inside in
    let l = laid a.may a.registers a.facts c.args.self.now c.self.invariant c.self.view_is in
    let m = laid b.may b.registers b.facts c.args.other.now c.other.invariant c.other.view_is in
    let view = joined_view a.may b.may a.registers a.facts b.registers b.facts c.args.self.now c.args.other.now l m c.requires in
    let same = sym view ∙ ap (λ bits. env_of bits a.registers a.facts) (sym c.join.ensures.joined) ∙ e in
    c.join.ensures.changed t (c.join.ensures.joined ∙ joined_back a.may b.may a.registers a.facts b.registers b.facts c.args.self.now c.args.other.now l m c.requires same)
