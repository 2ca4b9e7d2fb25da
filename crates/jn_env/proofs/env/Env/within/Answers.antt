use Rattle.jn_env.specs.Size.{SameSize}
use Rattle.jn_env.proofs.Laid.{laid}
use Rattle.jn_env.proofs.Joined.{same_size, same_length, other_way, included, included_back}
use Rattle.jn_env.proofs.env.Env.within.Goals as goal

pub returns-then-not-has_size_of-clause-no : goal.returns-then-not-has_size_of-clause-no
returns-then-not-has_size_of-clause-no c = λ t w. c.has_size_of.ensures.no c.if-not-has_size_of.true (same_size c.args.self.now c.args.other.now w)

pub within-requires : goal.within-requires
within-requires c =
    let a = c.self.inside in
    let b = c.other.inside in
    let s : SameSize c.args.self.now c.args.other.now = c.has_size_of.ensures.yes c.if-not-has_size_of.false in
    same_length a.may b.may a.registers a.facts b.registers b.facts c.args.self.now c.args.other.now (laid a.may a.registers a.facts c.args.self.now c.self.invariant c.self.view_is) (laid b.may b.registers b.facts c.args.other.now c.other.invariant c.other.view_is) s

pub returns-clause-yes : goal.returns-clause-yes
returns-clause-yes c = λ t.
    let a = c.self.inside in
    let b = c.other.inside in
    let s = other_way c.args.self.now c.args.other.now (c.has_size_of.ensures.yes c.if-not-has_size_of.false) in
    included b.may a.may b.registers b.facts a.registers a.facts c.args.other.now c.args.self.now (laid b.may b.registers b.facts c.args.other.now c.other.invariant c.other.view_is) (laid a.may a.registers a.facts c.args.self.now c.self.invariant c.self.view_is) s (c.within.ensures.yes t)

pub returns-clause-no : goal.returns-clause-no
returns-clause-no c = λ t w.
    let a = c.self.inside in
    let b = c.other.inside in
    let s = other_way c.args.self.now c.args.other.now (c.has_size_of.ensures.yes c.if-not-has_size_of.false) in
    c.within.ensures.no t (included_back b.may a.may b.registers b.facts a.registers a.facts c.args.other.now c.args.self.now (laid b.may b.registers b.facts c.args.other.now c.other.invariant c.other.view_is) (laid a.may a.registers a.facts c.args.self.now c.self.invariant c.self.view_is) s w)
