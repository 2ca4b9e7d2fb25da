use Rattle.std.proofs.Common.{◌≡◌, sym, ◌∙◌, length}
use Rattle.std.proofs.lemmas.Bool.{eqb-true, eqb-false}
use Rattle.jn_env.proofs.Laid.{laid}
use Rattle.jn_env.proofs.Joined.{sizes_from, sizes_to}
use Rattle.jn_env.proofs.env.Env.has_size_of.Goals as goal

pub returns-then-self-other-clause-no : goal.returns-then-self-other-clause-no
returns-then-self-other-clause-no c = λ t s.
    let a = c.self.inside in
    let b = c.other.inside in
    let same = sizes_to a.may b.may a.registers a.facts b.registers b.facts c.args.self.now c.args.other.now (laid a.may a.registers a.facts c.args.self.now c.self.invariant c.self.view_is) (laid b.may b.registers b.facts c.args.other.now c.other.invariant c.other.view_is) s in
    c.if-self-other.true same.0

pub returns-then-self-other-2-clause-no : goal.returns-then-self-other-2-clause-no
returns-then-self-other-2-clause-no c = λ t s.
    let a = c.self.inside in
    let b = c.other.inside in
    let same = sizes_to a.may b.may a.registers a.facts b.registers b.facts c.args.self.now c.args.other.now (laid a.may a.registers a.facts c.args.self.now c.self.invariant c.self.view_is) (laid b.may b.registers b.facts c.args.other.now c.other.invariant c.other.view_is) s in
    c.if-self-other-2.true same.1

pub returns-clause-yes : goal.returns-clause-yes
returns-clause-yes c = λ t.
    let a = c.self.inside in
    let b = c.other.inside in
    let long : length a.may ≡ length b.may = sym c.len.ensures ∙ eqb-true c.len.result c.len-2.result t ∙ c.len-2.ensures in
    sizes_from a.may b.may a.registers a.facts b.registers b.facts c.args.self.now c.args.other.now (laid a.may a.registers a.facts c.args.self.now c.self.invariant c.self.view_is) (laid b.may b.registers b.facts c.args.other.now c.other.invariant c.other.view_is) c.if-self-other.false c.if-self-other-2.false long

pub returns-clause-no : goal.returns-clause-no
returns-clause-no c = λ t s.
    let a = c.self.inside in
    let b = c.other.inside in
    let same = sizes_to a.may b.may a.registers a.facts b.registers b.facts c.args.self.now c.args.other.now (laid a.may a.registers a.facts c.args.self.now c.self.invariant c.self.view_is) (laid b.may b.registers b.facts c.args.other.now c.other.invariant c.other.view_is) s in
    eqb-false c.len.result c.len-2.result t (c.len.ensures ∙ same.2 ∙ sym c.len-2.ensures)
