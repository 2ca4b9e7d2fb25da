use Rattle.std.proofs.Common.{◌<◌, ◌≤◌, false, length, sym, arith}
use Rattle.std.proofs.lemmas.List.{get_or_past}
use Rattle.jn_env.proofs.Laid.{laid, length_laid, read_own}
use Rattle.jn_env.proofs.env.Env.has_assigned_at.Goals as goal

pub overflow_sub-len : goal.overflow_sub-len
overflow_sub-len c =
    let may = c.self.inside.may in
    let r = c.self.inside.registers in
    let f = c.self.inside.facts in
    let e = c.args.self.now in
    let l = laid may r f e c.self.invariant c.self.view_is in
    omega (arith, c.own_from-first.ensures.from, c.len.ensures, length_laid may r f e l, l.quals, l.facts)

pub returns-then-at-len : goal.returns-then-at-len
returns-then-at-len c =
    let may = c.self.inside.may in
    let r = c.self.inside.registers in
    let f = c.self.inside.facts in
    let e = c.args.self.now in
    let l = laid may r f e c.self.invariant c.self.view_is in
    let lt : c.args.at < length e.assigned = omega (arith, c.if-at-len.true, c.own_from-first.ensures.from, c.len.ensures, length_laid may r f e l, l.quals, l.facts) in
    read_own may r f e l c.args.at c.own_from-first.result c.get.result lt c.own_from-first.ensures.from c.get.ensures

pub returns-else-at-len : goal.returns-else-at-len
returns-else-at-len c =
    let may = c.self.inside.may in
    let r = c.self.inside.registers in
    let f = c.self.inside.facts in
    let e = c.args.self.now in
    let l = laid may r f e c.self.invariant c.self.view_is in
    let le : length e.assigned ≤ c.args.at = omega (arith, c.if-at-len.false, c.own_from-first.ensures.from, c.len.ensures, length_laid may r f e l, l.quals, l.facts) in
    sym (get_or_past e.assigned c.args.at false le)
