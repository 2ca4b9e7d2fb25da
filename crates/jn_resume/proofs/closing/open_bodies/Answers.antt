use Rattle.std.proofs.Common.{◌≡◌, List, ℕ, length, sym, subst, arith}
use Rattle.jn_resume.specs.Open.{AreLeftOpen}
use Rattle.jn_resume.proofs.AtRest.{take_lent}
use Rattle.jn_resume.proofs.closing.open_bodies.Goals as goal

pub returns-clause-open : goal.returns-clause-open
returns-clause-open g c =
    let sys = g.C.Constraints.describe c.args.system.now in
    let new = c.mark_all_open.new.left in
    let count = c.in_ok-any.ensures.count in
    let lent = c.deref_mut.ensures.len in
    let same : c.in_ok-bodies.bodies.len ≡ length new = omega (arith, count, lent) in
    subst (λ (l : List ℕ). AreLeftOpen sys c.args.words.now l c.in_ok-any.any sys.bodies) (sym (take_lent c.in_ok-bodies.bodies.len new c.in_ok-bodies.bodies.items same)) c.in_ok-any.ensures.open
