use Rattle.std.proofs.Common.{sym, subst, arith}
use Rattle.jn_sigtable.specs.System.{IsLeast}
use Rattle.jn_sigtable.proofs.LeastWords.{least_is_least, ones_in_most}
use Rattle.jn_worklist.proofs.DrainSteps.{begins_drain, drained, moved_true, moved_false}
use Rattle.jn_worklist.proofs.draining.settle.Goals as goal

pub loop-init : goal.loop-init
loop-init g c =
    let sys = g.C.Constraints.describe c.args.system.now in
    let law = g.met.C.Constraints.laws c.args.system.now in
    let is = least_is_least sys law c.args.words.now c.requires.count (λ u. let f = c.type_inv.words u in omega arith) in
    (begins_drain sys law c.args.words.now c.args.dirty.now c.requires.count is c.requires.each, omega arith, is)

pub loop-preserved : goal.loop-preserved
loop-preserved g c =
    let f = c.in_ok-raised.ensures in
    let sys = g.C.Constraints.describe c.args.system.now in
    let more = moved_true c.in_ok-raised.raised sys c.loop.words c.round.new.words _ c.if-not-raised.false f.moved in
    (f.kept c.args.words.now c.loop.invariant.0, let le = c.loop.invariant.1 in omega arith, c.loop.invariant.2)

pub returns-then-not-raised-clause-words : goal.returns-then-not-raised-clause-words
returns-then-not-raised-clause-words g c =
    let f = c.in_ok-raised.ensures in
    let sys = g.C.Constraints.describe c.args.system.now in
    let law = g.met.C.Constraints.laws c.args.system.now in
    drained sys law c.args.words.now c.round.new.words c.round.new.dirty c.requires.count c.loop.invariant.2 (f.kept c.args.words.now c.loop.invariant.0) (moved_false c.in_ok-raised.raised sys c.loop.words c.round.new.words _ c.if-not-raised.true f.moved)

pub returns-then-not-raised-clause-least : goal.returns-then-not-raised-clause-least
returns-then-not-raised-clause-least g c =
    let f = c.in_ok-raised.ensures in
    let sys = g.C.Constraints.describe c.args.system.now in
    let law = g.met.C.Constraints.laws c.args.system.now in
    let is = drained sys law c.args.words.now c.round.new.words c.round.new.dirty c.requires.count c.loop.invariant.2 (f.kept c.args.words.now c.loop.invariant.0) (moved_false c.in_ok-raised.raised sys c.loop.words c.round.new.words _ c.if-not-raised.true f.moved) in
    subst (IsLeast sys c.args.words.now) (sym is) c.loop.invariant.2

pub returns-clause-words : goal.returns-clause-words
returns-clause-words g c =
    let sys = g.C.Constraints.describe c.args.system.now in
    let le = c.loop.invariant.1 in
    let most = ones_in_most sys.words c.loop.words in
    let t = c.loop-test.false in
    let w = c.words.ensures in
    absurd (omega arith)

pub returns-clause-least : goal.returns-clause-least
returns-clause-least g c =
    let sys = g.C.Constraints.describe c.args.system.now in
    let le = c.loop.invariant.1 in
    let most = ones_in_most sys.words c.loop.words in
    let t = c.loop-test.false in
    let w = c.words.ensures in
    absurd (omega arith)
