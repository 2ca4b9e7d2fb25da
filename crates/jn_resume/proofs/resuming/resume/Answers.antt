use Rattle.std.proofs.Common.{◌≡◌, ℕ, ◌<◌, List, length, ap, ◌∙◌, sym, subst, subst₂, arith}
use Rattle.jn_sigtable.proofs.LeastWords.{least_is_least}
use Rattle.jn_worklist.specs.Drains.{IsDirtyOrClosed}
use Rattle.jn_resume.specs.Open.{AreLeftOpen}
use Rattle.jn_resume.proofs.AtRest.{closed_least, unset}
use Rattle.jn_resume.proofs.Edits.{same_least}
use Rattle.jn_resume.proofs.resuming.resume.Goals as goal

pub open_bodies-requires-clause-count : goal.open_bodies-requires-clause-count
open_bodies-requires-clause-count g c = ap (λ (l : List ℕ). length l) c.as_slice.ensures.value ∙ c.requires.between.0

pub open_bodies-requires-clause-room : goal.open_bodies-requires-clause-room
open_bodies-requires-clause-room g c = ap (λ (l : List ℕ). length l) c.as_slice-2.ensures.value ∙ c.requires.room

pub open_bodies-requires-clause-each : goal.open_bodies-requires-clause-each
open_bodies-requires-clause-each g c =
    subst₂ (λ (ws ds : List ℕ). (b : ℕ) → b < (g.C.Constraints.describe c.args.system.now).bodies → IsDirtyOrClosed (g.C.Constraints.describe c.args.system.now) ws ds b)
    (sym c.as_slice.ensures.value) (sym c.as_slice-2.ensures.value) c.requires.each

pub drain-requires-clause-each : goal.drain-requires-clause-each
drain-requires-clause-each g c = λ b lt. subst (λ (ws : List ℕ). IsDirtyOrClosed (g.C.Constraints.describe c.args.system.now) ws c.in_ok-left.left.bodies.items b) c.as_slice.ensures.value (c.in_ok-left.ensures.open b lt).0

pub returns-then-not-left : goal.returns-then-not-left
returns-then-not-left g c =
    let sys = g.C.Constraints.describe c.args.system.now in
    let law = g.met.C.Constraints.laws c.args.system.now in
    closed_least sys c.args.words.items c.args.start.now c.in_ok-left.left.bodies.items c.in_ok-left.left.any (unset c.in_ok-left.left.any c.if-not-left.true)
    (least_is_least sys law c.args.start.now c.requires.count (λ u. let f = c.type_inv.start u in omega arith)) c.requires.between
    (subst (λ (ws : List ℕ). AreLeftOpen sys ws c.in_ok-left.left.bodies.items c.in_ok-left.left.any sys.bodies) c.as_slice.ensures.value c.in_ok-left.ensures.open)

pub returns : goal.returns
returns g c =
    let sys = g.C.Constraints.describe c.args.system.now in
    let law = g.met.C.Constraints.laws c.args.system.now in
    same_least sys c.args.start.now c.args.words.items c.in_ok-drained.drained.items
    (least_is_least sys law c.args.start.now c.requires.count (λ u. let f = c.type_inv.start u in omega arith)) c.requires.between c.in_ok-drained.ensures.least
