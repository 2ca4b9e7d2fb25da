use Rattle.std.proofs.Common.{ℕ, Ok, Some, length-set, ◌∙◌}
use Rattle.jn_sharing.proofs.Making.{popped, laid_some}
use Rattle.jn_sharing.proofs.sharing.laid_out.Goals as goal

pub loop-number-preserved-then-number-len : goal.loop-number-preserved-then-number-len
loop-number-preserved-then-number-len g c =
    let Makes : ℕ → g.row.X.Denot → Type 0 = λ n x. (w : ℕ) × goal.W-post g c.args.work.now n w (Ok x) in
    let i = c.loop-number.invariant in
    let one = popped Makes c.loop-number.made.items c.pop.new.self.items c.pop.result c.in-Some.number c.in-Some.value c.pop.ensures.items c.in-Some.is i.0 in
    (one.0, length-set c.loop-number.laid.items c.in-Some.number (Some c.in-Some.value) ∙ i.1, laid_some Makes c.loop-number.laid.items i.2 c.in-Some.number c.in-Some.value one.1)

pub loop-number-preserved-then-number-len-2 : goal.loop-number-preserved-then-number-len-2
loop-number-preserved-then-number-len-2 g c =
    let Makes : ℕ → g.row.X.Denot → Type 0 = λ n x. (w : ℕ) × goal.W-post g c.args.work.now n w (Ok x) in
    let i = c.loop-number.invariant in
    let one = popped Makes c.loop-number.made.items c.pop.new.self.items c.pop.result c.in-Some.number c.in-Some.value c.pop.ensures.items c.in-Some.is i.0 in
    (one.0, length-set c.loop-number.laid.items c.in-Some.number (Some c.in-Some.value) ∙ i.1, laid_some Makes c.loop-number.laid.items i.2 c.in-Some.number c.in-Some.value one.1)

pub loop-number-preserved : goal.loop-number-preserved
loop-number-preserved g c =
    let Makes : ℕ → g.row.X.Denot → Type 0 = λ n x. (w : ℕ) × goal.W-post g c.args.work.now n w (Ok x) in
    let i = c.loop-number.invariant in
    let one = popped Makes c.loop-number.made.items c.pop.new.self.items c.pop.result c.in-Some.number c.in-Some.value c.pop.ensures.items c.in-Some.is i.0 in
    (one.0, i.1, i.2)
