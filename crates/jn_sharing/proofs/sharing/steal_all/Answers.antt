use Rattle.std.proofs.Common.{ℕ, Ok, Vec, Global, sym, subst}
use Rattle.jn_sharing.specs.Made.{AreMade}
use Rattle.jn_sharing.proofs.Making.{one_made}
use Rattle.jn_sharing.proofs.sharing.steal_all.Goals.{in-Retry, in-Success+then-number-count+in_ok-value-in-Success+in_ok-put-in-Success, in-Success+else-number-count}
use Rattle.jn_sharing.proofs.sharing.steal_all.Goals as goal

pub loop-preserved : goal.loop-preserved
loop-preserved g c =
    let Makes : ℕ → g.row.X.Denot → Type 0 = λ n x. (w : ℕ) × goal.W-post g c.args.work.now n w (Ok x) in
    elim c.match-steal.branch [
      | in-Retry w ↦ subst (λ (v : Vec (ℕ × g.row.X.Denot) Global). AreMade Makes v.items) (sym w.made-is) c.loop.invariant
      | in-Success+then-number-count+in_ok-value-in-Success+in_ok-put-in-Success w ↦
          let value = w.in_ok-value-in-Success.value in
          let is : Makes w.in-Success.number value = (c.args.worker, w.in_ok-value-in-Success.ensures) in
          subst (λ (v : Vec (ℕ × g.row.X.Denot) Global). AreMade Makes v.items) (sym w.made-is) (one_made Makes c.loop.made.items w.put.new.items.items w.in-Success.number value w.in_ok-put-in-Success.ensures c.loop.invariant is)
      | in-Success+else-number-count w ↦ subst (λ (v : Vec (ℕ × g.row.X.Denot) Global). AreMade Makes v.items) (sym w.made-is) c.loop.invariant
    ]
