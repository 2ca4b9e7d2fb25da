use Rattle.std.proofs.Common.{◌≡◌, ℕ, Ok, Some, Option, set, slice_get, length-set, sym, ◌∙◌, subst, arith}
use Rattle.jn_sharing.specs.Made.{AreMadeInOrder}
use Rattle.jn_sharing.proofs.Making.{one_more, laid_none}
use Rattle.jn_sharing.proofs.sharing.in_order.Goals as goal

pub loop-number-preserved : goal.loop-number-preserved
loop-number-preserved g c =
    let Makes : ℕ → g.row.X.Denot → Type 0 = λ n x. (w : ℕ) × goal.W-post g c.args.work.now n w (Ok x) in
    let loop = c.loop-number in
    record {
      laid = length-set loop.laid.items loop.number c.take-slot.new.self ∙ loop.invariant.laid;
      each = subst (λ (o : Option g.row.X.Denot). (n : ℕ) (x : g.row.X.Denot) → slice_get (set loop.laid.items loop.number o) n ≡ Some (Some x) → Makes n x) (sym c.take-slot.ensures.after) (laid_none Makes loop.laid.items loop.invariant.each loop.number);
      values = one_more Makes loop.number loop.values.items c.put.new.items.items c.in_ok-value.value loop.invariant.values c.in_ok-value.ensures c.in_ok-put.ensures;
    }

pub returns : goal.returns
returns g c =
    let Makes : ℕ → g.row.X.Denot → Type 0 = λ n x. (w : ℕ) × goal.W-post g c.args.work.now n w (Ok x) in
    let ended : c.loop-number.number ≡ c.args.count = omega arith in
    subst (λ n. AreMadeInOrder Makes n c.loop-number.values.items) ended c.loop-number.invariant.values
