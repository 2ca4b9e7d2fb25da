use Rattle.std.proofs.Common.{◌≡◌, ◌<◌, ◌∙◌, false, get_or, length, ap, sym, arith}
use Rattle.jn_sigs.specs.Signature.{is_called}
use Rattle.jn_sigs.proofs.Uncalled.{marked, passed}
use Rattle.jn_sigs.proofs.sites.mark_uncalled.Goals as goal
use Rattle.jn_sigs.proofs.sites.mark_uncalled.Goals.{then-not-called-i, else-not-called-i}

pub loop-i-preserved : goal.loop-i-preserved
loop-i-preserved c i lt =
    let P = c.args.program.now in
    let m = c.loop-i.i in
    let x = c.method-item.result in
    let short : m < length P.methods = omega (arith, c.loop-i-test.true, ap length c.as_slice-method-items.ensures) in
    let is : x ≡ get_or P.methods m x = c.method-item.is ∙ ap (λ list. get_or list m x) c.as_slice-method-items.ensures in
    let below : i < length c.loop-i.flags = omega (arith, lt, c.if-not-called-i.auto.flags) in
    let flag : get_or c.args.called.now m false ≡ is_called P m = c.requires.called m (omega (arith, short, c.requires.methods)) in
    elim c.if-not-called-i.branch [
      | then-not-called-i w ↦ marked P i m x (get_or c.loop-i.flags i false) (get_or c.if-not-called-i.flags i false) short is (sym flag ∙ w.if-not-called-i.true) (ap (λ list. get_or list i false) w.flags-is ∙ w.mark_slots.ensures i below) ∙ c.loop-i.invariant i below
      | else-not-called-i w ↦ passed P i m x (get_or c.loop-i.flags i false) (get_or c.if-not-called-i.flags i false) short is (sym flag ∙ w.if-not-called-i.false) (ap (λ list. get_or list i false) w.flags-is) ∙ c.loop-i.invariant i below
    ]
