use Rattle.std.proofs.Common.{◌≡◌, ◌+◌, ◌<◌, ◌≤◌, ◌∙◌, false, cond, get_or, length, ap, arith}
use Rattle.jn_quals.specs.Order.{no_qual, committed_only}
use Rattle.jn_sigs.specs.Signature.{start_of, uncalled_from}
use Rattle.jn_sigs.proofs.Starts.{Started, started_more, started_all}
use Rattle.jn_sigs.proofs.initial.raise_all.Goals as goal

pub loop-i-preserved : goal.loop-i-preserved
loop-i-preserved c =
    let P = c.args.program.now in
    let i = c.loop-i.i in
    let info = c.info-item.result in
    let inside : i < length P.slots = omega (arith, c.loop-i-test.true, ap length c.as_slice-info-items.ensures) in
    let flag : get_or c.args.uncalled.now i false ≡ uncalled_from P i 0 P.methods = c.requires.flags i (omega (arith, inside, c.requires.slots)) in
    let is : c.start_of.result ≡ start_of P i info = c.start_of.ensures ∙ ap (λ b. cond info.inferred (cond b committed_only no_qual) info.start) flag in
    let next : Started P c.raise.new.self (i + 1) = rw c.raise.ensures (started_more P c.loop-i.sig i c.start_of.result info c.loop-i.invariant inside (c.info-item.is ∙ ap (λ list. get_or list i info) c.as_slice-info-items.ensures) is) in
    next

pub returns : goal.returns
returns c =
    let P = c.args.program.now in
    let past : length P.slots ≤ c.loop-i.i = omega (arith, c.loop-i-test.false, ap length c.as_slice-info-items.ensures) in
    started_all P c.loop-i.sig c.loop-i.i c.loop-i.invariant past
