use Rattle.std.proofs.Common.{◌<◌, length, arith, subst}
use Rattle.jn_lsp_actions.specs.Hinted.{IsExplained}
use Rattle.jn_lsp_actions.specs.declared.hints.SlotHint.{SlotHint}
use Rattle.jn_lsp_actions.proofs.Reasoned.{hint_more}
use Rattle.jn_lsp_actions.proofs.explaining.all_explained.Goals as goal

pub loop-one-preserved : goal.loop-one-preserved
loop-one-preserved c =
    let lt : c.loop-one.one-index < length c.args.shown.now = omega (arith, c.loop-one-test.true) in
    let traced = c.args.traced.now in
    let is = subst (λ (one : SlotHint). IsExplained traced.encoding traced.files traced.names traced.program traced.sig traced.tables one c.in_ok-hint.hint) c.one-item.is c.in_ok-hint.ensures in
    hint_more traced.encoding traced.files traced.names traced.program traced.sig traced.tables c.args.shown.now c.loop-one.one-index _ c.in_ok-hint.hint c.loop-one.hints.items c.put.new.items.items lt is c.in_ok-put.ensures c.loop-one.invariant
