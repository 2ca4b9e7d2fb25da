use Rattle.std.proofs.Common.{◌≤◌, ◌<◌, ◌⊎◌, inl, inr, length, sym, ◌∙◌, arith}
use Rattle.std.proofs.lemmas.List.{drop_more}
use Rattle.jn_lsp_hover.specs.Declarations.{declared_at, declared_params}
use Rattle.jn_lsp_hover.proofs.Declaring.{param_none, params_end}
use Rattle.jn_lsp_hover.proofs.declared.in_params.Goals as goal

pub loop-at-preserved : goal.loop-at-preserved
loop-at-preserved c =
    let within : c.loop-at.at < length c.args.params.now = omega (arith, c.loop-at-test.true, c.least-at-end.ensures.left) in
    let inside : c.loop-at.at < length c.args.slots.now = omega (arith, c.loop-at-test.true, c.least-at-end.ensures.right) in
    param_none c.args.params.now c.args.slots.now c.loop-at.at _ _ (drop_more c.args.params.now c.loop-at.at _ within) (drop_more c.args.slots.now c.loop-at.at _ inside)
    c.args.file c.args.offset c.declared_param-one.result (declared_at c.args.file c.args.offset (declared_params c.args.params.now c.args.slots.now)) c.declared_param-one.ensures c.loop-at.invariant (sym c.has_byte.ensures ∙ c.if-has_byte.false)

pub returns : goal.returns
returns c =
    let past : (length c.args.params.now ≤ c.loop-at.at) ⊎ (length c.args.slots.now ≤ c.loop-at.at) =
    elim c.least-at-end.ensures.one [ inl l ↦ inl (omega (arith, l, c.loop-at-test.false)) | inr r ↦ inr (omega (arith, r, c.loop-at-test.false)) ] in
    params_end c.args.file c.args.offset c.args.params.now c.args.slots.now c.loop-at.at (declared_at c.args.file c.args.offset (declared_params c.args.params.now c.args.slots.now)) past c.loop-at.invariant
