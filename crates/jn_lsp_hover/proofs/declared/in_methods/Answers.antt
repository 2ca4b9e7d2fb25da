use Rattle.std.proofs.Common.{◌≤◌, ◌<◌, ◌⊎◌, inl, inr, length, sym, ◌∙◌, arith}
use Rattle.jn_lsp_hover.specs.Declarations.{declared_at, declared_methods}
use Rattle.jn_lsp_hover.proofs.Declaring.{method_found, method_none, methods_end}
use Rattle.jn_lsp_hover.proofs.declared.in_methods.Goals as goal

pub returns-then-is_some : goal.returns-then-is_some
returns-then-is_some c =
    let within : c.loop-at.at < length c.args.heads.now = omega (arith, c.loop-at-test.true, c.least-at-end.ensures.left) in
    let inside : c.loop-at.at < length c.args.methods.now = omega (arith, c.loop-at-test.true, c.least-at-end.ensures.right) in
    method_found c.args.heads.now c.args.methods.now c.loop-at.at c.index-heads-at.result c.index-methods-at.result within inside c.index-heads-at.is c.index-methods-at.is
    c.args.file c.args.offset c.in_method-found.result (declared_at c.args.file c.args.offset (declared_methods c.args.heads.now c.args.methods.now)) c.in_method-found.ensures c.loop-at.invariant (sym c.is_some.ensures ∙ c.if-is_some.true)

pub loop-at-preserved : goal.loop-at-preserved
loop-at-preserved c =
    let within : c.loop-at.at < length c.args.heads.now = omega (arith, c.loop-at-test.true, c.least-at-end.ensures.left) in
    let inside : c.loop-at.at < length c.args.methods.now = omega (arith, c.loop-at-test.true, c.least-at-end.ensures.right) in
    method_none c.args.heads.now c.args.methods.now c.loop-at.at c.index-heads-at.result c.index-methods-at.result within inside c.index-heads-at.is c.index-methods-at.is
    c.args.file c.args.offset c.in_method-found.result (declared_at c.args.file c.args.offset (declared_methods c.args.heads.now c.args.methods.now)) c.in_method-found.ensures c.loop-at.invariant (sym c.is_some.ensures ∙ c.if-is_some.false)

pub returns : goal.returns
returns c =
    let past : (length c.args.heads.now ≤ c.loop-at.at) ⊎ (length c.args.methods.now ≤ c.loop-at.at) =
    elim c.least-at-end.ensures.one [ inl l ↦ inl (omega (arith, l, c.loop-at-test.false)) | inr r ↦ inr (omega (arith, r, c.loop-at-test.false)) ] in
    methods_end c.args.file c.args.offset c.args.heads.now c.args.methods.now c.loop-at.at (declared_at c.args.file c.args.offset (declared_methods c.args.heads.now c.args.methods.now)) past c.loop-at.invariant
