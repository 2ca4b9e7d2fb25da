use Rattle.std.proofs.Common.{length, ap, sym, ◌∙◌, arith}
use Rattle.jn_lsp_hover.specs.Declarations.{declared_at, declared_methods, methods_of}
use Rattle.jn_lsp_hover.proofs.Declaring.{class_found, class_none}
use Rattle.jn_lsp_hover.proofs.declared.in_classes.Goals as goal

pub returns-then-is_some : goal.returns-then-is_some
returns-then-is_some c =
    class_found c.args.heads.now c.loop-head.head-index c.head-item.result c.as_slice.result.now c.loop-head.rest.now (omega (arith, c.loop-head-test.true)) c.head-item.is c.as_slice.ensures
    c.args.file c.args.offset c.in_methods-found.result (declared_at c.args.file c.args.offset (declared_methods (methods_of c.args.heads.now) c.args.methods.now)) c.in_methods-found.ensures c.loop-head.invariant (sym c.is_some.ensures ∙ c.if-is_some.true)

pub loop-head-preserved : goal.loop-head-preserved
loop-head-preserved c =
    class_none c.args.heads.now c.loop-head.head-index c.head-item.result c.as_slice.result.now c.loop-head.rest.now (omega (arith, c.loop-head-test.true)) c.head-item.is c.as_slice.ensures
    c.args.file c.args.offset c.in_methods-found.result (declared_at c.args.file c.args.offset (declared_methods (methods_of c.args.heads.now) c.args.methods.now)) c.in_methods-found.ensures c.loop-head.invariant
    c.len.result c.items_behind-rest.result.now (c.len.ensures ∙ ap length (sym c.as_slice.ensures)) c.items_behind-rest.ensures (sym c.is_some.ensures ∙ c.if-is_some.false)
