use Rattle.std.proofs.Common.{◌≡◌, drop}
use Rattle.jn_lsp_hover.specs.Declarations.{declared_at, declared_methods, methods_of}
use Rattle.jn_lsp_hover.proofs.declared.in_classes.Given as goal

abbrev pub invariant-loop-head : goal.invariant-loop-head
invariant-loop-head l = declared_at l.file l.offset (declared_methods (methods_of (drop l.head-index l.heads)) l.rest) ≡ declared_at l.file l.offset (declared_methods (methods_of l.heads) l.methods)
