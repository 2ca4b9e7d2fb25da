use Rattle.std.proofs.Common.{◌≡◌, drop}
use Rattle.jn_lsp_hover.specs.Declarations.{declared_at, declared_methods}
use Rattle.jn_lsp_hover.proofs.declared.in_methods.Given as goal

abbrev pub invariant-loop-at : goal.invariant-loop-at
invariant-loop-at l = declared_at l.file l.offset (declared_methods (drop l.at l.heads) (drop l.at l.methods)) ≡ declared_at l.file l.offset (declared_methods l.heads l.methods)
