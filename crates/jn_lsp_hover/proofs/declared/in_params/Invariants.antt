use Rattle.std.proofs.Common.{◌≡◌, drop}
use Rattle.jn_lsp_hover.specs.Declarations.{declared_at, declared_params}
use Rattle.jn_lsp_hover.proofs.declared.in_params.Given as goal

abbrev pub invariant-loop-at : goal.invariant-loop-at
invariant-loop-at l = declared_at l.file l.offset (declared_params (drop l.at l.params) (drop l.at l.slots)) ≡ declared_at l.file l.offset (declared_params l.params l.slots)
