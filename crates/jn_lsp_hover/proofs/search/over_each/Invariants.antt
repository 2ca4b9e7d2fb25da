use Rattle.std.proofs.Common.{◌≡◌, map, take}
use Rattle.jn_lsp_hover.specs.Searched.{searched}
use Rattle.jn_lsp_hover.specs.Spots.{read}
use Rattle.jn_lsp_hover.proofs.search.over_each.Given as goal

abbrev pub invariant-loop-operand : goal.invariant-loop-operand
invariant-loop-operand l = l.found ≡ searched l.sought l.fn.best (map (read l.place.body l.place.point) (take l.operand-index l.operands))
