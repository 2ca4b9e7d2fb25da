use Rattle.std.proofs.Common.{take}
use Rattle.jn_lsp_actions.specs.Hinted.{AreExplained}
use Rattle.jn_lsp_actions.proofs.explaining.all_explained.Given as goal

abbrev pub invariant-loop-one : goal.invariant-loop-one
invariant-loop-one l = AreExplained l.traced.encoding l.traced.files l.traced.names l.traced.program l.traced.sig l.traced.tables (take l.one-index l.shown) l.hints.items
