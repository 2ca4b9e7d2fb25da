use Rattle.std.proofs.Common.{take}
use Rattle.jn_lsp.specs.Edits.{AreChanged}
use Rattle.jn_lsp.proofs.documents.changed_by_all.Given as goal

abbrev pub invariant-loop-change : goal.invariant-loop-change
invariant-loop-change l = AreChanged l.encoding (take l.change-index l.changes) l.text l.made
