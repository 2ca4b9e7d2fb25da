use Rattle.std.proofs.Common.{◌≡◌, drop}
use Rattle.jn_lsp.specs.Telling.{told_of}
use Rattle.jn_lsp.proofs.publishing.told_of.Given as goal

abbrev pub invariant-loop-one : goal.invariant-loop-one
invariant-loop-one l = told_of l.told l.name ≡ told_of (drop l.one-index l.told) l.name
