use Rattle.std.proofs.Common.{◌≡◌, take}
use Rattle.jn_lsp.proofs.versions.copy_versions.Given as goal

abbrev pub invariant-loop-one : goal.invariant-loop-one
invariant-loop-one l = l.made ≡ take l.one-index l.versions
