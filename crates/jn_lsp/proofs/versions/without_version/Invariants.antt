use Rattle.std.proofs.Common.{◌≡◌, take}
use Rattle.jn_lsp.specs.Tracking.{without_version}
use Rattle.jn_lsp.proofs.versions.without_version.Given as goal

abbrev pub invariant-loop-one : goal.invariant-loop-one
invariant-loop-one l = l.made ≡ without_version l.name (take l.one-index l.versions)
