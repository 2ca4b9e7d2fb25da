use Rattle.std.proofs.Common.{◌≡◌, take}
use Rattle.jn_lsp.specs.Tracking.{without_versions}
use Rattle.jn_lsp.proofs.versions.without_versions.Given as goal

abbrev pub invariant-loop-one : goal.invariant-loop-one
invariant-loop-one l = l.made ≡ without_versions l.names (take l.one-index l.versions)
