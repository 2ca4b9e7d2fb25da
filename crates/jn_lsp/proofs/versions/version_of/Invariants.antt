use Rattle.std.proofs.Common.{◌≡◌, drop}
use Rattle.jn_lsp.specs.Tracking.{version_of}
use Rattle.jn_lsp.proofs.versions.version_of.Given as goal

abbrev pub invariant-loop-one : goal.invariant-loop-one
invariant-loop-one l = version_of l.versions l.name ≡ version_of (drop l.one-index l.versions) l.name
