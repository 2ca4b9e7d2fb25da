use Rattle.std.proofs.Common.{◌≡◌, length}
use Rattle.nullcheck_lsp_top.specs.Placing.{open_in}
use Rattle.nullcheck_lsp_top.proofs.placing.open_in.Given as goal

abbrev pub invariant-loop-rest : goal.invariant-loop-rest
invariant-loop-rest l = open_in l.documents l.rest l.path ≡ open_in l.documents l.homes l.path

abbrev pub decreases-loop-rest : goal.decreases-loop-rest
decreases-loop-rest l = length l.rest
