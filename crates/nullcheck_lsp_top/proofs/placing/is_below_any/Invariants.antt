use Rattle.std.proofs.Common.{◌≡◌, length}
use Rattle.nullcheck_lsp_top.specs.Placing.{is_below_any}
use Rattle.nullcheck_lsp_top.proofs.placing.is_below_any.Given as goal

abbrev pub invariant-loop-rest : goal.invariant-loop-rest
invariant-loop-rest l = is_below_any l.skipped l.rest l.path ≡ is_below_any l.skipped l.homes l.path

abbrev pub decreases-loop-rest : goal.decreases-loop-rest
decreases-loop-rest l = length l.rest
