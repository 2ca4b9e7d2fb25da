use Rattle.std.proofs.Common.{◌≡◌, length}
use Rattle.nullcheck_lsp_top.specs.Placing.{homed_in}
use Rattle.nullcheck_lsp_top.proofs.placing.homed_in.Given as goal

abbrev pub invariant-loop-rest : goal.invariant-loop-rest
invariant-loop-rest l = homed_in l.root l.rest l.path ≡ homed_in l.root l.homes l.path

abbrev pub decreases-loop-rest : goal.decreases-loop-rest
decreases-loop-rest l = length l.rest
