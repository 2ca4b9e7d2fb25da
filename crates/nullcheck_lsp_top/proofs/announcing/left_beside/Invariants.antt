use Rattle.std.proofs.Common.{◌≡◌, ◌-◌, length}
use Rattle.nullcheck_lsp_top.specs.Announcing.{bytes_of}
use Rattle.nullcheck_lsp_top.proofs.announcing.left_beside.Given as goal

abbrev pub invariant-loop-rest : goal.invariant-loop-rest
invariant-loop-rest l = l.left - bytes_of l.rest ≡ l.bytes - bytes_of l.files

abbrev pub decreases-loop-rest : goal.decreases-loop-rest
decreases-loop-rest l = length l.rest
