use Rattle.std.proofs.Common.{◌≡◌, take}
use Rattle.nullcheck_lsp_top.proofs.moving.copy_homes.Given as goal

abbrev pub invariant-loop-home : goal.invariant-loop-home
invariant-loop-home l = l.copies ≡ take l.home-index l.homes
