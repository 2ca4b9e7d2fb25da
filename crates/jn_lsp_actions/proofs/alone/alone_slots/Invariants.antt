use Rattle.std.proofs.Common.{◌≡◌, ◌++◌, drop}
use Rattle.jn_lsp_actions.specs.Alone.{alone, alone_from}
use Rattle.jn_lsp_actions.proofs.alone.alone_slots.Given as goal

abbrev pub invariant-loop-at : goal.invariant-loop-at
invariant-loop-at l = l.made ++ alone_from l.slot l.at (drop l.at l.slots) ≡ alone l.slot l.slots
