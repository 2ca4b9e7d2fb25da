use Rattle.std.proofs.Common.{◌≡◌, ◌++◌, drop}
use Rattle.std.specs.Prelude.{flat_map}
use Rattle.jn_lsp_actions.proofs.giving.all_slots.Given as goal

abbrev pub invariant-loop-slots : goal.invariant-loop-slots
invariant-loop-slots l = l.all.items ++ flat_map (λ slots. slots) (drop l.slots-index l.wants) ≡ flat_map (λ slots. slots) l.wants
