-- Slots of which only one is inferred, so that what is written of all inferred slots is what is written of that one.
use Rattle.std.specs.Prelude.{ℕ, ◌+◌, ◌&&◌, ◌==◌, List, [], ◌∷◌}
use Rattle.jn_points.specs.declared.program.SlotInfo.{SlotInfo}

-- those from the number `at` on
abbrev pub alone_from : ℕ → ℕ → List SlotInfo → List SlotInfo
alone_from slot at [] = []
alone_from slot at (info ∷ slots) = record { start = info.start; inferred = info.inferred && at == slot } ∷ alone_from slot (at + 1) slots

abbrev pub alone : ℕ → List SlotInfo → List SlotInfo
alone slot slots = alone_from slot 0 slots
