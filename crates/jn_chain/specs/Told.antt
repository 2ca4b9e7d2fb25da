-- What is told of chains: how many steps, and those of them that are shown.
use Rattle.std.specs.Prelude.{ℕ, ◌-◌, Bool, true, false, List, ◌++◌, drop, length, take}
use Rattle.jn_reasons_law.specs.declared.item.Item.{Item}
use Rattle.jn_reasons_law.specs.declared.item.Item.TheVariants.{AtSlot, AtRegister}
use Rattle.jn_reasons_law.specs.declared.item.Step.{Step}
use Rattle.jn_reasons_law.specs.Choice.{told}
use Rattle.jn_chain.specs.declared.shown.Told.{Told}

abbrev pub is_slot : Item → Bool
is_slot (AtSlot k bit) = true
is_slot (AtRegister b p r bit) = false

-- of the steps the first ones and the last, so many at most
abbrev pub shown : ℕ → List Step → List Step
shown most steps = take (most - 1) (take (length steps - 1) steps) ++ drop (length steps - 1) steps

-- of a chain, how many steps are told, and those of them that are shown
abbrev pub told_of : ℕ → List Step → Told
told_of most steps = record { count = length (told steps); shown = shown most (told steps) }
