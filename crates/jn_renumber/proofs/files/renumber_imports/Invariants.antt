use Rattle.jn_places.specs.PlacedView.{placed_import}
use Rattle.jn_renumber.specs.Renumbered.{renumbered_import}
use Rattle.jn_renumber.proofs.Lists.{Renumbering}
use Rattle.jn_renumber.proofs.files.renumber_imports.Given as goal

abbrev pub invariant-loop-at : goal.invariant-loop-at
invariant-loop-at l = Renumbering placed_import (renumbered_import l.numbers) l.initial.imports.items l.imports.items l.at
