use Rattle.jn_places.specs.PlacedView.{placed_declarator}
use Rattle.jn_renumber.specs.Renumbered.{renumbered_declarator}
use Rattle.jn_renumber.proofs.Lists.{Renumbering}
use Rattle.jn_renumber.proofs.locals.renumber_declarators.Given as goal

abbrev pub invariant-loop-at : goal.invariant-loop-at
invariant-loop-at l = Renumbering placed_declarator (renumbered_declarator l.numbers) l.initial.declarators.items l.declarators.items l.at
