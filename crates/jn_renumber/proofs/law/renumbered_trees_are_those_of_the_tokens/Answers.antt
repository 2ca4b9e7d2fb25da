use Rattle.jn_renumber.proofs.Forgotten.{file_kept}
use Rattle.jn_renumber.proofs.Spelled.{file_spelled}
use Rattle.jn_renumber.proofs.StillGood.{good_file}
use Rattle.jn_renumber.proofs.TreesOfTokens.{file_renumbered, placed_renumbered}
use Rattle.jn_renumber.proofs.law.renumbered_trees_are_those_of_the_tokens.Goals as goal

pub returns-clause-forgotten : goal.returns-clause-forgotten
returns-clause-forgotten c = file_kept

pub returns-clause-spelled : goal.returns-clause-spelled
returns-clause-spelled c = file_spelled

pub returns-clause-good : goal.returns-clause-good
returns-clause-good c = good_file

pub returns-clause-file : goal.returns-clause-file
returns-clause-file c = file_renumbered

pub returns-clause-placed : goal.returns-clause-placed
returns-clause-placed c = placed_renumbered
