use Rattle.jn_trees.proofs.Numbers.{number_found, still_distinct}
use Rattle.jn_trees.proofs.law.names_are_found_by_their_numbers.Goals as goal

pub returns-clause-found : goal.returns-clause-found
returns-clause-found c = number_found

pub returns-clause-distinct : goal.returns-clause-distinct
returns-clause-distinct c = still_distinct
