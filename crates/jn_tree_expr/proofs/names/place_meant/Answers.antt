use Rattle.jn_meaning.specs.Expressions as spec
use Rattle.jn_tree_expr.proofs.names.place_meant.Goals as goal

pub returns-in-Field : goal.returns-in-Field
returns-in-Field c = λ names longest. rw c.in-Field.is (c.own_place.ensures names longest)
