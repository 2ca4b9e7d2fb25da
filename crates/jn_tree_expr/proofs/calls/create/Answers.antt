use Rattle.jn_meaning.specs.Expressions as spec
use Rattle.jn_tree_expr.proofs.calls.create.Goals as goal

pub returns-in-Some : goal.returns-in-Some
returns-in-Some g c = λ names longest m h. rw c.in-Some.is (c.construct.ensures names longest m h)
