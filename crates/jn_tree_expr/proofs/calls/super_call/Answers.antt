use Rattle.jn_meaning.specs.Expressions as spec
use Rattle.jn_tree_expr.proofs.calls.super_call.Goals as goal

pub returns-in-Some : goal.returns-in-Some
returns-in-Some g c = λ names longest m h. rw c.in-Some.is (c.call_on_this.ensures names longest m h)
