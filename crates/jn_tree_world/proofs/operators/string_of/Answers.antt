use Rattle.jn_tree_world.proofs.operators.string_of.Goals as goal

pub returns-in-Equals : goal.returns-in-Equals
returns-in-Equals c = λ P names longest m. rw (c.in-Some.is, c.in-Some-as_text.ensures, c.in-Equals.is) (c.equals.ensures P names longest m)
