use Rattle.std.proofs.Common.{sym, ◌∙◌}
use Rattle.jn_chain.proofs.first.find_left.Goals as goal

pub returns-in-Some : goal.returns-in-Some
returns-in-Some g c = record { rests_are = c.requires.rests; known = sym c.left.ensures ∙ c.in-Some.is }
