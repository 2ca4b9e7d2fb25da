use Rattle.std.proofs.Common.{sym, ap, ◌∙◌}
use mathlib.Core.Bool.{beq}
use Rattle.jn_env.proofs.WordWrites.{turned_here, turned_other, turned_small}
use Rattle.jn_env.proofs.words.with_bit.Goals as goal

pub returns-else-bit-wanted-clause-here : goal.returns-else-bit-wanted-clause-here
returns-else-bit-wanted-clause-here c = turned_here c.args.word c.args.at c.requires.at c.args.wanted (ap (λ x. beq x c.args.wanted) (sym c.bit.ensures) ∙ c.if-bit-wanted.false)

pub returns-else-bit-wanted-clause-others : goal.returns-else-bit-wanted-clause-others
returns-else-bit-wanted-clause-others c = turned_other c.args.word c.args.at c.requires.at

pub returns-else-bit-wanted-clause-small : goal.returns-else-bit-wanted-clause-small
returns-else-bit-wanted-clause-small c = turned_small c.args.word c.args.at c.requires.at c.requires.small
