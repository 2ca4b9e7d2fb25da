use Rattle.std.proofs.Common.{ℕ, bit_or, eqb-true, sym, subst}
use Rattle.jn_sigtable.specs.System.{Within}
use Rattle.jn_resume.proofs.AtRest.{or_same}
use Rattle.jn_resume.proofs.closing.has_bits.Goals as goal

pub returns : goal.returns
returns c = λ e. subst (Within c.args.output.1) c.word_at-there.ensures (or_same c.word_at-there.result c.args.output.1 (eqb-true (bit_or c.word_at-there.result c.args.output.1) c.word_at-there.result e))
