use Rattle.std.proofs.Common.{◌*◌, ◌-◌}
use Rattle.jn_lex_shared.proofs.sharing.+part.Given as goal

abbrev pub decreases-lex_parts : goal.decreases-lex_parts
decreases-lex_parts g l = 2 * l.more

abbrev pub decreases-ours : goal.decreases-ours
decreases-ours g l = 2 * l.more - 1
