use Rattle.std.proofs.Common.{◌-◌, length}
use Rattle.jn_front.proofs.Relexing.{IsLexed}
use Rattle.jn_front.proofs.relexed.lex_all.Given as goal

abbrev pub invariant-loop-file : goal.invariant-loop-file
invariant-loop-file l = IsLexed l.reads l.file l.names l.all.items

abbrev pub decreases-loop-file : goal.decreases-loop-file
decreases-loop-file l = length l.reads - l.file
