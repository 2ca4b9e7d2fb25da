use Rattle.std.proofs.Common.{◌≡◌, ◌+◌, ◌++◌, length}
use Rattle.jn_diff.specs.Lines.{paired, paired_by}
use Rattle.jn_diff.proofs.line.paired.Given as goal

abbrev pub invariant-loop-olds : goal.invariant-loop-olds
invariant-loop-olds l = l.lines.items ++ paired_by l.extra l.olds l.news ≡ paired l.old l.new

abbrev pub decreases-loop-olds : goal.decreases-loop-olds
decreases-loop-olds l = length l.olds + length l.news
