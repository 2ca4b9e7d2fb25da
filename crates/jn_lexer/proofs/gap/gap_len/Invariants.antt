use Rattle.std.proofs.Common.{◌≤◌, ◌-◌, length}
use Rattle.jn_lexer.specs.Found.{IsGapOf}
use Rattle.jn_lexer.proofs.gap.gap_len.Given as goal

abbrev pub invariant-loop-count : goal.invariant-loop-count
invariant-loop-count l = record { within : l.done ≤ length l.text; gap : IsGapOf l.text l.done }

abbrev pub decreases-loop-count : goal.decreases-loop-count
decreases-loop-count l = length l.text - l.done
