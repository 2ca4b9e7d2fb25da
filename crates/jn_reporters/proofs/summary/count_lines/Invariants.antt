use Rattle.std.proofs.Common.{◌≡◌, take}
use Rattle.jn_reporters.specs.Counts.{lines_of}
use Rattle.jn_reporters.proofs.summary.count_lines.Given as goal

abbrev pub invariant-loop-code : goal.invariant-loop-code
invariant-loop-code l = l.lines.items ≡ lines_of (take l.code-index l.codes) l.counts
