use Rattle.std.proofs.Common.{◌≡◌, take}
use Rattle.nullcheck_top.proofs.marks.marked.Given as goal

abbrev pub invariant-loop-read : goal.invariant-loop-read
invariant-loop-read l = l.files.items ≡ take l.read-index l.reads
