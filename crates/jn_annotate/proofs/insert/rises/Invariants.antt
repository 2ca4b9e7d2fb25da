use Rattle.std.proofs.Common.{drop}
use Rattle.jn_splice_law.specs.Passed.{Rising}
use Rattle.jn_annotate.specs.Puts.{insertions}
use Rattle.jn_annotate.proofs.insert.rises.Given as goal

abbrev pub invariant-loop-put : goal.invariant-loop-put
invariant-loop-put l = Rising l.from l.end (insertions (drop l.put-index l.puts)) → Rising 0 l.end (insertions l.puts)
