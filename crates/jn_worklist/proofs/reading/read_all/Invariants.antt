use Rattle.std.proofs.Common.{take}
use Rattle.jn_sigtable.specs.Words.{view_of}
use Rattle.jn_worklist.specs.Runs.{IsReadingOn}
use Rattle.jn_worklist.proofs.reading.read_all.Given as goal

abbrev pub invariant-loop-word : goal.invariant-loop-word
invariant-loop-word g l =
    IsReadingOn g.C.Constraints.describe l.task.table.now l.task.body.0 (view_of l.fn.pass) l.pass l.values (take l.word-index l.reads)
