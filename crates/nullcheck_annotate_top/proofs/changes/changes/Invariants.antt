use Rattle.std.proofs.Common.{◌≡◌, ◌++◌, drop}
use Rattle.jn_front.specs.Files.{files_of_reads}
use Rattle.nullcheck_annotate_top.specs.Changes.{changes}
use Rattle.nullcheck_annotate_top.proofs.changes.changes.Given as goal

abbrev pub invariant-loop-read : goal.invariant-loop-read
invariant-loop-read l = l.changes.items ++ changes (files_of_reads (drop l.read-index l.reads)) l.texts ≡ changes (files_of_reads l.reads) l.fn.texts
