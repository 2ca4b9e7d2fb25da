use Rattle.std.proofs.Common.{◌≡◌, take}
use Rattle.jn_front.specs.Files.{files_of_reads}
use Rattle.nullcheck_annotate_top.specs.Study.{texts_of}
use Rattle.nullcheck_annotate_top.proofs.texts.texts.Given as goal

abbrev pub invariant-loop-read : goal.invariant-loop-read
invariant-loop-read l = l.texts.items ≡ texts_of (files_of_reads (take l.read-index l.reads))
