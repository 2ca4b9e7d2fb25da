use Rattle.std.proofs.Common.{◌≡◌, take}
use Rattle.jn_front.specs.Files.{files_of_reads}
use Rattle.nullcheck_annotate_top.specs.Output.{left_texts}
use Rattle.nullcheck_annotate_top.proofs.faults.left_texts.Given as goal

abbrev pub invariant-loop-slot : goal.invariant-loop-slot
invariant-loop-slot l = l.text.items ≡ left_texts (files_of_reads l.reads) (take l.slot-index l.left)
