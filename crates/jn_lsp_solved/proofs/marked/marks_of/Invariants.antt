use Rattle.std.proofs.Common.{◌≡◌, map, take}
use Rattle.jn_lsp_solved.specs.Marking.{counted_text}
use Rattle.jn_lsp_solved.proofs.marked.marks_of.Given as goal

abbrev pub invariant-loop-file : goal.invariant-loop-file
invariant-loop-file l = l.marks.items ≡ map (counted_text l.encoding) (take l.file-index l.files)
