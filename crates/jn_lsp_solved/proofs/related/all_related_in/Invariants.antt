use Rattle.std.proofs.Common.{◌≡◌, map, take}
use Rattle.jn_lsp_solved.specs.Related.{related_of}
use Rattle.jn_lsp_solved.proofs.related.all_related_in.Given as goal

abbrev pub invariant-loop-note : goal.invariant-loop-note
invariant-loop-note l = l.related ≡ map (related_of l.marked.encoding l.marked.files) (take l.note-index l.notes)
