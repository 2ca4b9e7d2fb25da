use Rattle.std.proofs.Common.{◌≡◌, map, take}
use Rattle.jn_annotate.specs.Puts.{insertions}
use Rattle.jn_lsp_actions.specs.Written.{insertion_at}
use Rattle.jn_lsp_actions.proofs.edits.insertions_of.Given as goal

abbrev pub invariant-loop-put : goal.invariant-loop-put
invariant-loop-put l = l.made ≡ map (insertion_at l.encoding l.text) (insertions (take l.put-index l.puts))
