use Rattle.std.proofs.Common.{◌≡◌, take}
use Rattle.std.specs.Prelude.{map}
use Rattle.jn_trees.specs.View.{package_view}
use Rattle.jn_annotate.specs.Imports as spec
use Rattle.jn_annotate.specs.Puts.{insertions}
use Rattle.jn_annotate.proofs.lines.line_puts.Given as goal

abbrev pub invariant-loop-owner : goal.invariant-loop-owner
invariant-loop-owner l = insertions l.puts.items ≡ map (spec.put_line l.text l.tokens (package_view l.line)) (take l.owner-index l.owners)
