use Rattle.std.proofs.Common.{◌≡◌, drop}
use Rattle.std.specs.Prelude.{map}
use Rattle.jn_points.specs.Members.{some_of}
use Rattle.jn_trees.specs.View.{import_view}
use Rattle.jn_annotate.specs.Imports as spec
use Rattle.jn_annotate.proofs.imports.is_imported.Given as goal

abbrev pub invariant-loop-import : goal.invariant-loop-import
invariant-loop-import l = some_of (spec.imports_word l.owner l.word.0) (map import_view l.imports) ≡ some_of (spec.imports_word l.owner l.word.0) (map import_view (drop l.import-index l.imports))
