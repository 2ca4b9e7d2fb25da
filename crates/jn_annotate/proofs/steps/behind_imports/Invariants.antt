use Rattle.std.proofs.Common.{◌≡◌, drop}
use Rattle.std.specs.Prelude.{map}
use Rattle.jn_trees.specs.View.{import_view}
use Rattle.jn_trees.specs.Spelling.{spell_imports}
use Rattle.jn_places.specs.Places.{behind}
use Rattle.jn_annotate.proofs.steps.behind_imports.Given as goal

abbrev pub invariant-loop-import : goal.invariant-loop-import
invariant-loop-import l = behind l.rest (spell_imports (map import_view (drop l.import-index l.imports))) ≡ behind l.tokens (spell_imports (map import_view l.imports))
