use Rattle.std.proofs.Common.{◌≡◌, ◌++◌, drop, map}
use Rattle.jn_trees.specs.Spelling.{spell_imports}
use Rattle.jn_trees.specs.View.{import_view}
use Rattle.jn_trees_spelling.proofs.files.spell_imports.Given as goal

abbrev pub invariant-loop-import : goal.invariant-loop-import
invariant-loop-import l = l.kinds.items ++ spell_imports (map import_view (drop l.import-index l.imports)) ≡ l.fn.kinds.items ++ spell_imports (map import_view l.imports)
