use Rattle.std.proofs.Common.{refl}
use Rattle.std.specs.Prelude.{map}
use Rattle.jn_trees.specs.View.{import_view}
use Rattle.jn_trees.specs.Spelling.{spell_import, spell_imports}
use Rattle.jn_places.specs.Places.{behind}
use Rattle.jn_annotate.proofs.Cursors.{step, behind_append}
use Rattle.jn_annotate.proofs.steps.behind_imports.Goals as goal

pub loop-import-preserved : goal.loop-import-preserved
loop-import-preserved c =
    step (λ is ts. behind ts (spell_imports (map import_view is))) (λ i ts. behind ts (spell_import (import_view i))) (λ ts. refl)
    (λ i is ts. behind_append ts (spell_import (import_view i)) (spell_imports (map import_view is)))
    c.args.imports.now c.loop-import.import-index c.import-item.result c.loop-import.rest.now c.behind_import-rest.result.now _ c.loop-import-test.true c.import-item.is c.behind_import-rest.ensures c.loop-import.invariant
