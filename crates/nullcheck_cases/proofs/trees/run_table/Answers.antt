use Rattle.std.proofs.Common.{◌≡◌, List, map, sym, ap, subst}
use Rattle.jn_heads.specs.Inferred.{Tabled, slots_by}
use Rattle.jn_places.specs.PlacedView.{placed_file}
use Rattle.jn_program.specs.Lowered.{IsProgram}
use Rattle.jn_trees.specs.declared.declaration.FileTree.{FileTree}
use Rattle.nullcheck_cases.proofs.trees.run_table.Goals as goal

pub run_program-requires-clause-program : goal.run_program-requires-clause-program
run_program-requires-clause-program g c κs lives =
    subst (λ (ts : List FileTree). IsProgram c.args.command.now.infer (map placed_file ts) c.in-Ok.program) c.deref.ensures.value
    (c.in-Ok.ensures.lowered c.args.command.now.infer (subst (λ (ts : List FileTree). c.args.table.slots ≡ slots_by c.args.command.now.infer (map placed_file ts)) (sym c.deref.ensures.value) (ap (λ (t : Tabled). t.slots) c.requires.table)))
