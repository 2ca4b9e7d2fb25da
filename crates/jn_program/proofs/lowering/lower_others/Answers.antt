use Rattle.std.proofs.Common.{◌≡◌, ◌∙◌, [], ap, map, subst, sym}
use Rattle.jn_points.specs.Regular.{Regular}
use Rattle.jn_classtable.specs.Table as tables
use Rattle.jn_places.specs.PlacedView.{placed_file}
use Rattle.jn_program_law.specs.FileProgram.{inferring, j_rows}
use Rattle.jn_program.proofs.Programs.{program_made}
use Rattle.jn_program.proofs.lowering.lower_others.Goals as goal

pub returns-then-is_empty-clause-lowered : goal.returns-then-is_empty-clause-lowered
returns-then-is_empty-clause-lowered g c infer chosen =
    let files = map placed_file c.args.files.now in
    let none : j_rows files ≡ [] = sym c.in-Ok.ensures.rows ∙ c.is_empty.ensures.none c.if-is_empty.true in
    let made : c.with_bodies.result ≡ inferring infer files = program_made infer files c.args.table.slots (tables.table c.args.table.heads) c.into_parts-heads.result.1 c.with_bodies.result c.in-Ok.field-0.bodies (ap tables.table c.requires.table) chosen c.into_parts-heads.ensures.program c.in-Ok.ensures.bodies c.with_bodies.ensures in
    record {
      program = made;
      rows = none;
      regular = subst Regular (sym made) (c.inferring_programs_are_regular.ensures infer files (c.programs_of_tables_are_regular.ensures files c.requires.table none));
    }
