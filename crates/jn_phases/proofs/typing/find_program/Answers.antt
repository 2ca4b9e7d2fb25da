use Rattle.std.proofs.Common.{map, subst}
use Rattle.jn_places.specs.PlacedView.{placed_file}
use Rattle.jn_basecheck.specs.Refusal.{IsRefusedFor}
use Rattle.jn_front.specs.Files.{files_of_reads}
use Rattle.jn_phases.proofs.Reporting.{RefusesFound, typed_found, types_made}
use Rattle.jn_phases.proofs.typing.find_program.Goals as goal

pub returns-in-Ok : goal.returns-in-Ok
returns-in-Ok g c = typed_found c.args.infer (files_of_reads c.args.reads.now) c.args.names.now (map placed_file c.args.trees.now) c.args.program c.in-Ok.base c.typed.result c.in-Ok.ensures.program c.in-Ok.ensures.typed c.requires.program c.typed.ensures

pub returns-in-Err-Refused : goal.returns-in-Err-Refused
returns-in-Err-Refused g c =
    let are = subst (λ fail. IsRefusedFor c.args.program fail) c.in-Err-Refused.field-0-is c.in-Err-Refused.ensures.refused in
    types_made c.args.infer (files_of_reads c.args.reads.now) c.args.names.now (map placed_file c.args.trees.now) c.args.program c.in-Err-Refused.rows.items c.refused.result c.requires.program.0 are.1 are.0 (subst (λ rows. RefusesFound rows.items c.refused.result) c.in-Err-Refused.rows-is c.refused.ensures)
