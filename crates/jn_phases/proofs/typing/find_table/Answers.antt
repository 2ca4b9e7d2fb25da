use Rattle.std.proofs.Common.{map, refl, ◌∙◌, ap, subst, Ok}
use Rattle.jn_places.specs.PlacedView.{placed_file}
use Rattle.jn_heads.specs.Inferred.{Tabled}
use Rattle.jn_front.specs.Files.{files_of_reads}
use Rattle.jn_program.specs.Lowered.{IsRefusedFor}
use Rattle.jn_phases.proofs.Reporting.{lowering_made}
use Rattle.jn_phases.proofs.typing.find_table.Goals as goal

pub lower_others-requires-clause-table : goal.lower_others-requires-clause-table
lower_others-requires-clause-table g c κs lives = ap (λ (t : Tabled). t.heads) c.requires.table

pub find_lowered-requires-clause-program : goal.find_lowered-requires-clause-program
find_lowered-requires-clause-program g c κs lives =
    let declared = c.requires.declared in
    let made = c.in-Ok.ensures.lowered c.args.infer (ap (λ (t : Tabled). t.slots) c.requires.table) in (
      record {
        tokens = declared.0;
        trees = map placed_file c.args.trees.now;
        lowered = record { declared = declared.1; rowless = made.rows };
        is = made.program;
        regular = made.regular;
      },
      refl,
    )

pub find_lowered-requires-clause-known : goal.find_lowered-requires-clause-known
find_lowered-requires-clause-known g c κs lives = c.requires.typed c.in-Ok.lowered.program (c.in-Ok.ensures.lowered c.args.infer (ap (λ (t : Tabled). t.slots) c.requires.table))

pub returns-in-Err-Refused-clause-typing : goal.returns-in-Err-Refused-clause-typing
returns-in-Err-Refused-clause-typing g c =
    let trees = map placed_file c.args.trees.now in
    let declared = c.requires.declared in
    let are = subst (λ fail. IsRefusedFor trees fail) c.in-Err-Refused.field-0-is c.in-Err-Refused.ensures.refused in
    lowering_made c.args.infer (files_of_reads c.args.reads.now) c.args.names.now trees declared.0 c.into_vec.result.items (Ok c.in_ok-typing-in-Err-Refused.typing) declared.1 (c.into_vec.ensures ∙ c.in-Err-Refused.rows-is ∙ are.0) are.1 c.in_ok-typing-in-Err-Refused.ensures
