use Rattle.std.proofs.Common.{◌∙◌}
use denote.Param.Send.{sendable}
use Rattle.std.proofs.Crossing.{crosses}
use Rattle.jn_index.proofs.indexed.IndexedProgram.TheSendSync as IndexedProgram-crosses
use Rattle.jn_points.proofs.program.Body.TheSendSync as Body-crosses
use Rattle.jn_trees.proofs.declaration.Parameter.TheSendSync as Parameter-crosses
use Rattle.jn_program.proofs.Appending.{all_lowered}
use Rattle.jn_program.proofs.Syncing.{member_syncs, statement_syncs}
use Rattle.jn_program.proofs.sharing.lower_by.Goals as goal

pub share_out-requires-sync-W : goal.share_out-requires-sync-W
share_out-requires-sync-W g c κs within = search (sendable, crosses, IndexedProgram-crosses.the_sync, Body-crosses.the_sync, Parameter-crosses.the_sync, member_syncs, statement_syncs) depth 20

pub returns : goal.returns
returns g c =
    let made = c.in_ok-lowered.ensures in
    let all = all_lowered c.args.program.now c.args.sources.now c.in_ok-lowered.lowered.items made.0 (λ n d lt. (made.1 n d lt).1) in
    record { bodies = c.in_ok-all.ensures.bodies ∙ all.0; rows = c.in_ok-all.ensures.rows ∙ all.1 }
