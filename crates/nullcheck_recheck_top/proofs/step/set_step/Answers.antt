use Rattle.std.proofs.Common.{sym, subst}
use Rattle.nullcheck_recheck_top.specs.Stepping.{TextFrom}
use Rattle.nullcheck_recheck_top.proofs.Stepping.{set_taken}
use Rattle.nullcheck_recheck_top.proofs.step.set_step.Goals as goal

pub returns-in-Ok-set-clause-taken : goal.returns-in-Ok-set-clause-taken
returns-in-Ok-set-clause-taken g c written writes =
    let held = g.F.Files.held c.args.files.now in
    let old = g.F.Files.gave c.args.files.now in
    let new = g.F.Files.gave c.text_of.new.files in
    let from = subst (λ text. TextFrom held c.args.file.now old new text) (sym c.deref.ensures.value) c.in-Ok.ensures.read in
    set_taken held old new written (g.F.Files.faults c.args.files.now) (g.F.Files.faults c.text_of.new.files) writes c.args.session.now c.set.new.self c.args.name.now c.args.file.now c.deref.result.now c.args.last from (c.in-Ok.ensures.kept (λ h. h)) c.in-Ok-set.ensures.infer c.in-Ok-set.ensures.files c.in-Ok-set.ensures.last c.in-Ok-set.ensures.kept
