use Rattle.std.proofs.Common.{◌≡◌, refl, sym, subst, ◌∙◌}
use Rattle.jn_script.specs.declared.step.Step.{Step}
use Rattle.jn_script.specs.declared.step.Step.TheVariants.{Set, Remove}
use Rattle.jn_front.specs.Files.{StartsOnly}
use Rattle.nullcheck_recheck_top.specs.Carrying.{file_of}
use Rattle.nullcheck_recheck_top.specs.Stepping.{IsTaken, world}
use Rattle.nullcheck_recheck_top.proofs.Starting.{starts_none}
use Rattle.nullcheck_recheck_top.proofs.Stepping.{goes_on}
use Rattle.nullcheck_recheck_top.proofs.step.take_step.Goals as goal

pub returns-in-Empty-clause-taken : goal.returns-in-Empty-clause-taken
returns-in-Empty-clause-taken g c =
    let held = g.F.Files.held c.args.files.now in
    let gave = g.F.Files.gave c.args.files.now in
    let written = g.K.Sink.written c.args.out.now in
    let reads = g.F.Files.faults c.args.files.now in
    let writes = g.K.Sink.faults c.args.out.now in
    subst (λ (step : Step). IsTaken held (world gave written reads writes) (world gave written reads writes) c.args.session.now c.args.last step c.empty_step.new.session c.empty_step.result) (sym c.in-Empty.is) (c.empty_step.ensures.taken held gave written reads writes)

pub returns-in-Empty-clause-steady : goal.returns-in-Empty-clause-steady
returns-in-Empty-clause-steady g c st all = (goes_on c.empty_step.result c.args.last c.empty_step.ensures.goes, st)

pub returns-in-Set-clause-taken : goal.returns-in-Set-clause-taken
returns-in-Set-clause-taken g c =
    let held = g.F.Files.held c.args.files.now in
    let written = g.K.Sink.written c.args.out.now in
    let writes = g.K.Sink.faults c.args.out.now in
    let old = world (g.F.Files.gave c.args.files.now) written (g.F.Files.faults c.args.files.now) writes in
    let new = world (g.F.Files.gave c.set_step.new.files) written (g.F.Files.faults c.set_step.new.files) writes in
    let same : Set c.as_str.result.now c.as_str-in-Set.result.now ≡ Set c.in-Set.name c.in-Set.file = λ i. Set (c.as_str.ensures i) (c.as_str-in-Set.ensures i) in
    subst (λ (step : Step). IsTaken held old new c.args.session.now c.args.last step c.set_step.new.session c.set_step.result) (same ∙ sym c.in-Set.is) (c.set_step.ensures.taken written writes)

pub returns-in-Remove-clause-taken : goal.returns-in-Remove-clause-taken
returns-in-Remove-clause-taken g c =
    let held = g.F.Files.held c.args.files.now in
    let gave = g.F.Files.gave c.args.files.now in
    let written = g.K.Sink.written c.args.out.now in
    let reads = g.F.Files.faults c.args.files.now in
    let writes = g.K.Sink.faults c.args.out.now in
    let same : Remove c.as_str-in-Remove.result.now ≡ Remove c.in-Remove.name = λ i. Remove (c.as_str-in-Remove.ensures i) in
    subst (λ (step : Step). IsTaken held (world gave written reads writes) (world gave written reads writes) c.args.session.now c.args.last step c.remove_step.new.session c.remove_step.result) (same ∙ sym c.in-Remove.is) (c.remove_step.ensures.taken held gave written reads writes)

pub returns-in-Remove-clause-steady : goal.returns-in-Remove-clause-steady
returns-in-Remove-clause-steady g c st all = (goes_on c.remove_step.result c.args.last c.remove_step.ensures.goes, st)

pub returns-in-Check-clause-taken : goal.returns-in-Check-clause-taken
returns-in-Check-clause-taken g c =
    let held = g.F.Files.held c.args.files.now in
    let gave = g.F.Files.gave c.args.files.now in
    let reads = g.F.Files.faults c.args.files.now in
    let old = world gave (g.K.Sink.written c.args.out.now) reads (g.K.Sink.faults c.args.out.now) in
    let new = world gave (g.K.Sink.written c.check_step.new.out) reads (g.K.Sink.faults c.check_step.new.out) in
    subst (λ (step : Step). IsTaken held old new c.args.session.now c.args.last step c.check_step.new.session c.check_step.result) (sym c.in-Check.is) (c.check_step.ensures.taken held gave reads c.args.last)

pub returns-in-Check-clause-steady : goal.returns-in-Check-clause-steady
returns-in-Check-clause-steady g c st all = (c.check_step.ensures.unread, st)

pub returns-in-Empty-clause-started : goal.returns-in-Empty-clause-started
returns-in-Empty-clause-started g c = starts_none (file_of c.args.step.now) (g.F.Files.gave c.args.files.now) (g.F.Files.gave c.args.files.now) refl

pub returns-in-Remove-clause-started : goal.returns-in-Remove-clause-started
returns-in-Remove-clause-started g c = starts_none (file_of c.args.step.now) (g.F.Files.gave c.args.files.now) (g.F.Files.gave c.args.files.now) refl

pub returns-in-Check-clause-started : goal.returns-in-Check-clause-started
returns-in-Check-clause-started g c = starts_none (file_of c.args.step.now) (g.F.Files.gave c.args.files.now) (g.F.Files.gave c.args.files.now) refl

pub returns-in-Set-clause-started : goal.returns-in-Set-clause-started
returns-in-Set-clause-started g c =
    let old = g.F.Files.gave c.args.files.now in
    let new = g.F.Files.gave c.set_step.new.files in
    let same : Set c.as_str.result.now c.as_str-in-Set.result.now ≡ Set c.in-Set.name c.in-Set.file = λ i. Set (c.as_str.ensures i) (c.as_str-in-Set.ensures i) in
    subst (λ (step : Step). StartsOnly (file_of step) old new) (same ∙ sym c.in-Set.is) c.set_step.ensures.started
