use Rattle.std.proofs.Common.{take, arith, sym, ap, ◌∙◌, subst}
use Rattle.std.proofs.lemmas.List.{take_all}
use Rattle.jn_front.specs.Files.{AllHeld}
use Rattle.nullcheck_recheck_top.specs.Carrying.{file_of}
use Rattle.nullcheck_recheck_top.specs.Stepping.{EndsBy, GoesOn, world}
use Rattle.nullcheck_recheck_top.specs.declared.step.Taken.TheVariants.{Ends}
use Rattle.nullcheck_recheck_top.proofs.Starting.{starts_all, starts_at}
use Rattle.nullcheck_recheck_top.proofs.Looping.{did_end, did_more, did_whole, held_at, never_read, unmoved}
use Rattle.nullcheck_recheck_top.proofs.carrying.carry_out.Goals as goal

pub returns-in-Ends-clause-carried : goal.returns-in-Ends-clause-carried
returns-in-Ends-clause-carried g c =
    let l = c.loop-step in
    let held = g.F.Files.held c.args.files.now in
    let old = world (g.F.Files.gave c.args.files.now) (g.K.Sink.written c.args.out.now) (g.F.Files.faults c.args.files.now) (g.K.Sink.faults c.args.out.now) in
    let mid = world (g.F.Files.gave l.files) (g.K.Sink.written l.out) (g.F.Files.faults l.files) (g.K.Sink.faults l.out) in
    let new = world (g.F.Files.gave c.take_step.new.files) (g.K.Sink.written c.take_step.new.out) (g.F.Files.faults c.take_step.new.files) (g.K.Sink.faults c.take_step.new.out) in
    let end = subst (λ h. EndsBy h mid new l.session c.step-item.result c.in-Ends.status) l.invariant.1 c.in-Ends.ensures.taken in
    did_end c.args.infer held old mid c.args.steps.now l.step-index c.step-item.result c.loop-step-test.true c.step-item.is l.last l.session l.invariant.0 new c.in-Ends.status end

pub returns-in-Ends-clause-steady : goal.returns-in-Ends-clause-steady
returns-in-Ends-clause-steady g c st all e =
    let l = c.loop-step in
    let held = held_at (g.F.Files.held c.args.files.now) c.args.steps.now l.step-index c.step-item.result c.loop-step-test.true c.step-item.is all in
    let there = subst (λ h. AllHeld h (file_of c.step-item.result)) (sym l.invariant.1) held in
    (c.in-Ends.ensures.steady (l.invariant.2 st all) there).0 (ap Ends e)

pub loop-step-preserved : goal.loop-step-preserved
loop-step-preserved g c =
    let l = c.loop-step in
    let held = g.F.Files.held c.args.files.now in
    let old = world (g.F.Files.gave c.args.files.now) (g.K.Sink.written c.args.out.now) (g.F.Files.faults c.args.files.now) (g.K.Sink.faults c.args.out.now) in
    let mid = world (g.F.Files.gave l.files) (g.K.Sink.written l.out) (g.F.Files.faults l.files) (g.K.Sink.faults l.out) in
    let new = world (g.F.Files.gave c.take_step.new.files) (g.K.Sink.written c.take_step.new.out) (g.F.Files.faults c.take_step.new.files) (g.K.Sink.faults c.take_step.new.out) in
    let goes = subst (λ h. GoesOn h mid new l.session l.last c.step-item.result c.in-Goes.status c.take_step.new.session) l.invariant.1 c.in-Goes.ensures.taken in (
      did_more c.args.infer held old mid c.args.steps.now l.step-index c.step-item.result c.loop-step-test.true c.step-item.is l.last l.session l.invariant.0 new c.in-Goes.status c.take_step.new.session goes,
      c.in-Goes.ensures.held ∙ l.invariant.1,
      (λ st all.
          let there = subst (λ h. AllHeld h (file_of c.step-item.result)) (sym l.invariant.1) (held_at held c.args.steps.now l.step-index c.step-item.result c.loop-step-test.true c.step-item.is all) in
          (c.in-Goes.ensures.steady (l.invariant.2 st all) there).1),
    )

pub returns-clause-carried : goal.returns-clause-carried
returns-clause-carried g c =
    let l = c.loop-step in
    let f = c.loop-step-test.false in
    let old = world (g.F.Files.gave c.args.files.now) (g.K.Sink.written c.args.out.now) (g.F.Files.faults c.args.files.now) (g.K.Sink.faults c.args.out.now) in
    let new = world (g.F.Files.gave l.files) (g.K.Sink.written l.out) (g.F.Files.faults l.files) (g.K.Sink.faults l.out) in
    did_whole c.args.infer (g.F.Files.held c.args.files.now) old new c.args.steps.now (take l.step-index c.args.steps.now) l.last l.session (take_all l.step-index c.args.steps.now (omega (arith, f))) l.invariant.0

pub returns-clause-steady : goal.returns-clause-steady
returns-clause-steady g c st all =
    let l = c.loop-step in
    let old = world (g.F.Files.gave c.args.files.now) (g.K.Sink.written c.args.out.now) (g.F.Files.faults c.args.files.now) (g.K.Sink.faults c.args.out.now) in
    let new = world (g.F.Files.gave l.files) (g.K.Sink.written l.out) (g.F.Files.faults l.files) (g.K.Sink.faults l.out) in
    never_read c.args.infer (g.F.Files.held c.args.files.now) old new (take l.step-index c.args.steps.now) l.last l.session l.invariant.0

pub returns-in-Ends-clause-started : goal.returns-in-Ends-clause-started
returns-in-Ends-clause-started g c =
    let l = c.loop-step in
    let held = g.F.Files.held c.args.files.now in
    let old = world (g.F.Files.gave c.args.files.now) (g.K.Sink.written c.args.out.now) (g.F.Files.faults c.args.files.now) (g.K.Sink.faults c.args.out.now) in
    let mid = world (g.F.Files.gave l.files) (g.K.Sink.written l.out) (g.F.Files.faults l.files) (g.K.Sink.faults l.out) in
    starts_at c.args.infer held old mid c.args.steps.now l.step-index c.step-item.result l.last l.session (g.F.Files.gave c.take_step.new.files) c.loop-step-test.true c.step-item.is l.invariant.0 c.in-Ends.ensures.started

pub returns-clause-started : goal.returns-clause-started
returns-clause-started g c =
    let l = c.loop-step in
    let f = c.loop-step-test.false in
    let old = world (g.F.Files.gave c.args.files.now) (g.K.Sink.written c.args.out.now) (g.F.Files.faults c.args.files.now) (g.K.Sink.faults c.args.out.now) in
    let new = world (g.F.Files.gave l.files) (g.K.Sink.written l.out) (g.F.Files.faults l.files) (g.K.Sink.faults l.out) in
    starts_all c.args.infer (g.F.Files.held c.args.files.now) old new c.args.steps.now (take l.step-index c.args.steps.now) l.last l.session (take_all l.step-index c.args.steps.now (omega (arith, f))) l.invariant.0

pub returns-in-Ends-clause-count : goal.returns-in-Ends-clause-count
returns-in-Ends-clause-count g c st all =
    let old = world (g.F.Files.gave c.args.files.now) (g.K.Sink.written c.args.out.now) (g.F.Files.faults c.args.files.now) (g.K.Sink.faults c.args.out.now) in
    let new = world (g.F.Files.gave c.take_step.new.files) (g.K.Sink.written c.take_step.new.out) (g.F.Files.faults c.take_step.new.files) (g.K.Sink.faults c.take_step.new.out) in
    unmoved c.args.infer (g.F.Files.held c.args.files.now) old new c.args.steps.now c.in-Ends.status (returns-in-Ends-clause-carried g c) (returns-in-Ends-clause-steady g c st all)

pub returns-clause-count : goal.returns-clause-count
returns-clause-count g c st all =
    let l = c.loop-step in
    let old = world (g.F.Files.gave c.args.files.now) (g.K.Sink.written c.args.out.now) (g.F.Files.faults c.args.files.now) (g.K.Sink.faults c.args.out.now) in
    let new = world (g.F.Files.gave l.files) (g.K.Sink.written l.out) (g.F.Files.faults l.files) (g.K.Sink.faults l.out) in
    unmoved c.args.infer (g.F.Files.held c.args.files.now) old new c.args.steps.now l.last (returns-clause-carried g c) (returns-clause-steady g c st all)
