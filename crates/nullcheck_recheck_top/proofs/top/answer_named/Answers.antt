use Rattle.std.specs.Prelude.{IfOk}
use Rattle.std.proofs.Common.{◌≡◌, ap, inl, inr, refl, ◌∙◌, sym, subst, Err, List, ℕ}
use Rattle.jn_base.specs.declared.refusal.Fail.{Fail}
use borrow.Enum.Total.{values_d}
use Rattle.jn_base.specs.contracts.refusal.Fail as fail
use Rattle.jn_outside.specs.contracts.files.ReadFail as read_fail
use Rattle.jn_outside.specs.declared.files.ReadFail.{ReadFail}
use Rattle.jn_outside.specs.declared.files.ReadFail.TheVariants.{Failed, TooLarge}
use Rattle.jn_script.specs.Telling.{IfRefused}
use Rattle.jn_base.specs.declared.refusal.Fail.TheVariants.{Refused as RefusedFail}
use Rattle.jn_command.specs.Answer.{reading}
use Rattle.jn_script.specs.Script.{IsFirstBad, IsScript}
use Rattle.jn_script.specs.declared.step.Step.{Step}
use Rattle.nullcheck_recheck_top.specs.Answer.{bad_line}
use Rattle.nullcheck_recheck_top.specs.Stepping.{CarriesOut, world}
use Rattle.nullcheck_recheck_top.proofs.Answering.{bad_answers, script_answers, small_given}
use Rattle.nullcheck_recheck_top.proofs.Starting.{starts_steps}
use Rattle.nullcheck_recheck_top.proofs.Stepping.{script_large}
use Rattle.nullcheck_recheck_top.proofs.top.answer_named.Goals as goal

pub returns-in-Err-Refused-TooLarge-clause-answer : goal.returns-in-Err-Refused-TooLarge-clause-answer
returns-in-Err-Refused-TooLarge-clause-answer g c =
    let w = c.in-Err-Refused-TooLarge in
    let large = subst (λ (f : Fail ReadFail). (values_d (fail.enum read_fail.the_row) 0 (Failed, tt {0}) f).0 ≡ TooLarge) w.field-0-is w.field-0-0-is in
    let e = w.is ∙ ap Err (w.field-0-is ∙ ap RefusedFail large) in
    let before = g.F.Files.gave c.args.files.now in
    let now = g.F.Files.gave c.read_whole.new.files in
    let held = g.F.Files.held c.args.files.now in
    let from = script_large held c.args.name.now before now (c.read_whole.ensures.gave_many e) in
    bad_answers c.args.infer (reading held before now) c.args.name.now from.script (g.K.Sink.written c.args.out.now) (g.K.Sink.written c.write.new.out) c.bad_output.result (g.K.Sink.faults c.args.out.now) (g.K.Sink.faults c.write.new.out) c.write.result 1 from.told from.given (inr (from.long, refl)) c.bad_output.ensures.status c.bad_output.ensures.bytes c.write.ensures

pub returns-in-Ok-read_script-clause-answer : goal.returns-in-Ok-read_script-clause-answer
returns-in-Ok-read_script-clause-answer g c =
    let held = g.F.Files.held c.args.files.now in
    let read = c.read_whole.new.files in
    let out = c.args.out.now in
    let old = world (g.F.Files.gave read) (g.K.Sink.written out) (g.F.Files.faults read) (g.K.Sink.faults out) in
    let new = world (g.F.Files.gave c.carry_out.new.files) (g.K.Sink.written c.carry_out.new.out) (g.F.Files.faults c.carry_out.new.files) (g.K.Sink.faults c.carry_out.new.out) in
    let steps = c.deref-in-Ok-read_script.result.now in
    let carried = subst (λ h. CarriesOut c.args.infer h old new steps c.carry_out.result) c.in-Ok.ensures.held c.carry_out.ensures.carried in
    let are = subst (λ (ss : List Step). IsScript c.in-Ok.script.items ss) (sym c.deref-in-Ok-read_script.ensures.value) (subst (λ (bs : List ℕ). IsScript bs c.in-Ok-read_script.steps.items) c.deref.ensures.value c.in-Ok-read_script.ensures.steps) in
    script_answers c.args.infer held (g.F.Files.gave c.args.files.now) c.args.name.now c.in-Ok.script.items steps old new c.in-Ok.ensures.ok.0 c.in-Ok.ensures.ok.1 c.in-Ok.ensures.gave are c.carry_out.result carried

pub returns-in-Err-Refused-clause-answer : goal.returns-in-Err-Refused-clause-answer
returns-in-Err-Refused-clause-answer g c =
    let held = g.F.Files.held c.args.files.now in
    let before = g.F.Files.gave c.args.files.now in
    let now = g.F.Files.gave c.read_whole.new.files in
    let w = c.in-Err-Refused in
    let first = subst (λ (f : Fail ℕ). IfRefused f (IsFirstBad c.deref.result.now)) w.field-0-is w.ensures.bad in
    let bad = subst (λ (bs : List ℕ). IsFirstBad bs w.line) c.deref.ensures.value first in
    let text = subst (λ (line : ℕ). IfOk c.bad_output-in-Err-Refused.result (λ o. o.bytes ≡ bad_line c.args.name.now line)) w.line-is c.bad_output-in-Err-Refused.ensures.bytes in
    bad_answers c.args.infer (reading held before now) c.args.name.now c.in-Ok.script.items (g.K.Sink.written c.args.out.now) (g.K.Sink.written c.write-in-Err-Refused.new.out) c.bad_output-in-Err-Refused.result (g.K.Sink.faults c.args.out.now) (g.K.Sink.faults c.write-in-Err-Refused.new.out) c.write-in-Err-Refused.result w.line c.in-Ok.ensures.ok.0 (small_given c.args.name.now c.in-Ok.script.items before now c.in-Ok.ensures.ok.1 c.in-Ok.ensures.gave) (inl (c.in-Ok.ensures.ok.1, bad)) c.bad_output-in-Err-Refused.ensures.status text c.write-in-Err-Refused.ensures

pub returns-in-Ok-read_script-clause-starts : goal.returns-in-Ok-read_script-clause-starts
returns-in-Ok-read_script-clause-starts g c =
    let held = g.F.Files.held c.args.files.now in
    let before = g.F.Files.gave c.args.files.now in
    let mid = g.F.Files.gave c.read_whole.new.files in
    let new = g.F.Files.gave c.carry_out.new.files in
    let steps = c.deref-in-Ok-read_script.result.now in
    let are = subst (λ (ss : List Step). IsScript c.in-Ok.script.items ss) (sym c.deref-in-Ok-read_script.ensures.value) (subst (λ (bs : List ℕ). IsScript bs c.in-Ok-read_script.steps.items) c.deref.ensures.value c.in-Ok-read_script.ensures.steps) in
    starts_steps held c.args.name.now c.in-Ok.script.items steps before mid new (record { told = c.in-Ok.ensures.ok.0; small = c.in-Ok.ensures.ok.1; are = are }) (small_given c.args.name.now c.in-Ok.script.items before mid c.in-Ok.ensures.ok.1 c.in-Ok.ensures.gave) c.carry_out.ensures.started
