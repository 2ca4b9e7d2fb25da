use Rattle.std.proofs.Common.{map, ap, sym, ◌∙◌, subst}
use Rattle.std.specs.Prelude.{Some, string_bytes}
use Rattle.jn_front.specs.Files.{ReadFrom}
use Rattle.jn_command.specs.Answer.{reading}
use Rattle.jn_phases.proofs.Fitting.{few_reads}
use Rattle.nullcheck_annotate_top.specs.Answer.{Defines, effects}
use Rattle.nullcheck_annotate_top.proofs.Ending.{answers, fault_rose, never_read, output_done}
use Rattle.nullcheck_annotate_top.proofs.Naming.{few_words, output_of_read}
use Rattle.nullcheck_annotate_top.proofs.answer.answer_wanted.Goals as goal

pub output_of_reads-requires-clause-few : goal.output_of_reads-requires-clause-few
output_of_reads-requires-clause-few g c κs lives =
    let held = g.F.Files.held c.args.files.now in
    let before = g.F.Files.gave c.args.files.now in
    let now = g.F.Files.gave c.read_all.new.files in
    let words = c.deref.result.now in
    let named = ap (map string_bytes) c.deref.ensures.value ∙ c.in-Ok.ensures ∙ c.as_slice.ensures in
    let from = subst (λ rs. ReadFrom held (map string_bytes words) before now rs) (sym c.deref-2.ensures.value) c.in-Ok-read_all.ensures.ok in
    few_reads words c.deref-2.result.now from.files (few_words words c.args.wanted.now.files named c.requires.few) from.named from.are

pub returns-in-Ok-output_of_reads-clause-answer : goal.returns-in-Ok-output_of_reads-clause-answer
returns-in-Ok-output_of_reads-clause-answer g c =
    let held = g.F.Files.held c.args.files.now in
    let before = g.F.Files.gave c.args.files.now in
    let now = g.F.Files.gave c.read_all.new.files in
    let words = c.deref.result.now in
    let named = ap (map string_bytes) c.deref.ensures.value ∙ c.in-Ok.ensures ∙ c.as_slice.ensures in
    let from = subst (λ rs. ReadFrom held (map string_bytes words) before now rs) (sym c.deref-2.ensures.value) c.in-Ok-read_all.ensures.ok in
    let wanted = c.args.wanted.now in
    let output = c.in-Ok-output_of_reads.output in
    let defined = output_of_read held before now (map string_bytes words) c.deref-2.result.now wanted output named from c.in-Ok-output_of_reads.ensures in
    answers (Defines (reading held before now) (Some wanted)) output
    (effects (g.K.Sink.written c.args.out.now) (g.K.Sink.written c.finish.new.out) (g.T.Targets.replaced c.args.targets.now) (g.T.Targets.replaced c.finish.new.targets))
    defined (output_done wanted.infer wanted.terse wanted.imports wanted.mode defined.files output defined.is)
    (g.K.Sink.faults c.args.out.now) (g.K.Sink.faults c.finish.new.out) (g.T.Targets.faults c.args.targets.now) (g.T.Targets.faults c.finish.new.targets) c.finish.result c.finish.ensures.ends

pub returns-in-Ok-output_of_reads-clause-read : goal.returns-in-Ok-output_of_reads-clause-read
returns-in-Ok-output_of_reads-clause-read g c e =
    let held = g.F.Files.held c.args.files.now in
    let before = g.F.Files.gave c.args.files.now in
    let now = g.F.Files.gave c.read_all.new.files in
    let words = c.deref.result.now in
    let named = ap (map string_bytes) c.deref.ensures.value ∙ c.in-Ok.ensures ∙ c.as_slice.ensures in
    let from = subst (λ rs. ReadFrom held (map string_bytes words) before now rs) (sym c.deref-2.ensures.value) c.in-Ok-read_all.ensures.ok in
    let wanted = c.args.wanted.now in
    let output = c.in-Ok-output_of_reads.output in
    let defined = output_of_read held before now (map string_bytes words) c.deref-2.result.now wanted output named from c.in-Ok-output_of_reads.ensures in
    absurd (never_read (Defines (reading held before now) (Some wanted)) output
    (effects (g.K.Sink.written c.args.out.now) (g.K.Sink.written c.finish.new.out) (g.T.Targets.replaced c.args.targets.now) (g.T.Targets.replaced c.finish.new.targets))
    defined (output_done wanted.infer wanted.terse wanted.imports wanted.mode defined.files output defined.is)
    (g.K.Sink.faults c.args.out.now) (g.K.Sink.faults c.finish.new.out) (g.T.Targets.faults c.args.targets.now) (g.T.Targets.faults c.finish.new.targets) c.finish.result c.finish.ensures.ends e)

pub returns-in-Ok-output_of_reads-clause-read_steady : goal.returns-in-Ok-output_of_reads-clause-read_steady
returns-in-Ok-output_of_reads-clause-read_steady g c steady all e =
    let held = g.F.Files.held c.args.files.now in
    let before = g.F.Files.gave c.args.files.now in
    let now = g.F.Files.gave c.read_all.new.files in
    let words = c.deref.result.now in
    let named = ap (map string_bytes) c.deref.ensures.value ∙ c.in-Ok.ensures ∙ c.as_slice.ensures in
    let from = subst (λ rs. ReadFrom held (map string_bytes words) before now rs) (sym c.deref-2.ensures.value) c.in-Ok-read_all.ensures.ok in
    let wanted = c.args.wanted.now in
    let output = c.in-Ok-output_of_reads.output in
    let defined = output_of_read held before now (map string_bytes words) c.deref-2.result.now wanted output named from c.in-Ok-output_of_reads.ensures in
    never_read (Defines (reading held before now) (Some wanted)) output
    (effects (g.K.Sink.written c.args.out.now) (g.K.Sink.written c.finish.new.out) (g.T.Targets.replaced c.args.targets.now) (g.T.Targets.replaced c.finish.new.targets))
    defined (output_done wanted.infer wanted.terse wanted.imports wanted.mode defined.files output defined.is)
    (g.K.Sink.faults c.args.out.now) (g.K.Sink.faults c.finish.new.out) (g.T.Targets.faults c.args.targets.now) (g.T.Targets.faults c.finish.new.targets) c.finish.result c.finish.ensures.ends e

pub returns-in-Ok-output_of_reads-clause-write : goal.returns-in-Ok-output_of_reads-clause-write
returns-in-Ok-output_of_reads-clause-write g c e =
    let held = g.F.Files.held c.args.files.now in
    let before = g.F.Files.gave c.args.files.now in
    let now = g.F.Files.gave c.read_all.new.files in
    let words = c.deref.result.now in
    let named = ap (map string_bytes) c.deref.ensures.value ∙ c.in-Ok.ensures ∙ c.as_slice.ensures in
    let from = subst (λ rs. ReadFrom held (map string_bytes words) before now rs) (sym c.deref-2.ensures.value) c.in-Ok-read_all.ensures.ok in
    let wanted = c.args.wanted.now in
    let output = c.in-Ok-output_of_reads.output in
    let defined = output_of_read held before now (map string_bytes words) c.deref-2.result.now wanted output named from c.in-Ok-output_of_reads.ensures in
    fault_rose (Defines (reading held before now) (Some wanted)) output
    (effects (g.K.Sink.written c.args.out.now) (g.K.Sink.written c.finish.new.out) (g.T.Targets.replaced c.args.targets.now) (g.T.Targets.replaced c.finish.new.targets))
    defined (output_done wanted.infer wanted.terse wanted.imports wanted.mode defined.files output defined.is)
    (g.K.Sink.faults c.args.out.now) (g.K.Sink.faults c.finish.new.out) (g.T.Targets.faults c.args.targets.now) (g.T.Targets.faults c.finish.new.targets) c.finish.result c.finish.ensures.ends e
