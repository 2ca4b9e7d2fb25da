use Rattle.std.proofs.Common.{map}
use Rattle.std.specs.Prelude.{string_bytes}
use Rattle.jn_command.specs.Answer.{reading}
use Rattle.jn_cli.specs.Cert.{command}
use Rattle.jn_command.proofs.Ending.{no_fault}
use Rattle.nullcheck_cert_check.proofs.Answering.{are_inputs, many_answers, many_unread, many_written, of_inputs}
use Rattle.jn_phases.proofs.Fitting.{few_reads, many_names}
use Rattle.nullcheck_cert_check.proofs.top.answer_command.Goals as goal

pub returns-then-names-gt-MOST_FILES-clause-answer : goal.returns-then-names-gt-MOST_FILES-clause-answer
returns-then-names-gt-MOST_FILES-clause-answer g c =
    many_answers (reading (g.F.Files.held c.args.files.now) (g.F.Files.gave c.args.files.now) (g.F.Files.gave c.args.files.now)) c.args.infer c.args.cert.now (map string_bytes c.args.names.now) c.number_output.result (g.K.Sink.written c.args.out.now) (g.K.Sink.written c.write.new.out) (g.K.Sink.faults c.args.out.now) (g.K.Sink.faults c.write.new.out) c.write.result (many_names c.args.names.now c.if-names-gt-MOST_FILES.true) c.number_output.ensures c.write.ensures

pub returns-then-names-gt-MOST_FILES-clause-read : goal.returns-then-names-gt-MOST_FILES-clause-read
returns-then-names-gt-MOST_FILES-clause-read g c e =
    absurd (many_unread c.args.infer c.args.cert.now (map string_bytes c.args.names.now) c.number_output.result (g.K.Sink.written c.args.out.now) (g.K.Sink.written c.write.new.out) (g.K.Sink.faults c.args.out.now) (g.K.Sink.faults c.write.new.out) c.write.result c.number_output.ensures c.write.ensures e)

pub returns-then-names-gt-MOST_FILES-clause-read_steady : goal.returns-then-names-gt-MOST_FILES-clause-read_steady
returns-then-names-gt-MOST_FILES-clause-read_steady g c steady all e =
    many_unread c.args.infer c.args.cert.now (map string_bytes c.args.names.now) c.number_output.result (g.K.Sink.written c.args.out.now) (g.K.Sink.written c.write.new.out) (g.K.Sink.faults c.args.out.now) (g.K.Sink.faults c.write.new.out) c.write.result c.number_output.ensures c.write.ensures e

pub returns-then-names-gt-MOST_FILES-clause-write : goal.returns-then-names-gt-MOST_FILES-clause-write
returns-then-names-gt-MOST_FILES-clause-write g c e =
    no_fault (g.K.Sink.written c.args.out.now) (g.K.Sink.written c.write.new.out) (g.K.Sink.faults c.args.out.now) (g.K.Sink.faults c.write.new.out) c.write.result c.number_output.result (many_written c.args.infer (map string_bytes c.args.names.now) c.number_output.result c.number_output.ensures) c.write.ensures e

pub answer_inputs-requires-clause-few : goal.answer_inputs-requires-clause-few
answer_inputs-requires-clause-few g c κs lives =
    let from = c.in-Ok.ensures.ok in
    few_reads c.args.names.now c.in-Ok.inputs.reads.items from.files c.if-names-gt-MOST_FILES.false from.named from.are

pub returns-clause-answer : goal.returns-clause-answer
returns-clause-answer g c =
    let held = g.F.Files.held c.args.files.now in
    let before = g.F.Files.gave c.args.files.now in
    let now = g.F.Files.gave c.read_inputs.new.files in
    let names = map string_bytes c.args.names.now in
    let from = c.in-Ok.ensures.ok in
    of_inputs (reading held before now) (command c.args.infer c.args.cert.now names) from.cert from.files (g.K.Sink.written c.args.out.now) (g.K.Sink.written c.answer_inputs.new.out) c.answer_inputs.result
    (are_inputs c.args.infer held c.args.cert.now names before now c.in-Ok.inputs.cert c.in-Ok.inputs.reads.items from) (c.answer_inputs.ensures.answer from.cert from.files from.is from.are)
