use Rattle.std.proofs.Common.{map, refl, sym, subst, inl}
use Rattle.std.specs.Prelude.{string_bytes}
use Rattle.jn_front.specs.Files.{ReadFrom}
use Rattle.jn_command.specs.Answer.{reading}
use Rattle.jn_phases.proofs.Fitting.{few_reads, many_names}
use Rattle.nullcheck_cert_write.specs.Answer.{outcome}
use Rattle.jn_command.proofs.Ending.{no_fault}
use Rattle.nullcheck_cert_check.proofs.Answering.{many_unread, many_written}
use Rattle.nullcheck_cert_write.proofs.Telling.{many_answers}
use Rattle.nullcheck_cert_write.proofs.top.answer_command.Goals as goal

pub returns-then-names-gt-MOST_FILES-clause-answer : goal.returns-then-names-gt-MOST_FILES-clause-answer
returns-then-names-gt-MOST_FILES-clause-answer g c =
    let K = g.K.Sink in
    let stored = g.T.Targets.replaced c.args.target.now in
    let gave = g.F.Files.gave c.args.files.now in
    many_answers (reading (g.F.Files.held c.args.files.now) gave gave) c.args.infer c.args.cert.now (map string_bytes c.args.names.now) (outcome (K.written c.args.out.now) (K.written c.write.new.out) stored stored) (K.faults c.args.out.now) (K.faults c.write.new.out) c.write.result c.number_output.result (many_names c.args.names.now c.if-names-gt-MOST_FILES.true) c.number_output.ensures refl c.write.ensures

pub returns-then-names-gt-MOST_FILES-clause-read : goal.returns-then-names-gt-MOST_FILES-clause-read
returns-then-names-gt-MOST_FILES-clause-read g c e =
    absurd (many_unread c.args.infer c.args.cert.now (map string_bytes c.args.names.now) c.number_output.result (g.K.Sink.written c.args.out.now) (g.K.Sink.written c.write.new.out) (g.K.Sink.faults c.args.out.now) (g.K.Sink.faults c.write.new.out) c.write.result c.number_output.ensures c.write.ensures e)

pub returns-then-names-gt-MOST_FILES-clause-read_steady : goal.returns-then-names-gt-MOST_FILES-clause-read_steady
returns-then-names-gt-MOST_FILES-clause-read_steady g c steady all e =
    many_unread c.args.infer c.args.cert.now (map string_bytes c.args.names.now) c.number_output.result (g.K.Sink.written c.args.out.now) (g.K.Sink.written c.write.new.out) (g.K.Sink.faults c.args.out.now) (g.K.Sink.faults c.write.new.out) c.write.result c.number_output.ensures c.write.ensures e

pub returns-then-names-gt-MOST_FILES-clause-write : goal.returns-then-names-gt-MOST_FILES-clause-write
returns-then-names-gt-MOST_FILES-clause-write g c e =
    inl (no_fault (g.K.Sink.written c.args.out.now) (g.K.Sink.written c.write.new.out) (g.K.Sink.faults c.args.out.now) (g.K.Sink.faults c.write.new.out) c.write.result c.number_output.result (many_written c.args.infer (map string_bytes c.args.names.now) c.number_output.result c.number_output.ensures) c.write.ensures e)

pub answer_reads-requires-clause-few : goal.answer_reads-requires-clause-few
answer_reads-requires-clause-few g c κs lives =
    let from = subst (λ rs. ReadFrom (g.F.Files.held c.args.files.now) (map string_bytes c.args.names.now) (g.F.Files.gave c.args.files.now) (g.F.Files.gave c.read_all.new.files) rs) (sym c.deref.ensures.value) c.in-Ok.ensures.ok in
    few_reads c.args.names.now c.deref.result.now from.files c.if-names-gt-MOST_FILES.false from.named from.are
