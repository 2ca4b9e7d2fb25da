use Rattle.std.proofs.Common.{map, refl, sym, subst}
use Rattle.std.specs.Prelude.{string_bytes}
use Rattle.jn_front.specs.Files.{ReadFrom}
use Rattle.jn_asked.specs.Asked.{asked_with}
use Rattle.jn_command.specs.Answer.{reading}
use Rattle.nullcheck_top.proofs.Answering.{checked_many, checked_read, many_answers, many_written}
use Rattle.jn_command.proofs.Ending.{no_fault}
use Rattle.nullcheck_top.proofs.Written.{files_named, never_read, of_files, starts_none}
use Rattle.jn_phases.proofs.Fitting.{few_reads, many_names}
use Rattle.jn_report.specs.Report.{IsReport}
use Rattle.jn_safe_files.specs.Safe.{IsSafe}
use Rattle.nullcheck_top.specs.Report.{AreNotes, RunsTo, Prints}
use Rattle.nullcheck_top.proofs.answers.answer_named.Goals as goal

pub returns-then-names-gt-MOST_FILES-clause-answer : goal.returns-then-names-gt-MOST_FILES-clause-answer
returns-then-names-gt-MOST_FILES-clause-answer g c =
    let read = reading (g.F.Files.held c.args.files.now) (g.F.Files.gave c.args.files.now) (g.F.Files.gave c.args.files.now) in
    let names = map string_bytes c.args.names.now in
    let a = asked_with c.args.command.now (g.P.Reporter.form c.args.reporter) in
    let old = g.K.Sink.written c.args.out.now in
    let new = g.K.Sink.written c.write.new.out in
    of_files IsReport AreNotes IsSafe RunsTo Prints read a (files_named names) old new c.write.result (checked_many read a names c.requires.classes c.requires.named (many_names c.args.names.now c.if-names-gt-MOST_FILES.true))
    (many_answers a names old new (g.K.Sink.faults c.args.out.now) (g.K.Sink.faults c.write.new.out) c.write.result c.number_output.result c.requires.classes c.number_output.ensures c.write.ensures)

pub returns-then-names-gt-MOST_FILES-clause-starts : goal.returns-then-names-gt-MOST_FILES-clause-starts
returns-then-names-gt-MOST_FILES-clause-starts g c = starts_none (map string_bytes c.args.names.now) (g.F.Files.gave c.args.files.now) (g.F.Files.gave c.args.files.now) refl

pub returns-then-names-gt-MOST_FILES-clause-read : goal.returns-then-names-gt-MOST_FILES-clause-read
returns-then-names-gt-MOST_FILES-clause-read g c e =
    let names = map string_bytes c.args.names.now in
    let a = asked_with c.args.command.now (g.P.Reporter.form c.args.reporter) in
    let old = g.K.Sink.written c.args.out.now in
    let new = g.K.Sink.written c.write.new.out in
    absurd (never_read IsReport AreNotes IsSafe RunsTo Prints a (files_named names) old new c.write.result (many_answers a names old new (g.K.Sink.faults c.args.out.now) (g.K.Sink.faults c.write.new.out) c.write.result c.number_output.result c.requires.classes c.number_output.ensures c.write.ensures) e)

pub returns-then-names-gt-MOST_FILES-clause-read_steady : goal.returns-then-names-gt-MOST_FILES-clause-read_steady
returns-then-names-gt-MOST_FILES-clause-read_steady g c steady all e =
    let names = map string_bytes c.args.names.now in
    let a = asked_with c.args.command.now (g.P.Reporter.form c.args.reporter) in
    let old = g.K.Sink.written c.args.out.now in
    let new = g.K.Sink.written c.write.new.out in
    never_read IsReport AreNotes IsSafe RunsTo Prints a (files_named names) old new c.write.result (many_answers a names old new (g.K.Sink.faults c.args.out.now) (g.K.Sink.faults c.write.new.out) c.write.result c.number_output.result c.requires.classes c.number_output.ensures c.write.ensures) e

pub returns-then-names-gt-MOST_FILES-clause-write : goal.returns-then-names-gt-MOST_FILES-clause-write
returns-then-names-gt-MOST_FILES-clause-write g c e =
    let names = map string_bytes c.args.names.now in
    let a = asked_with c.args.command.now (g.P.Reporter.form c.args.reporter) in
    no_fault (g.K.Sink.written c.args.out.now) (g.K.Sink.written c.write.new.out) (g.K.Sink.faults c.args.out.now) (g.K.Sink.faults c.write.new.out) c.write.result c.number_output.result (many_written a names c.number_output.result c.number_output.ensures) c.write.ensures e

pub answer_reads-requires-clause-few : goal.answer_reads-requires-clause-few
answer_reads-requires-clause-few g c κs lives =
    let held = g.F.Files.held c.args.files.now in
    let before = g.F.Files.gave c.args.files.now in
    let now = g.F.Files.gave c.read_all.new.files in
    let from = subst (λ rs. ReadFrom held (map string_bytes c.args.names.now) before now rs) (sym c.deref.ensures.value) c.in-Ok.ensures.ok in
    few_reads c.args.names.now c.deref.result.now from.files c.if-names-gt-MOST_FILES.false from.named from.are

pub returns-clause-answer : goal.returns-clause-answer
returns-clause-answer g c =
    let held = g.F.Files.held c.args.files.now in
    let before = g.F.Files.gave c.args.files.now in
    let now = g.F.Files.gave c.read_all.new.files in
    let names = map string_bytes c.args.names.now in
    let a = asked_with c.args.command.now (g.P.Reporter.form c.args.reporter) in
    let from = subst (λ rs. ReadFrom held names before now rs) (sym c.deref.ensures.value) c.in-Ok.ensures.ok in
    of_files IsReport AreNotes IsSafe RunsTo Prints (reading held before now) a from.files (g.K.Sink.written c.args.out.now) (g.K.Sink.written c.answer_reads.new.out) c.answer_reads.result
    (checked_read held before now a names c.deref.result.now c.requires.classes c.requires.named from) (c.answer_reads.ensures.answer from.files from.are)
