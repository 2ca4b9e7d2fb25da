use Rattle.std.proofs.Common.{subst}
use Rattle.std.specs.Prelude.{codes}
use Rattle.jn_command.specs.Answer.{Finished}
use Rattle.jn_command.specs.declared.status.Status.TheVariants.{Refused}
use Rattle.jn_front.specs.Files.{files_of_reads}
use Rattle.jn_run.proofs.Running.{told, without_main}
use Rattle.jn_run.proofs.run.run_files.Goals as goal

pub returns-in-None-clause-answer : goal.returns-in-None-clause-answer
returns-in-None-clause-answer g c =
    without_main (files_of_reads c.args.reads.now) c.args.accepted.now.0 c.args.names.now c.args.words.now c.args.steps
    (g.K.Sink.written c.args.out.now) (g.K.Sink.written c.finish.new.out) c.finish.result (g.K.Sink.faults c.run_main.new.out) (g.K.Sink.faults c.finish.new.out) (c.run_main.ensures.none c.in-None.is)
    (subst (λ written. Finished written (g.K.Sink.written c.finish.new.out) (codes "no single main\n") Refused (g.K.Sink.faults c.run_main.new.out) (g.K.Sink.faults c.finish.new.out) c.finish.result) (c.run_main.ensures.nothing c.in-None.is) c.finish.ensures)

pub returns-in-Some-clause-answer : goal.returns-in-Some-clause-answer
returns-in-Some-clause-answer g c =
    told (files_of_reads c.args.reads.now) c.args.accepted.now.0 c.args.names.now c.args.words.now c.args.steps (g.K.Sink.written c.args.out.now) (g.K.Sink.written c.run_main.new.out) (g.K.Sink.written c.tell.new.out) (g.K.Sink.faults c.run_main.new.out) (g.K.Sink.faults c.tell.new.out) c.tell.result
    (c.accepted_programs_never_stick.ensures c.args.accepted.now.0 c.args.accepted.now.1 c.program-program.ensures.accepted) c.in-Some.ended c.in-Some.ensures.did c.tell.ensures
