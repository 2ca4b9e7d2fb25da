use Rattle.std.proofs.Common.{◌≡◌, List, sym, subst}
use Rattle.jn_front.specs.declared.source.SourceRead.{SourceRead}
use Rattle.jn_front.specs.Files.{AreReads}
use Rattle.nullcheck_cert_check.specs.Lines.{verdict_text}
use Rattle.nullcheck_cert_check.proofs.Answering.{answers_inputs, of_files}
use Rattle.nullcheck_cert_check.proofs.top.answer_inputs.Goals as goal

pub returns-in-Ok-clause-answer : goal.returns-in-Ok-clause-answer
returns-in-Ok-clause-answer g c cert files is are =
    let verdict = c.in-Ok.verdict in
    let name = c.args.name.now in
    let judged = subst (λ (reads : List SourceRead). AreReads reads files) (sym c.deref.ensures.value) are in
    let shown = subst (λ (reads : List SourceRead). AreReads reads files) (sym c.deref-in-Ok.ensures.value) are in
    let text = of_files (AreReads c.deref-in-Ok.result.now) (λ o fs. o.bytes ≡ verdict_text name fs verdict) c.verdict_output.result files c.verdict_output.ensures.bytes shown in
    answers_inputs c.args.infer name cert files verdict c.verdict_output.result (g.K.Sink.written c.args.out.now) (g.K.Sink.written c.write-status.new.out) (g.K.Sink.faults c.args.out.now) (g.K.Sink.faults c.write-status.new.out) c.write-status.result (c.in-Ok.ensures.found files cert judged is) c.verdict_output.ensures.status text c.write-status.ensures
