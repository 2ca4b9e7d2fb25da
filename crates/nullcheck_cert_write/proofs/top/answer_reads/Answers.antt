use Rattle.nullcheck_cert_write.proofs.top.answer_reads.Goals as goal

pub returns-in-Ok-clause-answer : goal.returns-in-Ok-clause-answer
returns-in-Ok-clause-answer g c files are = c.tell.ensures.answer c.args.infer files are (c.in-Ok.ensures.found files are)
