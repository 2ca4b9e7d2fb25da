use Rattle.nullcheck_cert_check.proofs.OneVerdict.{not_held, same_verdict}
use Rattle.nullcheck_cert_check.proofs.law.files_and_certificates_have_one_verdict.Goals as goal

pub returns : goal.returns
returns c = record {
  one = λ infer files cert one other. same_verdict infer files c.files_have_one_typing.ensures.program cert c.files_have_one_typing.ensures.rows c.files_have_one_typing.ensures.apart c.refused_certificates_have_one_fault.ensures one other;
  none = λ infer files cert P Q fault. not_held infer files c.files_have_one_typing.ensures.program cert P Q fault;
}
