use Rattle.jn_cert.proofs.OneFault.{one_fault}
use Rattle.jn_cert.proofs.law.refused_certificates_have_one_fault.Goals as goal

pub returns : goal.returns
returns c = one_fault c.rows_have_one_order.ensures
