use Rattle.nullcheck_cert_check.proofs.Empty.{has_bytes}
use Rattle.nullcheck_cert_check.proofs.law.nothing_is_no_certificate.Goals as goal

pub returns : goal.returns
returns c = has_bytes
