use Rattle.jn_cert_exists_law.proofs.Written.{keeps_written}
use Rattle.jn_cert_exists_law.proofs.law.least_signatures_keep_what_is_written.Goals as goal

pub returns : goal.returns
returns c = λ P s r is. keeps_written P r s is
