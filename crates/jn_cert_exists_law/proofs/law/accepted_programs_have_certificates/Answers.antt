use Rattle.jn_cert_exists_law.proofs.Parts.{certified, solved_certified}
use Rattle.jn_cert_exists_law.proofs.law.accepted_programs_have_certificates.Goals as goal

pub returns : goal.returns
returns c = record { closed = certified; least = solved_certified }
