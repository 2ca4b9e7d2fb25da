use Rattle.nullcheck_cert_check.proofs.Accepted.{certified_accepted}
use Rattle.nullcheck_cert_check.proofs.law.certified_files_are_accepted.Goals as goal

pub returns : goal.returns
returns c = certified_accepted c.what_holds_is_accepted.ensures.closed c.what_holds_is_accepted.ensures.starts c.what_holds_is_accepted.ensures.unbroken c.files_accepted_under_some_signature_are_safe.ensures.none
