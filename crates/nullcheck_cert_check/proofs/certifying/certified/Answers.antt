use Rattle.jn_front.specs.Files.{files_of_reads}
use Rattle.nullcheck_cert_check.proofs.Certified.{cert_holds, certified_verdict}
use Rattle.nullcheck_cert_check.proofs.certifying.certified.Goals as goal

pub returns-clause-found : goal.returns-clause-found
returns-clause-found c =
    let infer = c.args.infer in
    let files = files_of_reads c.args.reads.now in
    let names = c.args.names.now in
    let P = c.args.accepted.0 in
    let s = c.args.accepted.1 in
    let cert = c.args.cert.now in
    let holds = c.requires.certified in
    let safe = c.files_accepted_under_some_signature_are_safe.ensures.safe infer files names P s c.requires.program c.program-program.ensures.accepted holds.holds.written in
    let same = (c.files_have_one_typing.ensures.program infer files safe.names names safe.P P safe.of_files.of_files c.requires.program.of_files).1 in
    certified_verdict infer files names P c.requires.program cert c.nothing_is_no_certificate.ensures (cert_holds P cert.bytes s holds) safe same
