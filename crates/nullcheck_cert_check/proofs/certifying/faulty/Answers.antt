use Rattle.jn_front.specs.Files.{files_of_reads}
use Rattle.nullcheck_cert_check.proofs.Certified.{faulty_verdict, large_verdict, program_of_trees}
use Rattle.nullcheck_cert_check.proofs.certifying.faulty.Goals as goal

pub returns-then-cert-clause-found : goal.returns-then-cert-clause-found
returns-then-cert-clause-found c =
    let infer = c.args.infer in
    let files = files_of_reads c.args.reads.now in
    let names = c.args.names.now in
    let P = c.args.base in
    let cert = c.args.cert.now in
    let of_files = c.requires.program.of_files in
    let counted = c.programs_of_trees_are_counted.ensures infer of_files.trees P (program_of_trees infer files names P of_files) in
    faulty_verdict infer files names P c.requires.program cert c.args.fault c.requires.why (c.refused_certificates_do_not_hold.ensures P cert.bytes c.args.fault counted c.requires.why) c.if-cert.true

pub returns-else-cert-clause-found : goal.returns-else-cert-clause-found
returns-else-cert-clause-found c = large_verdict c.args.infer (files_of_reads c.args.reads.now) c.args.names.now c.args.base c.requires.program c.args.cert.now c.if-cert.false
