use Rattle.jn_front.specs.Files.{files_of_reads}
use Rattle.nullcheck_cert_write.proofs.Finding.{solved}
use Rattle.nullcheck_cert_write.proofs.making.make_based.Goals as goal

pub returns : goal.returns
returns g c = solved c.args.infer (files_of_reads c.args.reads.now) c.args.names.now c.args.base c.requires.program c.make_typed-made.result c.make_typed-made.ensures
