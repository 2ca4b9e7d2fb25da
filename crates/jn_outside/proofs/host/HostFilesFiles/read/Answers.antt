use Rattle.std.proofs.Common.{sym}
use Rattle.jn_outside.proofs.Giving.{none_more}
use Rattle.jn_outside.proofs.host.HostFilesFiles.read.Goals as goal

pub returns-in-None-clause-gave : goal.returns-in-None-clause-gave
returns-in-None-clause-gave g c = sym (none_more c.args.self.now.gave.items)
