use Rattle.jn_index.proofs.Same.{same_index}
use Rattle.jn_index.proofs.law.index_of_other_bodies.Goals as goal

pub returns : goal.returns
returns c = same_index c.args.program.now c.args.other.now c.requires.classes c.requires.fields c.requires.methods c.args.index.now c.requires.is
