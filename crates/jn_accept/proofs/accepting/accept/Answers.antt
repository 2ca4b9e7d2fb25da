use Rattle.std.proofs.Common.{arith}
use Rattle.jn_accept.proofs.Rows.{none_broken}
use Rattle.jn_accept.proofs.accepting.accept.Goals as goal

pub of-requires-clause-broken : goal.of-requires-clause-broken
of-requires-clause-broken c = none_broken c.args.base c.args.sig c.args.rows.now (let l = c.in-empty.len_below in omega (arith, l)) c.requires.broken
