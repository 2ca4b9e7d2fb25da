use Rattle.jn_recheck.specs.Found.{solved_of}
use Rattle.jn_recheck.proofs.Comparing.{equal_told, known_told, same_told}
use Rattle.jn_recheck.proofs.rows.is_kept.Goals as goal

pub is_reusable-requires-clause-same : goal.is_reusable-requires-clause-same
is_reusable-requires-clause-same c = same_told c.args.kept.now c.in-Some.kept (solved_of c.args.new.now) c.in-Some.is c.names.result.now c.program.result.now c.args.compared.now.same c.names.ensures c.program.ensures.is c.requires.tells.same

pub is_reusable-requires-clause-equal : goal.is_reusable-requires-clause-equal
is_reusable-requires-clause-equal c = equal_told c.args.kept.now c.in-Some.kept (solved_of c.args.new.now) c.in-Some.is c.sig.result.now c.args.compared.now.equal c.sig.ensures c.requires.tells.equal

pub is_reusable-requires-clause-known : goal.is_reusable-requires-clause-known
is_reusable-requires-clause-known c = λ e.
    known_told c.args.kept.now c.in-Some.kept (solved_of c.args.new.now) c.in-Some.is c.names.result.now c.program.result.now c.args.compared.now.named c.args.compared.now.known.now c.args.body.0 c.names.ensures c.program.ensures.is
    c.requires.tells.named c.requires.tells.known (c.is_known-known.ensures.named e) (c.is_known-known.ensures.known e)
