use Rattle.std.proofs.Common.{arith}
use Rattle.jn_scopes.proofs.Arities.{too_many}
use Rattle.jn_scopes.proofs.members.listed_method.Goals as goal

pub returns-then-arity-gt4294967295 : goal.returns-then-arity-gt4294967295
returns-then-arity-gt4294967295 c = too_many c.args.program.now c.args.class.0 c.args.name.0 c.args.arity c.requires.few (omega (c.if-arity-gt4294967295.true, arith))
