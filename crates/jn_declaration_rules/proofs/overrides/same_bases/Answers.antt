use Rattle.jn_declaration_rules.proofs.Named.{other_lengths}
use Rattle.jn_declaration_rules.proofs.overrides.same_bases.Goals as goal

pub returns-then-left-right : goal.returns-then-left-right
returns-then-left-right c = other_lengths c.args.left.now c.args.right.now c.if-left-right.true
