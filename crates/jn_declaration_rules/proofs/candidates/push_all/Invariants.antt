use Rattle.std.proofs.Common.{◌≡◌, ◌++◌, drop}
use Rattle.jn_declaration_rules.proofs.candidates.push_all.Given as goal

abbrev pub invariant-loop-class : goal.invariant-loop-class
invariant-loop-class l = l.classes ++ drop l.class-index l.more ≡ l.fn.classes ++ l.more
