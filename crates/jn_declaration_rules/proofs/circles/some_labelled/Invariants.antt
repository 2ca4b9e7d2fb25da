use Rattle.std.proofs.Common.{◌≡◌, drop}
use Rattle.jn_declaration_rules.specs.Ranks as ranks_of
use Rattle.jn_declaration_rules.proofs.circles.some_labelled.Given as goal

abbrev pub invariant-loop-parent : goal.invariant-loop-parent
invariant-loop-parent l = ranks_of.some_labelled l.labels l.label (drop l.parent-index l.supers) ≡ ranks_of.some_labelled l.labels l.label l.supers
