use Rattle.std.proofs.Common.{◌≡◌, drop}
use Rattle.jn_points.specs.Members.{some_of}
use Rattle.jn_declaration_rules.specs.Ranks as ranks_of
use Rattle.jn_declaration_rules.proofs.circles.some_marked.Given as goal

abbrev pub invariant-loop-parent : goal.invariant-loop-parent
invariant-loop-parent l = some_of (λ s. ranks_of.mark_at l.marks s.0) (drop l.parent-index l.supers) ≡ some_of (λ s. ranks_of.mark_at l.marks s.0) l.supers
