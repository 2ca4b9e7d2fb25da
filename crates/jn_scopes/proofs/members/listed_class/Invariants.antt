use Rattle.std.proofs.Common.{◌≡◌, eqb, drop}
use Rattle.jn_points.specs.Members.{first_at}
use Rattle.jn_lowering.specs.Scopes as scopes
use Rattle.jn_scopes.proofs.members.listed_class.Given as goal

abbrev pub invariant-loop-number : goal.invariant-loop-number
invariant-loop-number l = first_at (λ k. eqb k.name.0 l.name.0) l.number (drop l.number l.classes) ≡ scopes.class_named l.program l.name.0
