use Rattle.std.proofs.Common.{◌≡◌, ◌++◌, drop}
use Rattle.jn_base.specs.declared.code.Code.TheVariants.{T3}
use Rattle.jn_points.specs.declared.program.Class.{Class}
use Rattle.jn_declaration_rules.specs.Rows as spec
use Rattle.jn_declaration_rules.proofs.circles.push_circles.Given as goal

abbrev pub invariant-loop-place : goal.invariant-loop-place
invariant-loop-place l = l.rows ++ spec.rows_at T3 (λ (x : Class). x.span) (spec.is_circle l.program) l.place (drop l.place l.program.classes) ≡ l.fn.rows ++ spec.rows_at T3 (λ (x : Class). x.span) (spec.is_circle l.program) 0 l.program.classes
