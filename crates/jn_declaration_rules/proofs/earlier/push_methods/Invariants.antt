use Rattle.std.proofs.Common.{◌≡◌, ◌++◌, drop}
use Rattle.jn_base.specs.declared.code.Code.TheVariants.{T4}
use Rattle.jn_points.specs.declared.program.Method.{Method}
use Rattle.jn_declaration_rules.specs.Rows as spec
use Rattle.jn_declaration_rules.proofs.earlier.push_methods.Given as goal

abbrev pub invariant-loop-place : goal.invariant-loop-place
invariant-loop-place l = l.rows ++ spec.rows_at T4 (λ (x : Method). x.span) (spec.earlier spec.same_method l.methods) l.place (drop l.place l.methods) ≡ l.fn.rows ++ spec.rows_at T4 (λ (x : Method). x.span) (spec.earlier spec.same_method l.methods) 0 l.methods
