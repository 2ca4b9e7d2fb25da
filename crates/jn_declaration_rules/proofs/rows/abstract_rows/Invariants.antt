use Rattle.std.proofs.Common.{◌≡◌, ◌++◌, drop}
use Rattle.jn_base.specs.declared.code.Code.TheVariants.{T6}
use Rattle.jn_points.specs.declared.program.Method.{Method}
use Rattle.jn_declaration_rules.specs.Rows as spec
use Rattle.jn_declaration_rules.proofs.rows.abstract_rows.Given as goal

abbrev pub invariant-loop-method : goal.invariant-loop-method
invariant-loop-method l = l.rows ++ spec.rows_at T6 (λ (x : Method). x.span) (λ m x. spec.is_bad_abstract x) l.method-index (drop l.method-index l.program.methods) ≡ l.fn.rows ++ spec.rows_at T6 (λ (x : Method). x.span) (λ m x. spec.is_bad_abstract x) 0 l.program.methods
