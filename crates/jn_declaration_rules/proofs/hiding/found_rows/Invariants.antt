use Rattle.std.proofs.Common.{◌≡◌, ◌++◌, drop}
use Rattle.jn_base.specs.declared.code.Code.TheVariants.{T7}
use Rattle.jn_points.specs.declared.program.Field.{Field}
use Rattle.jn_declaration_rules.specs.Rows as spec
use Rattle.jn_declaration_rules.proofs.hiding.found_rows.Given as goal

abbrev pub invariant-loop-field : goal.invariant-loop-field
invariant-loop-field l = l.rows ++ spec.rows_at T7 (λ (x : Field). x.span) (λ f x. spec.is_hiding l.program x) l.field-index (drop l.field-index l.program.fields) ≡ l.fn.rows ++ spec.rows_at T7 (λ (x : Field). x.span) (λ f x. spec.is_hiding l.program x) 0 l.program.fields
