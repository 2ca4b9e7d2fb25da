use Rattle.std.proofs.Common.{◌≡◌, ◌++◌, drop}
use Rattle.jn_base.specs.declared.code.Code.TheVariants.{T1}
use Rattle.jn_points.specs.declared.program.Field.{Field}
use Rattle.jn_declaration_rules.specs.Rows as spec
use Rattle.jn_declaration_rules.proofs.earlier.push_fields.Given as goal

abbrev pub invariant-loop-place : goal.invariant-loop-place
invariant-loop-place l = l.rows ++ spec.rows_at T1 (λ (x : Field). x.span) (spec.earlier spec.same_field l.fields) l.place (drop l.place l.fields) ≡ l.fn.rows ++ spec.rows_at T1 (λ (x : Field). x.span) (spec.earlier spec.same_field l.fields) 0 l.fields
