use Rattle.std.proofs.Common.{◌≡◌, ◌++◌, drop}
use Rattle.jn_base.specs.declared.code.Code.TheVariants.{T6}
use Rattle.jn_points.specs.declared.program.Class.{Class}
use Rattle.jn_declaration_rules.specs.Rows as spec
use Rattle.jn_declaration_rules.proofs.overrides.lacking_rows.Given as goal

abbrev pub invariant-loop-place : goal.invariant-loop-place
invariant-loop-place l = l.rows ++ spec.rows_at T6 (λ (x : Class). x.span) (spec.lacks_body l.program) l.place (drop l.place l.program.classes) ≡ l.fn.rows ++ spec.rows_at T6 (λ (x : Class). x.span) (spec.lacks_body l.program) 0 l.program.classes
