use Rattle.std.proofs.Common.{◌≡◌, ◌++◌, drop}
use Rattle.jn_base.specs.declared.code.Code.TheVariants.{T9}
use Rattle.jn_points.specs.declared.program.Class.{Class}
use Rattle.jn_declaration_rules.specs.Rows as spec
use Rattle.jn_declaration_rules.proofs.rows.final_rows.Given as goal

abbrev pub invariant-loop-class : goal.invariant-loop-class
invariant-loop-class l = l.rows ++ spec.rows_at T9 (λ (x : Class). x.span) (λ c x. spec.final_parent l.program x.parent) l.class-index (drop l.class-index l.program.classes) ≡ l.fn.rows ++ spec.rows_at T9 (λ (x : Class). x.span) (λ c x. spec.final_parent l.program x.parent) 0 l.program.classes
