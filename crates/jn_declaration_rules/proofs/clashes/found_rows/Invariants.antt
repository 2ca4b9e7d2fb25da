use Rattle.std.proofs.Common.{◌≡◌, ◌++◌, drop}
use Rattle.jn_base.specs.declared.code.Code.TheVariants.{T5}
use Rattle.jn_points.specs.declared.program.Method.{Method}
use Rattle.jn_declaration_rules.specs.Rows as spec
use Rattle.jn_declaration_rules.proofs.clashes.found_rows.Given as goal

abbrev pub invariant-loop-m : goal.invariant-loop-m
invariant-loop-m l = l.rows ++ spec.rows_at T5 (λ (x : Method). x.span) (spec.is_bad_override l.program) l.m (drop l.m l.program.methods) ≡ l.fn.rows ++ spec.rows_at T5 (λ (x : Method). x.span) (spec.is_bad_override l.program) 0 l.program.methods
