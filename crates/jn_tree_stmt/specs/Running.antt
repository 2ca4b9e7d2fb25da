-- What statements do where they stand, others in them among them.
use Rattle.std.specs.Prelude.{ℕ, Bool, true, false, ◌≡◌, ◌++◌, List}
use Rattle.jn_heap.specs.Values.{usual_limits}
use Rattle.jn_lowering.specs.Scopes.{Scope}
use Rattle.jn_lowering.specs.Annotations.{base_rows}
use Rattle.jn_lowering.specs.Locals.{has_final}
use Rattle.jn_meaning.specs.Expressions.{Caller}
use Rattle.jn_meaning.specs.Statements as spec
use Rattle.jn_meaning.specs.Statements.{Standing, bound_written, declares, further, type_written}
use Rattle.jn_meaning.specs.Worlds.{Result, World}
use Rattle.jn_places.specs.Placed.{PlacedParameter, PlacedStatement, PlacedStatements, PlacedIfElse}
use Rattle.jn_points.specs.declared.program.Program.{Program}
use Rattle.jn_tree_simple.specs.declared.standing.Site.{Site}

-- the second scope has the names of the first one, and those that were declared since
abbrev pub Grown : Scope → Scope → Type 0
Grown a b = (more : Scope) × (b ≡ more ++ a)

-- `if` with `else`
abbrev pub has_else : PlacedStatement → Bool
has_else (PlacedIfElse q body other span) = true
has_else x = false

module _ (b : Site) (names : List (List ℕ)) (m : Caller) (turns : ℕ) where
  abbrev pub runs_at : Standing → PlacedStatement → World → Result spec.Flow
  runs_at st x w = spec.executed b.program.now names usual_limits.longest m turns b.class.0 st x w

  abbrev pub all_run_at : Standing → PlacedStatements → World → Result spec.Flow
  all_run_at st xs w = spec.all_executed b.program.now names usual_limits.longest m turns b.class.0 st xs w

-- after the variable of a `for` over an array, whose two hidden locals come before it (JLS 8, 14.14.2)
abbrev pub behind_variable : Program → Standing → PlacedParameter → Standing
behind_variable P st p = declares (further st 2) p.name.name.0 (type_written P p.marks p.type_use) (bound_written p.marks p.type_use) (has_final p.marks) (base_rows P p.type_use.base)
