-- What it means that code has emitted a statement.
use Rattle.std.specs.Prelude.{ℕ, ◌≡◌, ◌+◌, ◌++◌, List, [], ◌∷◌, length, slice_get, Option, Some, None}
use Rattle.jn_base.specs.declared.number.PointNo.{PointNo}
use Rattle.jn_points.specs.declared.point.Operand.{Operand}
use Rattle.jn_places.specs.Placed.{PlacedTree, PlacedTrees, PlacedStatement, PlacedStatements}
use Rattle.jn_quals.specs.Qualifier.{Qualifier}
use Rattle.jn_base.specs.declared.place.Span.{Span}
use Rattle.jn_points.specs.declared.point.PointKind.TheVariants.{Move}
use Rattle.jn_lowering.specs.Fragments.{does, then}
use Rattle.jn_lowering.specs.Forms.{Value, Condition, register}
use Rattle.jn_lowering.specs.Calls.{Operands}
use Rattle.jn_lowering.specs.Expressions.{lower, operands}
use Rattle.jn_lowering.specs.Locals.{State, with_temporaries}
use Rattle.jn_lowering.specs.Statements as spec
use Rattle.jn_lowering.specs.Statements.{Step, step}
use Rattle.jn_lower_expr.specs.declared.emitter.Emitter.{Emitter}
use Rattle.jn_lower_expr.specs.Lowering.{Adds, Runs}
use Rattle.jn_lower_stmt.specs.declared.state.BodyContext.{BodyContext}

-- the value, the condition and the statement of a tree in a body
abbrev pub valued : BodyContext → State → PlacedTree → Value
valued c st e = spec.lowered_in c.program.now c.class.0 c.first st e

-- the value where no local is in scope
abbrev pub valued_outside : BodyContext → State → PlacedTree → Value
valued_outside c st e = (lower c.program.now c.class.0 c.first [] st.temporaries e).value

abbrev pub all_valued : BodyContext → State → PlacedTrees → Operands
all_valued c st es = operands c.program.now c.class.0 c.first st.scope st.temporaries es

abbrev pub tested : BodyContext → State → PlacedTree → Condition
tested c st e = spec.tested_in c.program.now c.class.0 c.first st e

abbrev pub stated : BodyContext → State → PlacedStatement → Step
stated c st x = spec.statement c.program.now c.class.0 c.first st x

abbrev pub all_stated : BodyContext → State → PlacedStatements → Step
all_stated c st xs = spec.statements c.program.now c.class.0 c.first st xs

-- a value, which is then moved to a register
abbrev pub moved_to : Span → ℕ → Option Qualifier → State → Value → Step
moved_to span r bound st v = step (with_temporaries st v.behind) (then v.fragment (does span (Move (register r) v.operand bound)))

-- the value's points are added, and the state after has its temporaries
pub record GivesIn (v : Value) (st : State) (e : Emitter) (o : Operand) (g : Emitter) (u : State) : Type 0 where
  pub runs : Runs v.fragment e g
  pub operand : o ≡ v.operand
  pub behind : u ≡ with_temporaries st v.behind

pub record GivesAllIn (vs : Operands) (st : State) (e : Emitter) (os : List Operand) (g : Emitter) (u : State) : Type 0 where
  pub runs : Runs vs.fragment e g
  pub operands : os ≡ vs.values
  pub behind : u ≡ with_temporaries st vs.behind

-- the condition's points are added, which go to the labels
pub record TestsIn (q : Condition) (st : State) (yes no : ℕ) (e : Emitter) (g : Emitter) (u : State) : Type 0 where
  pub adds : Adds q.fragment yes no e g
  pub behind : u ≡ with_temporaries st q.behind

-- the step's points are added, which go to the labels at a `break` and at a `continue`
pub record Steps (x : Step) (leaves continues : ℕ) (e : Emitter) (g : Emitter) (u : State) : Type 0 where
  pub adds : Adds x.fragment leaves continues e g
  pub behind : u ≡ x.behind

-- the same of a step that leads nowhere but to what follows
pub record StepsOn (x : Step) (e : Emitter) (g : Emitter) (u : State) : Type 0 where
  pub runs : Runs x.fragment e g
  pub behind : u ≡ x.behind

-- a label that is new and has no place; those that were there stay as they are
pub record Made (l : ℕ) (e g : Emitter) : Type 0 where
  pub is : l ≡ length e.labels.items
  pub labels : g.labels.items ≡ e.labels.items ++ None ∷ []
  pub points : g.points.items ≡ e.points.items
  pub more : length g.labels.items ≡ length e.labels.items + 1
  pub free : slice_get g.labels.items l ≡ Some None
  pub kept : (k : ℕ) (v : Option PointNo) → slice_get e.labels.items k ≡ Some v → slice_get g.labels.items k ≡ Some v
