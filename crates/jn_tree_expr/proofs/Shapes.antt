-- Which forms are values that are tested, and which are conditions that are made a value; what a binary form is.
use Rattle.std.proofs.Common.{◌≡◌, ℕ, Bool, true, false, List, refl}
use Rattle.std.specs.Prelude.{not, ◌&&◌, ◌||◌, Option, Some}
use Rattle.jn_base.specs.declared.place.Span.{Span}
use Rattle.jn_trees.specs.declared.expression.AssignOperator.{AssignOperator}
use Rattle.jn_trees.specs.declared.expression.AssignOperator.TheVariants.{Assign}
use Rattle.jn_trees.specs.declared.expression.Literal.TheVariants.{True, False}
use Rattle.jn_trees.specs.declared.expression.UnaryOperator.{UnaryOperator}
use Rattle.jn_trees.specs.declared.expression.UnaryOperator.TheVariants.{Plus, Minus, Not}
use Rattle.jn_trees.specs.declared.expression.BinaryOperator.{BinaryOperator}
use Rattle.jn_trees.specs.declared.expression.BinaryOperator.TheVariants.{Equal, NotEqual, And, Or}
use Rattle.jn_points.specs.declared.point.BaseType.{BaseType}
use Rattle.jn_points.specs.declared.program.Program.{Program}
use Rattle.jn_places.specs.Placed.{PlacedTree, PlacedLiteral, PlacedParen, PlacedUnary, PlacedBinary, PlacedInstanceOf}
use Rattle.jn_lowering.specs.Bases.{compound_of, is_equality, is_simple, operator_of}
use Rattle.jn_heap.specs.State.{prim_of}
use Rattle.jn_heap.specs.Steps.{unary_of}
use Rattle.jn_heap.specs.Values.{Value, Plain, Truth, usual_limits}
use Rattle.jn_lower_expr.specs.Lowering.{is_connective, is_logical, is_minus, is_not, is_tested}
use Rattle.jn_scopes.specs.declared.context.Context.{Context}
use Rattle.jn_meaning.specs.Operations.{Place}
use Rattle.jn_meaning.specs.Worlds.{World, Result, Has, got, then_do, truth_in}
use Rattle.jn_meaning.specs.Expressions.{Caller, Meant, assignment, binary, calculated, compound, is_on_null, null_holds, unary}
use Rattle.jn_tree_expr.specs.Meaning.{meant_in}

wrong : false ≡ true → ⊥
wrong h = cc

-- a condition's truth as a value
abbrev pub truth_made : Result Bool → Result (Option Value)
truth_made r = then_do r (λ b w. Has (Some (Plain (Truth b))) w)

unary_tested : (P : Program) (names : List (List ℕ)) (longest : ℕ) (span : Span) (o : UnaryOperator) (e : Meant) (w : World) → not (is_not o) ≡ true → (unary P names longest span o e).condition w ≡ then_do ((unary P names longest span o e).value w) truth_in
unary_tested P names longest span Not e w h = absurd (wrong h)
unary_tested P names longest span o e w h = refl

binary_tested : (P : Program) (names : List (List ℕ)) (longest : ℕ) (span : Span) (o : BinaryOperator) (m n : Bool) (a b : BaseType) (l r : Meant) (w : World) → not (is_logical o || (is_equality o && (m || n))) ≡ true → (binary P names longest span o m n a b l r).condition w ≡ then_do ((binary P names longest span o m n a b l r).value w) truth_in
binary_tested P names longest span And m n a b l r w h = absurd (wrong h)
binary_tested P names longest span Or m n a b l r w h = absurd (wrong h)
binary_tested P names longest span Equal true n a b l r w h = absurd (wrong h)
binary_tested P names longest span Equal false true a b l r w h = absurd (wrong h)
binary_tested P names longest span Equal false false a b l r w h = refl
binary_tested P names longest span NotEqual true n a b l r w h = absurd (wrong h)
binary_tested P names longest span NotEqual false true a b l r w h = absurd (wrong h)
binary_tested P names longest span NotEqual false false a b l r w h = refl
binary_tested P names longest span o m n a b l r w h = refl

pub as_tested : (c : Context) (names : List (List ℕ)) (m : Caller) (e : PlacedTree) (w : World) → is_tested e ≡ true → (meant_in c names m e).condition w ≡ then_do ((meant_in c names m e).value w) truth_in
as_tested c names m (PlacedLiteral True span) w h = absurd (wrong h)
as_tested c names m (PlacedLiteral False span) w h = absurd (wrong h)
as_tested c names m (PlacedLiteral l span) w h = refl
as_tested c names m (PlacedParen e span) w h = absurd (wrong h)
as_tested c names m (PlacedUnary o e span) w h = unary_tested c.program.now names usual_limits.longest span o _ w h
as_tested c names m (PlacedBinary a o b span) w h = binary_tested c.program.now names usual_limits.longest span o _ _ _ _ _ _ w h
as_tested c names m (PlacedInstanceOf e n span) w h = absurd (wrong h)
as_tested c names m e w h = refl

unary_made : (P : Program) (names : List (List ℕ)) (longest : ℕ) (span : Span) (o : UnaryOperator) (e : Meant) (w : World) → is_not o ≡ true → (unary P names longest span o e).value w ≡ truth_made ((unary P names longest span o e).condition w)
unary_made P names longest span Not e w h = refl
unary_made P names longest span o e w h = absurd (wrong h)

binary_made : (P : Program) (names : List (List ℕ)) (longest : ℕ) (span : Span) (o : BinaryOperator) (m n : Bool) (a b : BaseType) (l r : Meant) (w : World) → (is_logical o || (is_equality o && (m || n))) ≡ true → (binary P names longest span o m n a b l r).value w ≡ truth_made ((binary P names longest span o m n a b l r).condition w)
binary_made P names longest span And m n a b l r w h = refl
binary_made P names longest span Or m n a b l r w h = refl
binary_made P names longest span Equal true true a b l r w h = refl
binary_made P names longest span Equal true false a b l r w h = refl
binary_made P names longest span Equal false true a b l r w h = refl
binary_made P names longest span Equal false false a b l r w h = absurd (wrong h)
binary_made P names longest span NotEqual true true a b l r w h = refl
binary_made P names longest span NotEqual true false a b l r w h = refl
binary_made P names longest span NotEqual false true a b l r w h = refl
binary_made P names longest span NotEqual false false a b l r w h = absurd (wrong h)
binary_made P names longest span o m n a b l r w h = absurd (wrong h)

pub as_made : (c : Context) (names : List (List ℕ)) (m : Caller) (e : PlacedTree) (w : World) → is_connective e ≡ true → (meant_in c names m e).value w ≡ truth_made ((meant_in c names m e).condition w)
as_made c names m (PlacedUnary o e span) w h = unary_made c.program.now names usual_limits.longest span o _ w h
as_made c names m (PlacedBinary a o b span) w h = binary_made c.program.now names usual_limits.longest span o _ _ _ _ _ _ w h
as_made c names m (PlacedInstanceOf e n span) w h = refl
as_made c names m e w h = absurd (wrong h)

-- a sign before a value
pub signed : (P : Program) (names : List (List ℕ)) (longest : ℕ) (span : Span) (o : UnaryOperator) (e : Meant) (w : World) → is_not o ≡ false → (unary P names longest span o e).value w ≡ then_do (e.value w) (λ x w. got span (unary_of (is_minus o) (prim_of x)) w)
signed P names longest span Not e w h = absurd (cc)
signed P names longest span Minus e w h = refl
signed P names longest span Plus e w h = refl

-- a binary form that calculates
pub calculates_so : (P : Program) (names : List (List ℕ)) (longest : ℕ) (span : Span) (o : BinaryOperator) (m n : Bool) (a b : BaseType) (l r : Meant) (w : World) → not (is_logical o || (is_equality o && (m || n))) ≡ true → (binary P names longest span o m n a b l r).value w ≡ calculated P names longest span (operator_of o) a b l.value r.value w
calculates_so P names longest span And m n a b l r w h = absurd (wrong h)
calculates_so P names longest span Or m n a b l r w h = absurd (wrong h)
calculates_so P names longest span Equal true n a b l r w h = absurd (wrong h)
calculates_so P names longest span Equal false true a b l r w h = absurd (wrong h)
calculates_so P names longest span Equal false false a b l r w h = refl
calculates_so P names longest span NotEqual true n a b l r w h = absurd (wrong h)
calculates_so P names longest span NotEqual false true a b l r w h = absurd (wrong h)
calculates_so P names longest span NotEqual false false a b l r w h = refl
calculates_so P names longest span o m n a b l r w h = refl

-- tests for null on the one side or the other
pub null_right : (P : Program) (names : List (List ℕ)) (longest : ℕ) (span : Span) (o : BinaryOperator) (m : Bool) (a b : BaseType) (l r : Meant) (w : World) → is_equality o ≡ true → (binary P names longest span o m true a b l r).condition w ≡ null_holds (is_on_null o) l.value w
null_right P names longest span Equal m a b l r w h = refl
null_right P names longest span NotEqual m a b l r w h = refl
null_right P names longest span o m a b l r w h = absurd (wrong h)

pub null_left : (P : Program) (names : List (List ℕ)) (longest : ℕ) (span : Span) (o : BinaryOperator) (m : Bool) (a b : BaseType) (l r : Meant) (w : World) → is_equality o ≡ true → (is_logical o || (is_equality o && (m || false))) ≡ true → (binary P names longest span o m false a b l r).condition w ≡ null_holds (is_on_null o) r.value w
null_left P names longest span Equal true a b l r w h k = refl
null_left P names longest span Equal false a b l r w h k = absurd (wrong k)
null_left P names longest span NotEqual true a b l r w h k = refl
null_left P names longest span NotEqual false a b l r w h k = absurd (wrong k)
null_left P names longest span o m a b l r w h k = absurd (wrong h)

-- an assignment with an operator of its own
pub assigns_so : (P : Program) (names : List (List ℕ)) (longest : ℕ) (span : Span) (o : AssignOperator) (a b : BaseType) (at : Span) (p : World → Result Place) (v : World → Result (Option Value)) (w : World) → not (is_simple o) ≡ true → assignment P names longest span o a b at p v w ≡ compound P names longest span at (compound_of o) a b p v w
assigns_so P names longest span Assign a b at p v w h = absurd (wrong h)
assigns_so P names longest span o a b at p v w h = refl
