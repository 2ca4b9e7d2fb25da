-- Expressions are lowered to the same points, whatever the places of the class table.
use Rattle.std.proofs.Common.{◌≡◌, ℕ, Bool, cond, ◌||◌, Option, refl}
use Rattle.jn_base.specs.declared.place.Span.{Span}
use Rattle.jn_trees.specs.declared.expression.UnaryOperator.{UnaryOperator}
use Rattle.jn_trees.specs.declared.expression.UnaryOperator.TheVariants.{Plus, Minus, Not}
use Rattle.jn_trees.specs.declared.expression.BinaryOperator.{BinaryOperator}
use Rattle.jn_trees.specs.declared.expression.BinaryOperator.TheVariants.{Multiply, Divide, Remainder, Add, Subtract, Less, Greater, LessEqual, GreaterEqual, Equal, NotEqual, And, Or}
use Rattle.jn_trees.specs.declared.expression.AssignOperator.{AssignOperator}
use Rattle.jn_points.specs.declared.point.BaseType.{BaseType}
use Rattle.jn_points.specs.declared.point.Origin.{Origin}
use Rattle.jn_points.specs.declared.point.PointKind.TheVariants.{Cast, NewArray, ArrayOf}
use Rattle.jn_points.specs.declared.program.Program.{Program}
use Rattle.jn_places.specs.Placed.{PlacedTree, PlacedTrees, NoPlacedTrees, MorePlacedTrees, PlacedLiteral, PlacedName, PlacedThis, PlacedParen, PlacedField, PlacedCall, PlacedOwnCall, PlacedSuperCall, PlacedIndex, PlacedNew, PlacedNewArray, PlacedArrayOf, PlacedPostfix, PlacedPrefix, PlacedUnary, PlacedCast, PlacedBinary, PlacedInstanceOf, PlacedConditional, PlacedAssign}
use Rattle.jn_lowering.specs.Fragments.{nothing}
use Rattle.jn_lowering.specs.Temporaries.{Temporaries, Taken, take_one}
use Rattle.jn_lowering.specs.Scopes.{Scope, or_zero, count, class_named, access, callee}
use Rattle.jn_lowering.specs.Bases.{compound_of, is_simple, ref, type_of}
use Rattle.jn_lowering.specs.Forms.{Value, Condition, Spot, Located, Lowered, as_condition, as_value, gives, kept, none_later}
use Rattle.jn_lowering.specs.Calls.{chosen, class_no, instance_tested, with_operand}
use Rattle.jn_lowering.specs.Expressions.{is_null, span_of, element, binary, unary, assignment, lower, operands}
use Rattle.jn_places_law.specs.Bare.{bare}
use Rattle.jn_places_law.proofs.Lookups.{method_of_is}
use Rattle.jn_heads_law.proofs.Meanings.{array_is, meaning_is, access_is, callee_is, type_is, assigns_is, any_is, origin_is}
use Rattle.jn_heads_law.proofs.Forms.{name_spot_is, read_of_is, as_place_is, access_place_is, dotted_is, own_call_is, super_call_is, created_is, simply_is, compound_is, prefixed_is, old_value_is, postfixed_is}
use Rattle.jn_places_law.proofs.Meanings.{constructor_is, class_named_is, wider_is, super_method_is}

-- where the identifier's value stands
abbrev located : Spot → Temporaries → Located
located p t = record { fragment = nothing; spot = p; behind = t }

module _ (P : Program) (c first : ℕ) where
  -- what the forms are made of

  pub access_at : (s : Scope) (e : PlacedTree) (n : ℕ) → access (bare P) c s e (type_of (bare P) c s e) n ≡ access P c s e (type_of P c s e) n
  access_at s e n = λ i. access_is P c s e (type_is P c s e i) n i

  pub callee_at : (s : Scope) (e : PlacedTree) (n : ℕ) (es : PlacedTrees) → callee (bare P) c s e (type_of (bare P) c s e) n (count es) ≡ callee P c s e (type_of P c s e) n (count es)
  callee_at s e n es = λ i. callee_is P c s e (type_is P c s e i) n (count es) i

  pub class_at : (n : ℕ) → or_zero (class_named (bare P) n) ≡ or_zero (class_named P n)
  class_at n = λ i. or_zero (class_named_is P n i)

  unary_is : (t : Temporaries) (span : Span) (o : UnaryOperator) (e : Lowered) → unary (bare P) c first t span o e ≡ unary P c first t span o e
  unary_is t span Not e = refl
  unary_is t span Minus e = refl
  unary_is t span Plus e = refl

  binary_is : (span : Span) (o : BinaryOperator) (n m : Bool) (p q : Option Origin) (a b : BaseType) (later : ℕ → Bool) (l : Lowered) (r : Temporaries → Lowered) (t : Temporaries) → binary (bare P) c first span o n m p q a b later l r t ≡ binary P c first span o n m p q a b later l r t
  binary_is span And n m p q a b later l r t = refl
  binary_is span Or n m p q a b later l r t = refl
  binary_is span Equal n m p q a b later l r t = refl
  binary_is span NotEqual n m p q a b later l r t = refl
  binary_is span Multiply n m p q a b later l r t = refl
  binary_is span Divide n m p q a b later l r t = refl
  binary_is span Remainder n m p q a b later l r t = refl
  binary_is span Add n m p q a b later l r t = refl
  binary_is span Subtract n m p q a b later l r t = refl
  binary_is span Less n m p q a b later l r t = refl
  binary_is span Greater n m p q a b later l r t = refl
  binary_is span LessEqual n m p q a b later l r t = refl
  binary_is span GreaterEqual n m p q a b later l r t = refl

  assignment_is : (span : Span) (o : AssignOperator) (a b : BaseType) (later : ℕ → Bool) (at : Span) (p : Located) (e : Temporaries → Lowered) → assignment (bare P) c first span o a b later at p e ≡ assignment P c first span o a b later at p e
  assignment_is span o a b later at p e = λ i.
      cond (is_simple o)
      (simply_is P first span p.spot p.fragment (e p.behind).value i)
      (compound_is P first span (compound_of o) a b p.spot (kept P first later a (read_of_is P first p at i)) (e (kept P first later a (read_of_is P first p at i)).behind).value i)

  -- each form in each of its uses, and operands
  mutual
    pub lower_is : (s : Scope) (t : Temporaries) (e : PlacedTree) → lower (bare P) c first s t e ≡ lower P c first s t e
    lower_is s t (PlacedLiteral l span) = refl
    lower_is s t (PlacedName n) = λ i. as_place_is P first n.span (λ later. located (name_spot_is P (meaning_is P c s n.name.0 i) n.span i) t) i
    lower_is s t (PlacedThis span) = refl
    lower_is s t (PlacedParen e span) = lower_is s t e
    lower_is s t (PlacedField e n span) = λ i. as_place_is P first span (λ later. access_place_is P first (access_at s e n.name.0 i) t (kept P first later (type_is P c s e i) (lower_is s t e i).value) i) i
    lower_is s t (PlacedCall e n es span) = λ i.
        as_value t (dotted_is P first (callee_at s e n.name.0 es i) span t
        (kept P first (λ r. any_is P c s r es i) (type_is P c s e i) (lower_is s t e i).value)
        (operands_is s (kept P first (λ r. any_is P c s r es i) (type_is P c s e i) (lower_is s t e i).value).behind es i)
        (operands_is s t es i) i)
    lower_is s t (PlacedOwnCall n es span) = λ i. as_value t (own_call_is P first (method_of_is P c n.name.0 (count es) i) n.span span (operands_is s t es i) i)
    lower_is s t (PlacedSuperCall n es span) = λ i. as_value t (super_call_is P first (super_method_is P c n.name.0 (count es) i) n.span span (operands_is s t es i) i)
    lower_is s t (PlacedIndex a b span) = λ i.
        as_place_is P first span (λ later. element P c first span (type_is P c s a i)
        (kept P first (λ r. assigns_is P c s r b i || later r) (type_is P c s a i) (lower_is s t a i).value)
        (kept P first later (type_is P c s b i) (lower_is s (kept P first (λ r. assigns_is P c s r b i || later r) (type_is P c s a i) (lower_is s t a i).value).behind b i).value)) i
    lower_is s t (PlacedNew n es span) = λ i. as_value t (created_is P first (constructor_is P (class_at n.name.0 i) (count es) i) (class_at n.name.0 i) span (operands_is s t es i) i)
    lower_is s t (PlacedNewArray annotations base size span) = λ i. as_value t (gives P first (lower_is s t size i).value.behind (lower_is s t size i).value.fragment (array_is P base annotations i) span (λ dst. NewArray dst (array_is P base annotations i) (lower_is s t size i).value.operand))
    lower_is s t (PlacedArrayOf annotations base es span) = λ i. as_value t (gives P first (operands_is s t es i).behind (operands_is s t es i).fragment (array_is P base annotations i) span (λ dst. ArrayOf dst (array_is P base annotations i) (operands_is s t es i).values))
    lower_is s t (PlacedPostfix e step span) = λ i.
        as_value t (postfixed_is P first span step ((lower_is s t e i).assigned none_later).spot
        (read_of_is P first ((lower_is s t e i).assigned none_later) (span_of e) i).operand
        (old_value_is P first ((lower_is s t e i).assigned none_later).spot (type_is P c s e i) span (read_of_is P first ((lower_is s t e i).assigned none_later) (span_of e) i) i) i)
    lower_is s t (PlacedPrefix step e span) = λ i. as_value t (prefixed_is P first span step ((lower_is s t e i).assigned none_later).spot (read_of_is P first ((lower_is s t e i).assigned none_later) (span_of e) i) i)
    lower_is s t (PlacedUnary o e span) = λ i. unary_is t span o (lower_is s t e i) i
    lower_is s t (PlacedCast n e span) = λ i. as_value t (gives P first (lower_is s t e i).value.behind (lower_is s t e i).value.fragment (ref (class_at n.name.0 i)) span (λ dst. Cast dst (lower_is s t e i).value.operand (class_no (class_at n.name.0 i))))
    lower_is s t (PlacedBinary a o b span) = λ i. binary_is span o (is_null a) (is_null b) (origin_is P c s a i) (origin_is P c s b i) (type_is P c s a i) (type_is P c s b i) (λ r. assigns_is P c s r b i) (lower_is s t a i) (λ u. lower_is s u b i) t i
    lower_is s t (PlacedInstanceOf e n span) = λ i. as_condition P first t span (instance_tested (class_at n.name.0 i) (origin_is P c s e i) span (lower_is s t e i).value)
    lower_is s t (PlacedConditional q a b span) = λ i.
        let x : Condition = (lower_is s t q i).condition in
        let dst : Taken = take_one x.behind (wider_is P (type_is P c s a i) (type_is P c s b i) i) in
        let y : Value = (lower_is s dst.behind a i).value in
        as_value t (chosen P first span dst.number x y (lower_is s y.behind b i).value)
    lower_is s t (PlacedAssign target o e span) = λ i. as_value t (assignment_is span o (type_is P c s target i) (type_is P c s e i) (λ r. assigns_is P c s r e i) (span_of target) ((lower_is s t target i).assigned (λ r. assigns_is P c s r e i)) (λ u. lower_is s u e i) i)

    pub operands_is : (s : Scope) (t : Temporaries) (es : PlacedTrees) → operands (bare P) c first s t es ≡ operands P c first s t es
    operands_is s t NoPlacedTrees = refl
    operands_is s t (MorePlacedTrees e es) = λ i.
        with_operand (kept P first (λ r. any_is P c s r es i) (type_is P c s e i) (lower_is s t e i).value)
        (operands_is s (kept P first (λ r. any_is P c s r es i) (type_is P c s e i) (lower_is s t e i).value).behind es i)
