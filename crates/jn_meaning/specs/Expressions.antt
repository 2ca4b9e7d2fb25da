-- What an expression means: its value, whether it holds as a condition, and the place that it names where it is assigned (JLS 8, 15). Operands are evaluated from left to right, and each has the value that it had then (JLS 8, 15.7).
use Rattle.std.specs.Prelude.{ℕ, Bool, true, false, cond, not, ◌&&◌, List, [], ◌∷◌, ◌++◌, length, Option, Some, None, pos}
use Rattle.jn_base.specs.declared.place.Span.{Span}
use Rattle.jn_trees.specs.declared.expression.Literal.{Literal}
use Rattle.jn_trees.specs.declared.expression.Literal.TheVariants.{True, False}
use Rattle.jn_trees.specs.declared.expression.UnaryOperator.{UnaryOperator}
use Rattle.jn_trees.specs.declared.expression.UnaryOperator.TheVariants.{Plus, Minus, Not}
use Rattle.jn_trees.specs.declared.expression.BinaryOperator.{BinaryOperator}
use Rattle.jn_trees.specs.declared.expression.BinaryOperator.TheVariants.{And, Or, Equal}
use Rattle.jn_trees.specs.declared.expression.AssignOperator.{AssignOperator}
use Rattle.jn_points.specs.declared.point.BaseType.{BaseType}
use Rattle.jn_points.specs.declared.point.Operator.{Operator}
use Rattle.jn_points.specs.declared.point.Literal.TheVariants.{Int as IntOf}
use Rattle.jn_points.specs.declared.program.Program.{Program}
use Rattle.jn_points.specs.BaseRows.{is_void}
use Rattle.jn_points.specs.Lookup.{class_of, method_at, private_of, result_base_of, static_of}
use Rattle.jn_points.specs.Members.{constructor_of, method_of}
use Rattle.jn_places.specs.Placed.{PlacedTree, PlacedTrees, NoPlacedTrees, MorePlacedTrees, PlacedLiteral, PlacedName, PlacedThis, PlacedParen, PlacedField, PlacedCall, PlacedOwnCall, PlacedSuperCall, PlacedIndex, PlacedNew, PlacedNewArray, PlacedArrayOf, PlacedPostfix, PlacedPrefix, PlacedUnary, PlacedCast, PlacedBinary, PlacedInstanceOf, PlacedConditional, PlacedAssign}
use Rattle.jn_lowering.specs.Scopes.{Scope, Meaning, LocalMeant, FieldMeant, Access, ClassField, ObjectField, ArrayLength, NoField, Callee, Println, OfText, ClassMethod, ObjectMethod, NoMethod, access, callee, class_named, count, meaning, or_zero, super_method}
use Rattle.jn_lowering.specs.Bases.{array_type, compound_of, is_equality, is_simple, operator_of, type_of}
use Rattle.jn_lowering.specs.Forms.{constant, step_operator}
use Rattle.jn_lowering.specs.Calls.{is_static}
use Rattle.jn_lowering.specs.Expressions.{is_null, span_of}
use Rattle.jn_heap.specs.Values.{Prim, Truth, Value, Plain, At, Object, defaults}
use Rattle.jn_heap.specs.State.{value_at, object_of, prim_of, got_of}
use Rattle.jn_heap.specs.Steps.{binary_of, cast_of, count_of, literal_value, str_op, unary_of}
use Rattle.jn_heap.specs.State.{int_of, text_in}
use Rattle.jn_heap.specs.Calls.{selected}
use Rattle.jn_meaning.specs.Worlds.{World, Result, Has, Stops, Senseless, then_do, got, derefs, truth_in, with_heap}
use Rattle.jn_meaning.specs.Operations.{Place, LocalPlace, StaticPlace, FieldPlace, ElementPlace, LengthPlace, NoPlace, all_there, array_listed, array_made, is_instance, is_null_value, operated, printed, read_place, write_place}

-- a form in each of its uses
pub record Meant : Type 0 where
  pub value : World → Result (Option Value)
  pub condition : World → Result Bool
  pub place : World → Result Place

-- a call of a method's or constructor's body: `this`, where there is one, and the arguments
abbrev pub Caller : Type 0
Caller = ℕ → List Value → World → Result (Option Value)

-- the span of an expression as an operand: that of what stands in parentheses
abbrev pub operand_span : PlacedTree → Span
operand_span (PlacedParen e span) = operand_span e
operand_span e = span_of e

-- what can't be assigned has no place
abbrev pub no_place : World → Result Place
no_place w = Has NoPlace w

-- a form that defines its value
abbrev pub of_value : (World → Result (Option Value)) → Meant
of_value v = record { value = v; condition = λ w. then_do (v w) truth_in; place = no_place }

-- a form that defines its condition
abbrev pub of_condition : (World → Result Bool) → Meant
of_condition q = record { value = λ w. then_do (q w) (λ b w. Has (Some (Plain (Truth b))) w); condition = q; place = no_place }

-- conditions

-- `&&` (JLS 8, 15.23)
abbrev pub both_hold : (World → Result Bool) → (World → Result Bool) → World → Result Bool
both_hold p q w = then_do (p w) (λ b w. cond b (q w) (Has false w))

-- `||` (JLS 8, 15.24)
abbrev pub either_holds : (World → Result Bool) → (World → Result Bool) → World → Result Bool
either_holds p q w = then_do (p w) (λ b w. cond b (Has true w) (q w))

-- `!` (JLS 8, 15.15.6)
abbrev pub fails : (World → Result Bool) → World → Result Bool
fails q w = then_do (q w) (λ b w. Has (not b) w)

-- a test whether a value is null holds on the one side or the other (JLS 8, 15.21.3)
abbrev pub null_holds : Bool → (World → Result (Option Value)) → World → Result Bool
null_holds on_null v w = then_do (v w) (λ x w. then_do (is_null_value x w) (λ b w. Has (cond on_null b (not b)) w))

-- `true` and `false` as conditions; another literal is its value
abbrev pub literal_holds : Literal → (World → Result (Option Value)) → World → Result Bool
literal_holds True v w = Has true w
literal_holds False v w = Has false w
literal_holds l v w = then_do (v w) truth_in

-- `==` tells that a null is on the first side
abbrev pub is_on_null : BinaryOperator → Bool
is_on_null Equal = true
is_on_null o = false

-- a side of `?:`: its value, which must be there (JLS 8, 15.25)
abbrev pub side : Span → (World → Result (Option Value)) → World → Result (Option Value)
side span v w = then_do (v w) (λ x w. got span (got_of x) w)

-- the old value of `++` and `--` after: that of a local must be there
abbrev pub old_value : Place → Span → Option Value → World → Result (Option Value)
old_value (LocalPlace r) span x w = got span (got_of x) w
old_value q span x w = Has x w

module _ (P : Program) (names : List (List ℕ)) (longest : ℕ) where
  -- a form that defines its place
  abbrev pub of_place : Span → (World → Result Place) → Meant
  of_place span p =
      let v : World → Result (Option Value) = λ w. then_do (p w) (λ q w. read_place P q span w) in
      record { value = v; condition = λ w. then_do (v w) truth_in; place = p }

  -- a field of the class in which the identifier stands, through `this` where it isn't static (JLS 8, 15.11)
  abbrev pub own_place : Bool → ℕ → Span → World → Place
  own_place true f span w = StaticPlace f
  own_place false f span w = FieldPlace (value_at w.locals 0) span f

  -- where an identifier's value stands (JLS 8, 6.5.6.1)
  abbrev pub place_meant : Meaning → Span → World → Place
  place_meant (LocalMeant l) span w = LocalPlace l.reg
  place_meant (FieldMeant f) span w = own_place (is_static P f) f span w
  place_meant m span w = NoPlace

  -- where a field after a dot stands; a class's needs no object
  abbrev pub place_accessed : Access → Span → (World → Result (Option Value)) → World → Result Place
  place_accessed (ClassField f) at v w = Has (StaticPlace f) w
  place_accessed (ObjectField f) at v w = then_do (v w) (λ x w. Has (FieldPlace x at f) w)
  place_accessed ArrayLength at v w = then_do (v w) (λ x w. Has (LengthPlace x at) w)
  place_accessed NoField at v w = then_do (v w) (λ x w. Has NoPlace w)

  -- an element's place: the array, then the index (JLS 8, 15.10.4)
  abbrev pub place_element : Span → (World → Result (Option Value)) → (World → Result (Option Value)) → World → Result Place
  place_element at a i w = then_do (a w) (λ x w. then_do (i w) (λ y w. Has (ElementPlace x at y) w))

  -- both sides, and what the operator makes of them
  abbrev pub calculated : Span → Operator → BaseType → BaseType → (World → Result (Option Value)) → (World → Result (Option Value)) → World → Result (Option Value)
  calculated span o a b l r w = then_do (l w) (λ x w. then_do (r w) (λ y w. got span (operated P longest o a b x y) w))

  -- a binary form: whether its sides are `null`, their types, and both sides
  abbrev pub binary : Span → BinaryOperator → Bool → Bool → BaseType → BaseType → Meant → Meant → Meant
  binary span And null_l null_r a b l r = of_condition (both_hold l.condition r.condition)
  binary span Or null_l null_r a b l r = of_condition (either_holds l.condition r.condition)
  binary span o null_l null_r a b l r =
      cond (is_equality o && null_r) (of_condition (null_holds (is_on_null o) l.value))
      (cond (is_equality o && null_l) (of_condition (null_holds (is_on_null o) r.value))
      (of_value (calculated span (operator_of o) a b l.value r.value)))

  -- a unary form (JLS 8, 15.15)
  abbrev pub unary : Span → UnaryOperator → Meant → Meant
  unary span Not e = of_condition (fails e.condition)
  unary span Minus e = of_value (λ w. then_do (e.value w) (λ x w. got span (unary_of true (prim_of x)) w))
  unary span Plus e = of_value (λ w. then_do (e.value w) (λ x w. got span (unary_of false (prim_of x)) w))

  -- `=`: the place, the right side, the write (JLS 8, 15.26.1)
  abbrev pub simply_assigned : Span → (World → Result Place) → (World → Result (Option Value)) → World → Result (Option Value)
  simply_assigned span p v w = then_do (p w) (λ q w. then_do (v w) (λ x w. write_place P q span x w))

  -- the old value, the right side, the write of what they give (JLS 8, 15.26.2)
  abbrev pub compound : Span → Span → Operator → BaseType → BaseType → (World → Result Place) → (World → Result (Option Value)) → World → Result (Option Value)
  compound span at o a b p v w = then_do (p w) (λ q w. then_do (read_place P q at w) (λ x w. then_do (v w) (λ y w. then_do (got span (operated P longest o a b x y) w) (λ z w. write_place P q span z w))))

  -- an assignment; `at` is the target's span
  abbrev pub assignment : Span → AssignOperator → BaseType → BaseType → Span → (World → Result Place) → (World → Result (Option Value)) → World → Result (Option Value)
  assignment span o a b at p v = cond (is_simple o) (simply_assigned span p v) (compound span at (compound_of o) a b p v)

  -- 1 is added or subtracted, and the new value written
  abbrev pub stepped : Span → Operator → Place → Option Value → World → Result (Option Value)
  stepped span o q x w = then_do (got span (binary_of o (prim_of x) (prim_of (Some (literal_value names (IntOf (pos 1)))))) w) (λ z w. write_place P q span z w)

  -- `++` and `--` in front give the new value (JLS 8, 15.15.1 and 15.15.2)
  abbrev pub prefixed : Span → Span → Operator → (World → Result Place) → World → Result (Option Value)
  prefixed span at o p w = then_do (p w) (λ q w. then_do (read_place P q at w) (λ x w. stepped span o q x w))

  -- `++` and `--` after give the old one (JLS 8, 15.14.2 and 15.14.3)
  abbrev pub postfixed : Span → Span → Operator → (World → Result Place) → World → Result (Option Value)
  postfixed span at o p w = then_do (p w) (λ q w. then_do (read_place P q at w) (λ x w. then_do (old_value q span x w) (λ old w. then_do (stepped span o q x w) (λ z w. Has old w))))

  -- in a body of class c, with calls
  module _ (call : Caller) where
    -- the result of a void method is nothing, that of another one must be there
    abbrev pub result : Bool → Span → Option Value → World → Result (Option Value)
    result true span v w = Has None w
    result false span v w = got span (got_of v) w

    -- a body, where the arguments are there (JLS 8, 15.12.4.5)
    abbrev pub entered : Option ℕ → Option (List Value) → World → Result (Option Value)
    entered None vs w = Stops Senseless w.out
    entered (Some m) None w = Stops Senseless w.out
    entered (Some m) (Some vs) w = call m vs w

    -- an object before the arguments
    abbrev pub with_this : ℕ → Option (List Value) → Option (List Value)
    with_this o None = None
    with_this o (Some vs) = Some (At o ∷ vs)

    -- the method that the object's class has, or the one named (JLS 8, 15.12.4.4)
    abbrev pub entered_on : Option ℕ → ℕ → Bool → Option (List Value) → World → Result (Option Value)
    entered_on None m direct vs w = Stops Senseless w.out
    entered_on (Some o) m direct vs w = entered (selected P w.heap o m direct) (with_this o vs) w

    -- a call of a static method (JLS 8, 15.12.4.1)
    abbrev pub called_static : Span → ℕ → List (Option Value) → World → Result (Option Value)
    called_static span m args w = then_do (entered (Some m) (all_there args) w) (result (is_void (result_base_of (method_at P m))) span)

    -- a call on a receiver, which is dereferenced after the arguments
    abbrev pub called_on : Span → ℕ → Bool → Option Value → Span → List (Option Value) → World → Result (Option Value)
    called_on span m direct x at args w = derefs x at w (then_do (entered_on (object_of x) m direct (all_there args) w) (result (is_void (result_base_of (method_at P m))) span))

    -- a method by its name alone: on `this`, unless it is static (JLS 8, 15.12.4.1)
    abbrev pub called_own : Bool → Span → Span → ℕ → List (Option Value) → World → Result (Option Value)
    called_own true span at m args w = called_static span m args w
    called_own false span at m args w = called_on span m (private_of (method_at P m)) (value_at w.locals 0) at args w

    -- a method that the class has
    abbrev pub own_call : Option ℕ → Span → Span → List (Option Value) → World → Result (Option Value)
    own_call None span at args w = Has None w
    own_call (Some m) span at args w = called_own (static_of (method_at P m)) span at m args w

    -- `super.m(..)` (JLS 8, 15.12.4.4)
    abbrev pub super_call : Option ℕ → Span → Span → List (Option Value) → World → Result (Option Value)
    super_call None span at args w = Has None w
    super_call (Some m) span at args w = called_on span m true (value_at w.locals 0) at args w

    -- the operand of an operation of java.lang.String, where it has one
    abbrev pub first_value : List (Option Value) → Option Value
    first_value [] = None
    first_value (x ∷ xs) = x

    -- println's argument (java.io.PrintStream)
    abbrev pub printed_first : List (Option Value) → World → Result (Option Value)
    printed_first [] w = Has None w
    printed_first (x ∷ xs) w = printed w (text_in x)

    -- a call with a dot: println and a class's method have no receiver (JLS 8, 15.12)
    abbrev pub dotted_call : Callee → Span → Span → (World → Result (Option Value)) → (World → Result (List (Option Value))) → World → Result (Option Value)
    dotted_call Println span at v args w = then_do (args w) printed_first
    dotted_call (OfText op) span at v args w = then_do (v w) (λ x w. then_do (args w) (λ xs w. derefs x at w (got span (str_op op x (first_value xs)) w)))
    dotted_call (ClassMethod m) span at v args w = then_do (args w) (called_static span m)
    dotted_call (ObjectMethod m) span at v args w = then_do (v w) (λ x w. then_do (args w) (called_on span m (private_of (method_at P m)) x at))
    dotted_call NoMethod span at v args w = then_do (v w) (λ x w. then_do (args w) (λ xs w. Has None w))

    -- the object with default fields, then its constructor; the object is given (JLS 8, 15.9.4)
    abbrev pub constructed : ℕ → Option (List Value) → World → Result (Option Value)
    constructed m None w = Stops Senseless w.out
    constructed m (Some vs) w =
        let o : Value = At (length w.heap) in
        then_do (call m (o ∷ vs) (with_heap w (w.heap ++ Object (class_of (method_at P m)) (defaults P.fields) ∷ []))) (λ v w. Has (Some o) w)

    -- `new` (JLS 8, 15.9.4)
    abbrev pub created : Option ℕ → List (Option Value) → World → Result (Option Value)
    created None args w = Has None w
    created (Some m) args w = constructed m (all_there args) w

    module _ (c : ℕ) where
      abbrev mutual
        -- each form in each of its uses
        pub meant : Scope → PlacedTree → Meant
        -- a literal's value (JLS 8, 15.8.1)
        meant s (PlacedLiteral l span) =
            let v : World → Result (Option Value) = λ w. Has (Some (literal_value names (constant l))) w in
            record { value = v; condition = literal_holds l v; place = no_place }
        -- a local's or field's value (JLS 8, 6.5.6.1)
        meant s (PlacedName n) = of_place n.span (λ w. Has (place_meant (meaning P c s n.name.0) n.span w) w)
        -- `this` is the first local (JLS 8, 15.8.3)
        meant s (PlacedThis span) = of_value (λ w. Has (value_at w.locals 0) w)
        -- what stands in parentheses (JLS 8, 15.8.5)
        meant s (PlacedParen e span) = meant s e
        -- a field after a dot (JLS 8, 15.11.1), or an array's length (JLS 8, 10.7)
        meant s (PlacedField e n span) = of_place span (place_accessed (access P c s e (type_of P c s e) n.name.0) (operand_span e) (meant s e).value)
        -- calls: with a dot, by a name alone, by `super` (JLS 8, 15.12)
        meant s (PlacedCall e n es span) = of_value (dotted_call (callee P c s e (type_of P c s e) n.name.0 (count es)) span (operand_span e) (meant s e).value (evaluated s es))
        meant s (PlacedOwnCall n es span) = of_value (λ w. then_do (evaluated s es w) (own_call (method_of P c n.name.0 (count es)) span n.span))
        meant s (PlacedSuperCall n es span) = of_value (λ w. then_do (evaluated s es w) (super_call (super_method P c n.name.0 (count es)) span n.span))
        -- an element (JLS 8, 15.10.4)
        meant s (PlacedIndex a i span) = of_place span (place_element (operand_span a) (meant s a).value (meant s i).value)
        -- a new object (JLS 8, 15.9.4)
        meant s (PlacedNew n es span) = of_value (λ w. then_do (evaluated s es w) (created (constructor_of P (or_zero (class_named P n.name.0)) (count es))))
        -- a new array of a length (JLS 8, 15.10.2), or of elements (JLS 8, 10.6)
        meant s (PlacedNewArray annotations base size span) = of_value (λ w. then_do ((meant s size).value w) (λ x w. array_made w span (array_type P base annotations) (count_of longest (int_of (prim_of x)))))
        meant s (PlacedArrayOf annotations base es span) = of_value (λ w. then_do (evaluated s es w) (λ xs w. array_listed w (array_type P base annotations) (all_there xs)))
        -- `++` and `--` after (JLS 8, 15.14.2 and 15.14.3) and in front (JLS 8, 15.15.1 and 15.15.2)
        meant s (PlacedPostfix e step span) = of_value (postfixed span (span_of e) (step_operator step) (meant s e).place)
        meant s (PlacedPrefix step e span) = of_value (prefixed span (span_of e) (step_operator step) (meant s e).place)
        -- `+`, `-` and `!` (JLS 8, 15.15.3, 15.15.4 and 15.15.6)
        meant s (PlacedUnary o e span) = unary span o (meant s e)
        -- a cast (JLS 8, 15.16)
        meant s (PlacedCast n e span) = of_value (λ w. then_do ((meant s e).value w) (λ x w. got span (cast_of P w.heap x (or_zero (class_named P n.name.0))) w))
        -- a binary operator (JLS 8, 15.17 to 15.24)
        meant s (PlacedBinary a o b span) = binary span o (is_null a) (is_null b) (type_of P c s a) (type_of P c s b) (meant s a) (meant s b)
        -- `instanceof` (JLS 8, 15.20.2)
        meant s (PlacedInstanceOf e n span) = of_condition (λ w. then_do ((meant s e).value w) (is_instance P (or_zero (class_named P n.name.0))))
        -- `?:` (JLS 8, 15.25)
        meant s (PlacedConditional q a b span) = of_value (λ w. then_do ((meant s q).condition w) (λ t w. cond t (side (operand_span a) (meant s a).value w) (side (operand_span b) (meant s b).value w)))
        -- an assignment (JLS 8, 15.26)
        meant s (PlacedAssign target o e span) = of_value (assignment span o (type_of P c s target) (type_of P c s e) (span_of target) (meant s target).place (meant s e).value)

        -- operands from left to right (JLS 8, 15.7.4)
        pub evaluated : Scope → PlacedTrees → World → Result (List (Option Value))
        evaluated s NoPlacedTrees w = Has [] w
        evaluated s (MorePlacedTrees e es) w = then_do ((meant s e).value w) (λ x w. then_do (evaluated s es w) (λ xs w. Has (x ∷ xs) w))
