-- Bodies are lowered to the same points in programs that are alike, where the name of the method stands at one place.
use Rattle.std.proofs.Common.{◌≡◌, ℕ, ◌+◌, Bool, true, false, cond, List, [], ◌∷◌, length, Option, Some, None, refl}
use Rattle.jn_base.specs.declared.place.Span.{Span}
use Rattle.jn_points.specs.declared.point.BaseType.{BaseType}
use Rattle.jn_points.specs.declared.point.PointKind.TheVariants.{FieldWrite, Return}
use Rattle.jn_points.specs.declared.program.Body.{Body}
use Rattle.jn_points.specs.declared.program.Program.{Program}
use Rattle.jn_points.specs.BaseTyping.{given_bases}
use Rattle.jn_points.specs.Lookup.{class_info, class_of, ctor_of, method_at, params_of, parent_of, static_of}
use Rattle.jn_points.specs.Members.{constructor_of, declared_field}
use Rattle.jn_places.specs.Placed.{PlacedTree, PlacedTrees, NoPlacedTrees, PlacedDeclarator, PlacedMember, PlacedParameter, PlacedStatements, PlacedBlock, PlacedEmpty, PlacedExpression, PlacedBreak, PlacedContinue, PlacedReturn, PlacedLocalStatement, PlacedIf, PlacedIfElse, PlacedWhile, PlacedDo, PlacedFor, PlacedForEach, PlacedThisCall, PlacedSuperCallStatement, NoPlacedStatements, MorePlacedStatements}
use Rattle.jn_lowering.specs.Fragments.{does, Part, to, parts, then}
use Rattle.jn_lowering.specs.Temporaries.{Temporaries, no_temporaries}
use Rattle.jn_lowering.specs.Scopes.{Scope, count, parent_class}
use Rattle.jn_lowering.specs.Forms.{field_no}
use Rattle.jn_lowering.specs.Calls.{Operands, is_static, method_no, this_operand}
use Rattle.jn_lowering.specs.Expressions.{lower, operands, span_of}
use Rattle.jn_lowering.specs.Locals.{State, all_declared, parameters_from, with_temporaries}
use Rattle.jn_lowering.specs.Statements.{Step, back, both_steps, fresh, no_step, statements, step, through}
use Rattle.jn_lowering.specs.Bodies.{Source, calls_own, is_under_object, declarators_of, class, parent, name_span, at_entry, local_count, called_ctor, arguments, ctor_call, unwritten_call, construction, initializer_value, writes_field, initializes, initializers_of, initializers, body_of_parts, call_of, fields_of, whole, code_of, registers_of, body_of_source}
use Rattle.jn_places_law.specs.Bare.{Alike}
use Rattle.jn_places_law.proofs.Lookups.{parent_is}
use Rattle.jn_heads_law.proofs.Meanings.{carried, params_is, class_at_is, ctor_at_is, given_is}
use Rattle.jn_heads_law.proofs.Expressions.{lower_is, operands_is}
use Rattle.jn_heads_law.proofs.Statements.{statements_is}
use Rattle.jn_places_law.proofs.Meanings.{static_method_is, static_is, declared_field_is, constructor_is, parent_class_is}

-- the state in which a body begins
abbrev begins : Scope → List BaseType → State
begins s bases = record { scope = s; locals = bases; temporaries = no_temporaries }

-- the body of a method's code
abbrev a_body : ℕ → ℕ → Step → Body
a_body m n x = record { method = method_no m; regs = registers_of x.behind; locals = n; points = x.fragment.points 0 0 0 }

module _ (P Q : Program) (h : Alike P Q) where
  -- what a body is made of

  pub lower_same : (c first : ℕ) (s : Scope) (t : Temporaries) (e : PlacedTree) → lower P c first s t e ≡ lower Q c first s t e
  lower_same c first s t e = carried (λ Z. lower Z c first s t e) P Q h (lower_is P c first s t e) (lower_is Q c first s t e)

  pub operands_same : (c first : ℕ) (s : Scope) (t : Temporaries) (es : PlacedTrees) → operands P c first s t es ≡ operands Q c first s t es
  operands_same c first s t es = carried (λ Z. operands Z c first s t es) P Q h (operands_is P c first s t es) (operands_is Q c first s t es)

  pub statements_same : (c first : ℕ) (st : State) (xs : PlacedStatements) → statements P c first st xs ≡ statements Q c first st xs
  statements_same c first st xs = carried (λ Z. statements Z c first st xs) P Q h (statements_is P c first st xs) (statements_is Q c first st xs)

  constructor_same : (c arity : ℕ) → constructor_of P c arity ≡ constructor_of Q c arity
  constructor_same c arity = carried (λ Z. constructor_of Z c arity) P Q h (constructor_is P c arity) (constructor_is Q c arity)

  field_same : (c name d : ℕ) → declared_field P c name d ≡ declared_field Q c name d
  field_same c name d = carried (λ Z. declared_field Z c name d) P Q h (declared_field_is P c name d) (declared_field_is Q c name d)

  static_same : (f : ℕ) → is_static P f ≡ is_static Q f
  static_same f = carried (λ Z. is_static Z f) P Q h (static_is P f) (static_is Q f)

  under_same : (c : ℕ) → parent_of (class_info P c) ≡ parent_of (class_info Q c)
  under_same c = carried (λ Z. parent_of (class_info Z c)) P Q h (parent_is P c) (parent_is Q c)

  parent_class_same : (c : ℕ) → parent_class P (parent_of (class_info P c)) ≡ parent_class Q (parent_of (class_info Q c))
  parent_class_same c = carried (λ Z. parent_class Z (parent_of (class_info Z c))) P Q h (parent_class_is P c) (parent_class_is Q c)

  -- what a method says of its body
  module _ (m : ℕ) where
    pub class_same : class P m ≡ class Q m
    class_same = carried (λ Z. class_of (method_at Z m)) P Q h (class_at_is P m) (class_at_is Q m)

    pub parent_same : parent P m ≡ parent Q m
    parent_same = λ i. parent_class_same (class_same i) i

    ctor_same : ctor_of (method_at P m) ≡ ctor_of (method_at Q m)
    ctor_same = carried (λ Z. ctor_of (method_at Z m)) P Q h (ctor_at_is P m) (ctor_at_is Q m)

    params_same : params_of (method_at P m) ≡ params_of (method_at Q m)
    params_same = carried (λ Z. params_of (method_at Z m)) P Q h (params_is P m) (params_is Q m)

    static_method_same : static_of (method_at P m) ≡ static_of (method_at Q m)
    static_method_same = carried (λ Z. static_of (method_at Z m)) P Q h (static_method_is P m) (static_method_is Q m)

    given_same : given_bases P m ≡ given_bases Q m
    given_same = carried (λ Z. given_bases Z m) P Q h (given_is P m) (given_is Q m)

    pub entry_same : (ps : List PlacedParameter) → at_entry P m ps ≡ at_entry Q m ps
    entry_same ps = λ i. begins (parameters_from (cond (static_method_same i) 0 1) ps (params_same i)) (given_same i)

    pub count_same : (xs : PlacedStatements) → local_count P m xs ≡ local_count Q m xs
    count_same xs = λ i. length (given_same i) + all_declared xs

    -- the parts of a body
    module _ (named : name_span P m ≡ name_span Q m) (first : ℕ) where
      called_same : (k : Option ℕ) (own : Bool) (span : Span) (args : Operands) → called_ctor P m first k own span args ≡ called_ctor Q m first k own span args
      called_same None own span args = refl
      called_same (Some k) own span args = refl

      arguments_same : (st : State) (es : PlacedTrees) → arguments P m first st es ≡ arguments Q m first st es
      arguments_same st es = λ i. operands_same (class_same i) first st.scope st.temporaries es i

      ctor_call_same : (st : State) (own : Bool) (k : ℕ) (es : PlacedTrees) (span : Span) → ctor_call P m first st own k es span ≡ ctor_call Q m first st own k es span
      ctor_call_same st own k es span = λ i. back st (step (with_temporaries st (arguments_same (fresh st) es i).behind) (called_same (constructor_same k (count es) i) own span (arguments_same (fresh st) es i) i))

      unwritten_same : (st : State) → unwritten_call P m first st ≡ unwritten_call Q m first st
      unwritten_same st = λ i. cond (is_under_object (under_same (class_same i) i)) (no_step st) (ctor_call_same st false (parent_same i) NoPlacedTrees (named i) i)

      construction_same : (st : State) (xs : PlacedStatements) → construction P m first st xs ≡ construction Q m first st xs
      construction_same st NoPlacedStatements = unwritten_same st
      construction_same st (MorePlacedStatements (PlacedBlock body span) xs) = unwritten_same st
      construction_same st (MorePlacedStatements (PlacedEmpty span) xs) = unwritten_same st
      construction_same st (MorePlacedStatements (PlacedExpression e span) xs) = unwritten_same st
      construction_same st (MorePlacedStatements (PlacedBreak span) xs) = unwritten_same st
      construction_same st (MorePlacedStatements (PlacedContinue span) xs) = unwritten_same st
      construction_same st (MorePlacedStatements (PlacedReturn value span) xs) = unwritten_same st
      construction_same st (MorePlacedStatements (PlacedLocalStatement l span) xs) = unwritten_same st
      construction_same st (MorePlacedStatements (PlacedIf q body span) xs) = unwritten_same st
      construction_same st (MorePlacedStatements (PlacedIfElse q body other span) xs) = unwritten_same st
      construction_same st (MorePlacedStatements (PlacedWhile q body span) xs) = unwritten_same st
      construction_same st (MorePlacedStatements (PlacedDo body q span) xs) = unwritten_same st
      construction_same st (MorePlacedStatements (PlacedFor start q update body span) xs) = unwritten_same st
      construction_same st (MorePlacedStatements (PlacedForEach marks u name array body span) xs) = unwritten_same st
      construction_same st (MorePlacedStatements (PlacedThisCall es span) xs) = λ i. ctor_call_same st true (class_same i) es span i
      construction_same st (MorePlacedStatements (PlacedSuperCallStatement es span) xs) = λ i. ctor_call_same st false (parent_same i) es span i

      initializer_same : (st : State) (e : PlacedTree) → initializer_value P m first st e ≡ initializer_value Q m first st e
      initializer_same st e = λ i. (lower_same (class_same i) first [] (fresh st).temporaries e i).value

      writes_same : (f : Option ℕ) (name : Span) (st : State) (e : PlacedTree) → writes_field P m first f name st e ≡ writes_field Q m first f name st e
      writes_same None name st e = refl
      writes_same (Some f) name st e = λ i.
          cond (static_same f i) (no_step st)
          (back st (step (with_temporaries st (initializer_same st e i).behind) (then (initializer_same st e i).fragment (does (through name (span_of e)) (FieldWrite (this_operand name) (field_no f) (initializer_same st e i).operand)))))

      initializes_same : (name : Span) (n : ℕ) (st : State) (value : Option PlacedTree) → initializes P m first name n st value ≡ initializes Q m first name n st value
      initializes_same name n st None = refl
      initializes_same name n st (Some e) = λ i. writes_same (field_same (class_same i) n (class_same i) i) name st e i

      member_same : (st : State) (ds : List PlacedDeclarator) → initializers_of P m first st ds ≡ initializers_of Q m first st ds
      member_same st [] = refl
      member_same st (d ∷ ds) = λ i. both_steps (initializes_same d.name.span d.name.name.0 st d.value i) (member_same (initializes_same d.name.span d.name.name.0 st d.value i).behind ds i)

      initializers_same : (st : State) (members : List PlacedMember) → initializers P m first st members ≡ initializers Q m first st members
      initializers_same st [] = refl
      initializers_same st (x ∷ xs) = λ i. both_steps (member_same st (declarators_of x) i) (initializers_same (member_same st (declarators_of x) i).behind xs i)

      parts_same : (call fields rest : Step) → body_of_parts P m first call fields rest ≡ body_of_parts Q m first call fields rest
      parts_same call fields rest = λ i. step rest.behind (parts (
          to call.fragment (Part 0) (Part 0)
          ∷ to fields.fragment (Part 1) (Part 1)
          ∷ to rest.fragment (Part 3) (Part 3)
          ∷ to (does (named i) (Return None)) (Part 3) (Part 3)
          ∷ []))

      call_same : (b : Bool) (st : State) (xs : PlacedStatements) → call_of P m first b st xs ≡ call_of Q m first b st xs
      call_same false st xs = refl
      call_same true st xs = construction_same st xs

      fields_same : (b : Bool) (st : State) (xs : PlacedStatements) (members : List PlacedMember) → fields_of P m first b st xs members ≡ fields_of Q m first b st xs members
      fields_same false st xs members = refl
      fields_same true st xs members = λ i. cond (calls_own xs) (no_step st) (initializers_same st members i)

      pub whole_same : (st : State) (xs : PlacedStatements) (members : List PlacedMember) → whole P m first st xs members ≡ whole Q m first st xs members
      whole_same st xs members = λ i.
          let call : Step = call_same (ctor_same i) st xs i in
          let fields : Step = fields_same (ctor_same i) call.behind xs members i in
          parts_same call fields (statements_same (class_same i) first fields.behind xs i) i

  -- the code of a source, and its body

  pub code_same : (s : Source) → name_span P s.method ≡ name_span Q s.method → code_of P s ≡ code_of Q s
  code_same s named = λ i. whole_same s.method named (count_same s.method s.body i) (entry_same s.method s.parameters i) s.body s.members i

  pub body_same : (s : Source) → name_span P s.method ≡ name_span Q s.method → body_of_source P s ≡ body_of_source Q s
  body_same s named = λ i. a_body s.method (count_same s.method s.body i) (code_same s named i)
