-- The rows of bodies depend on a program's classes, fields and methods alone.
use Rattle.std.proofs.Common.{◌≡◌, ℕ, Bool, cond, not, ◌&&◌, ◌||◌, List, [], ◌∷◌, ◌++◌, length, Option, Some, None, refl, ap, ◌∙◌, eqb}
use Rattle.jn_base.specs.declared.code.Code.TheVariants.{J1, J2, J5}
use Rattle.jn_base.specs.declared.place.Row.{Row}
use Rattle.jn_base.specs.declared.place.Span.{Span}
use Rattle.jn_quals.specs.Qualifier.{Qualifier}
use Rattle.jn_trees.specs.declared.expression.Annotation.{Annotation}
use Rattle.jn_trees.specs.declared.expression.Base.{Base}
use Rattle.jn_trees.specs.declared.expression.BinaryOperator.{BinaryOperator}
use Rattle.jn_trees.specs.declared.expression.Identifier.{Identifier}
use Rattle.jn_trees.specs.declared.statement.LocalModifier.{LocalModifier}
use Rattle.jn_points.specs.declared.point.BaseType.{BaseType}
use Rattle.jn_points.specs.declared.point.BaseType.TheVariants.{Ref}
use Rattle.jn_points.specs.declared.program.Program.{Program}
use Rattle.jn_points.specs.BaseRows.{is_string}
use Rattle.jn_points.specs.Lookup.{class_info, ctor_of, elem_base, interface_of, is_array, is_ref_base, method_at, parent_of}
use Rattle.jn_points.specs.Members.{constructor_of, declared_field, field_of, method_of}
use Rattle.jn_places.specs.Placed.{PlacedTree, PlacedTrees, NoPlacedTrees, MorePlacedTrees, PlacedTypeUse, PlacedLiteral, PlacedName, PlacedThis, PlacedParen, PlacedField, PlacedCall, PlacedOwnCall, PlacedSuperCall, PlacedIndex, PlacedNew, PlacedNewArray, PlacedArrayOf, PlacedPostfix, PlacedPrefix, PlacedUnary, PlacedCast, PlacedBinary, PlacedInstanceOf, PlacedConditional, PlacedAssign, PlacedDeclarator, PlacedLocal, PlacedInit, PlacedExpressions, PlacedDeclaration, PlacedMember, PlacedStatement, PlacedStatements, PlacedBlock, PlacedEmpty, PlacedExpression, PlacedBreak, PlacedContinue, PlacedReturn, PlacedLocalStatement, PlacedIf, PlacedIfElse, PlacedWhile, PlacedDo, PlacedFor, PlacedForEach, PlacedThisCall, PlacedSuperCallStatement, NoPlacedStatements, MorePlacedStatements}
use Rattle.jn_known.specs.Known.{equals_name, is_object_member}
use Rattle.jn_lowering.specs.Scopes.{Scope, Meaning, LocalMeant, FieldMeant, ClassMeant, SystemMeant, NothingMeant, Access, ClassField, ObjectField, ArrayLength, NoField, Callee, Println, OfText, ClassMethod, ObjectMethod, NoMethod, access, before_dot, callee, class_named, count, meaning, super_method, text_callee}
use Rattle.jn_lowering.specs.Bases.{is_class_use, is_equality, type_of}
use Rattle.jn_lowering.specs.Forms.{Condition, Value}
use Rattle.jn_lowering.specs.Calls.{is_static}
use Rattle.jn_lowering.specs.Expressions.{is_null}
use Rattle.jn_lowering.specs.Annotations.{annotation_rows, base_rows, both_kinds, known_class, nullity_alone, row, type_rows, unless, when}
use Rattle.jn_lowering.specs.Locals.{State, annotations_of, declares, has_final, has_value, with_temporaries}
use Rattle.jn_lowering.specs.Statements.{Step, declarator, each_array, each_element, each_start, each_state, each_tested, fresh, init, local_bound, local_type, optional_test, statement, tested_in}
use Rattle.jn_lowering.specs.ExpressionRows.{Setting, abstract_class, access_rows, array_rows, assigned_access_rows, assigned_name_rows, assigned_rows, call_rows, class_field_rows, class_method_rows, ctor_rows, dotted_call_rows, equality_rows, index_rows, inner_span, is_text, is_this, is_wide, name_rows, new_rows, object_field_rows, object_method_rows, own_method_rows, reference_method_rows, rows_of, rows_of_all, string_method_rows, super_method_rows, value_field_rows, value_method_rows}
use Rattle.jn_lowering.specs.StatementRows
use Rattle.jn_lowering.specs.StatementRows.{all_rows, declaration_rows, declarator_rows, declarators_rows, declared_rows, effect_rows, init_rows, optional_rows, rows_in, statement_rows, use_rows}
use Rattle.jn_lowering.specs.Bodies.{Source, at_entry, call_of, calls_own, class, declarators_of, fields_of, is_under_object, local_count, name_span, parent}
use Rattle.jn_lowering.specs.BodyRows.{construction_rows, ctor_call_rows, field_rows, in_body, in_initializer, initializer_rows, initializers_rows, member_rows, no_this, rows_of_source, whole_rows}
use Rattle.jn_meaning.proofs.SameNames.{access_same, before_same, both_same, callee_same, field_same, known_same, meaning_same, method_same, other, rows_same, super_same, type_same, use_same}
use Rattle.jn_meaning.proofs.SameForms.{four_same, three_same}
use Rattle.jn_meaning.proofs.SameBodies.{call_of_same, declarator_same, fields_of_same, init_same, optional_same, parent_is, statement_same, tested_same, value_same}

module _ (P rest : Program) where
  abbrev Q : Program
  Q = other P rest

  abbrev joined : List Row → List Row → List Row
  joined x y = x ++ y

  module _ (c : ℕ) where
    class_field_same : (o : Option ℕ) (span : Span) → class_field_rows Q c o span ≡ class_field_rows P c o span
    class_field_same None span = refl
    class_field_same (Some f) span = refl

    object_field_same : (o : Option ℕ) (span : Span) → object_field_rows Q c o span ≡ object_field_rows P c o span
    object_field_same None span = refl
    object_field_same (Some f) span = refl

    value_field_same : (b : BaseType) (n : ℕ) (span : Span) → value_field_rows Q c b n span ≡ value_field_rows P c b n span
    value_field_same (Ref k) n span = ap (λ r. cond (eqb k.0 1) (row J5 span) r) (object_field_same (field_of Q k.0 n) span ∙ ap (λ o. object_field_rows P c o span) (field_same P rest k.0 n))
    value_field_same b n span = refl

    access_rows_same : (m : Meaning) (b : BaseType) (rows : List Row) (n : ℕ) (span : Span) → access_rows Q c m b rows n span ≡ access_rows P c m b rows n span
    access_rows_same (ClassMeant k) b rows n span = ap (λ r. cond (eqb k 1) (row J5 span) r) (class_field_same (field_of Q k n) span ∙ ap (λ o. class_field_rows P c o span) (field_same P rest k n))
    access_rows_same SystemMeant b rows n span = refl
    access_rows_same (LocalMeant l) b rows n span = ap (λ r. rows ++ unless rows r) (value_field_same b n span)
    access_rows_same (FieldMeant f) b rows n span = ap (λ r. rows ++ unless rows r) (value_field_same b n span)
    access_rows_same NothingMeant b rows n span = ap (λ r. rows ++ unless rows r) (value_field_same b n span)

    class_method_same : (o : Option ℕ) (span : Span) → class_method_rows Q c o span ≡ class_method_rows P c o span
    class_method_same None span = refl
    class_method_same (Some m) span = refl

    object_method_same : (o : Option ℕ) (span : Span) → object_method_rows Q c o span ≡ object_method_rows P c o span
    object_method_same None span = refl
    object_method_same (Some m) span = refl

    reference_same : (b : BaseType) (n arity : ℕ) (span : Span) → reference_method_rows Q c b n arity span ≡ reference_method_rows P c b n arity span
    reference_same (Ref k) n arity span = object_method_same (method_of Q k.0 n arity) span ∙ ap (λ o. object_method_rows P c o span) (method_same P rest k.0 n arity)
    reference_same b n arity span = refl

    value_method_same : (b : BaseType) (n arity : ℕ) (span : Span) → value_method_rows Q c b n arity span ≡ value_method_rows P c b n arity span
    value_method_same b n arity span = ap (λ r. cond (is_string b) (when (not (is_text (text_callee n arity))) (row J5 span)) (cond (eqb n equals_name) (row J5 span) r)) (reference_same b n arity span)

    call_rows_same : (m : Meaning) (b : BaseType) (rows args : List Row) (n arity : ℕ) (span : Span) → call_rows Q c m b rows args n arity span ≡ call_rows P c m b rows args n arity span
    call_rows_same (ClassMeant k) b rows args n arity span = ap (λ r. args ++ cond (eqb k 1) (string_method_rows P n arity span) (cond (is_object_member n) (row J5 span) r)) (class_method_same (method_of Q k n arity) span ∙ ap (λ o. class_method_rows P c o span) (method_same P rest k n arity))
    call_rows_same SystemMeant b rows args n arity span = refl
    call_rows_same (LocalMeant l) b rows args n arity span = ap (λ r. rows ++ (args ++ cond (is_object_member n && not (eqb n equals_name)) (row J5 span) (unless rows r))) (value_method_same b n arity span)
    call_rows_same (FieldMeant f) b rows args n arity span = ap (λ r. rows ++ (args ++ cond (is_object_member n && not (eqb n equals_name)) (row J5 span) (unless rows r))) (value_method_same b n arity span)
    call_rows_same NothingMeant b rows args n arity span = ap (λ r. rows ++ (args ++ cond (is_object_member n && not (eqb n equals_name)) (row J5 span) (unless rows r))) (value_method_same b n arity span)

    dotted_rows_same : (k : Callee) (m : Meaning) (b : BaseType) (rows args : List Row) (n arity : ℕ) (span : Span) → dotted_call_rows Q c k m b rows args n arity span ≡ dotted_call_rows P c k m b rows args n arity span
    dotted_rows_same Println m b rows args n arity span = refl
    dotted_rows_same (OfText op) m b rows args n arity span = call_rows_same m b rows args n arity span
    dotted_rows_same (ClassMethod k) m b rows args n arity span = call_rows_same m b rows args n arity span
    dotted_rows_same (ObjectMethod k) m b rows args n arity span = call_rows_same m b rows args n arity span
    dotted_rows_same NoMethod m b rows args n arity span = call_rows_same m b rows args n arity span

    own_method_same : (at : Setting) (o : Option ℕ) (span : Span) → own_method_rows Q at o span ≡ own_method_rows P at o span
    own_method_same at None span = refl
    own_method_same at (Some m) span = refl

    super_rows_same : (o : Option ℕ) (span : Span) → super_method_rows Q c o span ≡ super_method_rows P c o span
    super_rows_same None span = refl
    super_rows_same (Some m) span = refl

    ctor_rows_same : (o : Option ℕ) (span : Span) → ctor_rows Q c o span ≡ ctor_rows P c o span
    ctor_rows_same None span = refl
    ctor_rows_same (Some m) span = refl

    new_rows_same : (o : Option ℕ) (arity : ℕ) (span : Span) → new_rows Q c o arity span ≡ new_rows P c o arity span
    new_rows_same None arity span = refl
    new_rows_same (Some k) arity span = ap (λ r. when (interface_of (class_info P k) || abstract_class (class_info P k)) (row J2 span) ++ r) (ctor_rows_same (constructor_of P k arity) span)

    array_rows_same : (b : Base) (xs : List Annotation) → array_rows Q b xs ≡ array_rows P b xs
    array_rows_same b xs = ap (λ r. annotation_rows nullity_alone (is_class_use b) xs ++ r) (rows_same P rest b)

    wide_same : (b : BaseType) → is_wide Q b ≡ is_wide P b
    wide_same (Ref k) = refl
    wide_same b = refl

    equality_same : (o : BinaryOperator) (null : Bool) (a b : BaseType) (span : Span) → equality_rows Q o null a b span ≡ equality_rows P o null a b span
    equality_same o null a b span = both_same (λ x y. when (is_equality o && (not null && ((is_ref_base a && is_ref_base b) && (x || y)))) (row J5 span)) (is_wide Q a) (is_wide P a) (is_wide Q b) (is_wide P b) (wide_same a) (wide_same b)

    module _ (at : Setting) where
      name_rows_same : (m : Meaning) (span : Span) → name_rows Q c at m span ≡ name_rows P c at m span
      name_rows_same (LocalMeant l) span = refl
      name_rows_same (FieldMeant f) span = refl
      name_rows_same (ClassMeant k) span = refl
      name_rows_same SystemMeant span = refl
      name_rows_same NothingMeant span = refl

      assigned_name_same : (m : Meaning) (span : Span) → assigned_name_rows Q c at m span ≡ assigned_name_rows P c at m span
      assigned_name_same (LocalMeant l) span = refl
      assigned_name_same (FieldMeant f) span = refl
      assigned_name_same (ClassMeant k) span = refl
      assigned_name_same SystemMeant span = refl
      assigned_name_same NothingMeant span = refl

      assigned_access_same : (a : Access) (this : Bool) (span : Span) → assigned_access_rows Q c at a this span ≡ assigned_access_rows P c at a this span
      assigned_access_same (ClassField f) this span = refl
      assigned_access_same (ObjectField f) this span = refl
      assigned_access_same ArrayLength this span = refl
      assigned_access_same NoField this span = refl

      abbrev RQ : Scope → PlacedTree → List Row
      RQ s e = rows_of Q c at s e

      abbrev RP : Scope → PlacedTree → List Row
      RP s e = rows_of P c at s e

      abbrev TQ : Scope → PlacedTree → BaseType
      TQ s e = type_of Q c s e

      abbrev TP : Scope → PlacedTree → BaseType
      TP s e = type_of P c s e

      field_access : (s : Scope) (e : PlacedTree) (n : Identifier) → RQ s e ≡ RP s e → access_rows Q c (before_dot Q c s e) (TQ s e) (RQ s e) n.name.0 n.span ≡ access_rows P c (before_dot P c s e) (TP s e) (RP s e) n.name.0 n.span
      field_access s e n h = access_rows_same (before_dot Q c s e) (TQ s e) (RQ s e) n.name.0 n.span
          ∙ three_same (λ m b r. access_rows P c m b r n.name.0 n.span) (before_dot Q c s e) (before_dot P c s e) (TQ s e) (TP s e) (RQ s e) (RP s e) (before_same P rest c s e) (type_same P rest c s e) h

      mutual
        pub rows_of_same : (s : Scope) (e : PlacedTree) → rows_of Q c at s e ≡ rows_of P c at s e
        rows_of_same s (PlacedLiteral l span) = refl
        rows_of_same s (PlacedName n) = name_rows_same (meaning Q c s n.name.0) n.span ∙ ap (λ m. name_rows P c at m n.span) (meaning_same P rest c s n.name.0)
        rows_of_same s (PlacedThis span) = refl
        rows_of_same s (PlacedParen e span) = rows_of_same s e
        rows_of_same s (PlacedField e n span) = field_access s e n (rows_of_same s e)
        rows_of_same s (PlacedCall e n es span) =
            let kq : Callee = callee Q c s e (TQ s e) n.name.0 (count es) in
            let kp : Callee = callee P c s e (TP s e) n.name.0 (count es) in
            let k : kq ≡ kp = callee_same P rest c s e (TQ s e) n.name.0 (count es) ∙ ap (λ b. callee P c s e b n.name.0 (count es)) (type_same P rest c s e) in
            dotted_rows_same kq (before_dot Q c s e) (TQ s e) (RQ s e) (rows_of_all Q c at s es) n.name.0 (count es) n.span
            ∙ three_same (λ k m b. dotted_call_rows P c k m b (RQ s e) (rows_of_all Q c at s es) n.name.0 (count es) n.span) kq kp (before_dot Q c s e) (before_dot P c s e) (TQ s e) (TP s e) k (before_same P rest c s e) (type_same P rest c s e)
            ∙ both_same (λ r a. dotted_call_rows P c kp (before_dot P c s e) (TP s e) r a n.name.0 (count es) n.span) (RQ s e) (RP s e) (rows_of_all Q c at s es) (rows_of_all P c at s es) (rows_of_same s e) (all_same s es)
        rows_of_same s (PlacedOwnCall n es span) =
            both_same (λ a r. a ++ cond (is_object_member n.name.0) (row J5 n.span) r) (rows_of_all Q c at s es) (rows_of_all P c at s es) (own_method_rows Q at (method_of Q c n.name.0 (count es)) n.span) (own_method_rows P at (method_of P c n.name.0 (count es)) n.span) (all_same s es)
            (own_method_same at (method_of Q c n.name.0 (count es)) n.span ∙ ap (λ o. own_method_rows P at o n.span) (method_same P rest c n.name.0 (count es)))
        rows_of_same s (PlacedSuperCall n es span) =
            both_same (λ a r. when (not at.this_stands) (row J1 span) ++ (a ++ cond (is_object_member n.name.0) (row J5 n.span) (when at.this_stands r))) (rows_of_all Q c at s es) (rows_of_all P c at s es) (super_method_rows Q c (super_method Q c n.name.0 (count es)) n.span) (super_method_rows P c (super_method P c n.name.0 (count es)) n.span) (all_same s es)
            (super_rows_same (super_method Q c n.name.0 (count es)) n.span ∙ ap (λ o. super_method_rows P c o n.span) (super_same P rest c n.name.0 (count es)))
        rows_of_same s (PlacedIndex a i span) = three_same (λ b x y. index_rows P c at b x y (inner_span a)) (TQ s a) (TP s a) (RQ s a) (RP s a) (RQ s i) (RP s i) (type_same P rest c s a) (rows_of_same s a) (rows_of_same s i)
        rows_of_same s (PlacedNew n es span) = both_same joined (rows_of_all Q c at s es) (rows_of_all P c at s es) (new_rows Q c (class_named P n.name.0) (count es) n.span) (new_rows P c (class_named P n.name.0) (count es) n.span) (all_same s es) (new_rows_same (class_named P n.name.0) (count es) n.span)
        rows_of_same s (PlacedNewArray annotations base size span) = both_same joined (array_rows Q base annotations) (array_rows P base annotations) (RQ s size) (RP s size) (array_rows_same base annotations) (rows_of_same s size)
        rows_of_same s (PlacedArrayOf annotations base es span) = both_same joined (array_rows Q base annotations) (array_rows P base annotations) (rows_of_all Q c at s es) (rows_of_all P c at s es) (array_rows_same base annotations) (all_same s es)
        rows_of_same s (PlacedPostfix e step span) = assigned_same s e
        rows_of_same s (PlacedPrefix step e span) = assigned_same s e
        rows_of_same s (PlacedUnary o e span) = rows_of_same s e
        rows_of_same s (PlacedCast n e span) = both_same joined (known_class Q (class_named P n.name.0) n.span) (known_class P (class_named P n.name.0) n.span) (RQ s e) (RP s e) (known_same P rest (class_named P n.name.0) n.span) (rows_of_same s e)
        rows_of_same s (PlacedBinary a o b span) =
            let null : Bool = is_null a || is_null b in
            three_same (λ x y r. x ++ (y ++ unless (x ++ y) r)) (RQ s a) (RP s a) (RQ s b) (RP s b) (equality_rows Q o null (TQ s a) (TQ s b) span) (equality_rows P o null (TP s a) (TP s b) span) (rows_of_same s a) (rows_of_same s b)
            (equality_same o null (TQ s a) (TQ s b) span ∙ both_same (λ x y. equality_rows P o null x y span) (TQ s a) (TP s a) (TQ s b) (TP s b) (type_same P rest c s a) (type_same P rest c s b))
        rows_of_same s (PlacedInstanceOf e n span) = both_same joined (known_class Q (class_named P n.name.0) n.span) (known_class P (class_named P n.name.0) n.span) (RQ s e) (RP s e) (known_same P rest (class_named P n.name.0) n.span) (rows_of_same s e)
        rows_of_same s (PlacedConditional q a b span) = three_same (λ x y z. x ++ (y ++ z)) (RQ s q) (RP s q) (RQ s a) (RP s a) (RQ s b) (RP s b) (rows_of_same s q) (rows_of_same s a) (rows_of_same s b)
        rows_of_same s (PlacedAssign target o e span) = both_same joined (assigned_rows Q c at s target) (assigned_rows P c at s target) (RQ s e) (RP s e) (assigned_same s target) (rows_of_same s e)

        assigned_same : (s : Scope) (e : PlacedTree) → assigned_rows Q c at s e ≡ assigned_rows P c at s e
        assigned_same s (PlacedName n) = assigned_name_same (meaning Q c s n.name.0) n.span ∙ ap (λ m. assigned_name_rows P c at m n.span) (meaning_same P rest c s n.name.0)
        assigned_same s (PlacedField e n span) =
            both_same (λ x y. x ++ unless x y) (access_rows Q c (before_dot Q c s e) (TQ s e) (RQ s e) n.name.0 n.span) (access_rows P c (before_dot P c s e) (TP s e) (RP s e) n.name.0 n.span)
            (assigned_access_rows Q c at (access Q c s e (TQ s e) n.name.0) (is_this e) span) (assigned_access_rows P c at (access P c s e (TP s e) n.name.0) (is_this e) span) (field_access s e n (rows_of_same s e))
            (assigned_access_same (access Q c s e (TQ s e) n.name.0) (is_this e) span ∙ ap (λ a. assigned_access_rows P c at a (is_this e) span) (access_same P rest c s e (TQ s e) n.name.0 ∙ ap (λ b. access P c s e b n.name.0) (type_same P rest c s e)))
        assigned_same s (PlacedIndex a i span) = three_same (λ b x y. index_rows P c at b x y (inner_span a)) (TQ s a) (TP s a) (RQ s a) (RP s a) (RQ s i) (RP s i) (type_same P rest c s a) (rows_of_same s a) (rows_of_same s i)
        assigned_same s e = refl

        pub all_same : (s : Scope) (es : PlacedTrees) → rows_of_all Q c at s es ≡ rows_of_all P c at s es
        all_same s NoPlacedTrees = refl
        all_same s (MorePlacedTrees e es) = both_same joined (RQ s e) (RP s e) (rows_of_all Q c at s es) (rows_of_all P c at s es) (rows_of_same s e) (all_same s es)

  module _ (c : ℕ) (first : ℕ) (at : Setting) where
    in_same : (st : State) (e : PlacedTree) → rows_in Q c first at st e ≡ rows_in P c first at st e
    in_same st e = rows_of_same c at st.scope e

    optional_rows_same : (st : State) (o : Option PlacedTree) → optional_rows Q c first at st o ≡ optional_rows P c first at st o
    optional_rows_same st None = refl
    optional_rows_same st (Some e) = in_same st e

    module _ (base : BaseType) (bound : Option Qualifier) (is_final : Bool) (faults : List Row) where
      declarators_rows_same : (st : State) (ds : List PlacedDeclarator) → declarators_rows Q c first at base bound is_final faults st ds ≡ declarators_rows P c first at base bound is_final faults st ds
      declarators_rows_same st [] = refl
      declarators_rows_same st (d ∷ ds) =
          let xq : Step = declarator Q c first base bound is_final faults st d in
          let xp : Step = declarator P c first base bound is_final faults st d in
          both_same joined (declarator_rows Q c first at base bound is_final faults st d) (declarator_rows P c first at base bound is_final faults st d) (declarators_rows Q c first at base bound is_final faults xq.behind ds) (declarators_rows P c first at base bound is_final faults xp.behind ds)
          (ap (λ r. declared_rows st.scope d.name.name.0 d.name.span ++ r) (optional_rows_same (declares st d.name.name.0 base bound (is_final && has_value d) faults) d.value))
          (declarators_rows_same xq.behind ds ∙ ap (λ (x : Step). declarators_rows P c first at base bound is_final faults x.behind ds) (declarator_same P rest c first base bound is_final faults st d))

    use_rows_same : (marks : List LocalModifier) (u : PlacedTypeUse) → use_rows Q c first at marks u ≡ use_rows P c first at marks u
    use_rows_same marks u = ap (λ r. type_rows u both_kinds (annotations_of marks) ++ r) (rows_same P rest u.base)

    declaration_rows_same : (st : State) (l : PlacedLocal) → declaration_rows Q c first at st l ≡ declaration_rows P c first at st l
    declaration_rows_same st l =
        let bound : Option Qualifier = local_bound P c first l.marks l.type_use in
        let bq : BaseType = local_type Q c first l.marks l.type_use in
        let bp : BaseType = local_type P c first l.marks l.type_use in
        both_same joined (use_rows Q c first at l.marks l.type_use) (use_rows P c first at l.marks l.type_use)
        (declarators_rows Q c first at bq bound (has_final l.marks) (base_rows Q l.type_use.base) st (l.first ∷ l.more)) (declarators_rows P c first at bp bound (has_final l.marks) (base_rows P l.type_use.base) st (l.first ∷ l.more))
        (use_rows_same l.marks l.type_use)
        (declarators_rows_same bq bound (has_final l.marks) (base_rows Q l.type_use.base) st (l.first ∷ l.more)
        ∙ both_same (λ b f. declarators_rows P c first at b bound (has_final l.marks) f st (l.first ∷ l.more)) bq bp (base_rows Q l.type_use.base) (base_rows P l.type_use.base) (use_same P rest l.type_use (annotations_of l.marks)) (rows_same P rest l.type_use.base))

    effect_rows_same : (st : State) (es : PlacedTrees) → effect_rows Q c first at st es ≡ effect_rows P c first at st es
    effect_rows_same st es = all_same c at st.scope es

    init_rows_same : (st : State) (i : PlacedInit) → init_rows Q c first at st i ≡ init_rows P c first at st i
    init_rows_same st (PlacedExpressions es) = effect_rows_same st es
    init_rows_same st (PlacedDeclaration l) = declaration_rows_same st l

    each_rows_same : (st : State) (e : PlacedTree) → StatementRows.array_rows Q c first at st e ≡ StatementRows.array_rows P c first at st e
    each_rows_same st e = both_same (λ r b. r ++ unless r (when (not (is_array b)) (row J2 (inner_span e)))) (rows_in Q c first at st e) (rows_in P c first at st e) (type_of Q c st.scope e) (type_of P c st.scope e) (in_same st e) (type_same P rest c st.scope e)

    abbrev SQ : State → PlacedStatement → List Row
    SQ st x = statement_rows Q c first at st x

    abbrev SP : State → PlacedStatement → List Row
    SP st x = statement_rows P c first at st x

    mutual
      statement_rows_same : (st : State) (x : PlacedStatement) → statement_rows Q c first at st x ≡ statement_rows P c first at st x
      statement_rows_same st (PlacedBlock body span) = all_rows_same st body
      statement_rows_same st (PlacedEmpty span) = refl
      statement_rows_same st (PlacedExpression e span) = in_same st e
      statement_rows_same st (PlacedBreak span) = refl
      statement_rows_same st (PlacedContinue span) = refl
      statement_rows_same st (PlacedReturn value span) = optional_rows_same st value
      statement_rows_same st (PlacedLocalStatement l span) = declaration_rows_same (fresh st) l
      statement_rows_same st (PlacedIf q body span) =
          let tq : Condition = tested_in Q c first (fresh st) q in
          let tp : Condition = tested_in P c first (fresh st) q in
          both_same joined (rows_in Q c first at st q) (rows_in P c first at st q) (SQ (with_temporaries st tq.behind) body) (SP (with_temporaries st tp.behind) body) (in_same st q)
          (statement_rows_same (with_temporaries st tq.behind) body ∙ ap (λ (t : Condition). SP (with_temporaries st t.behind) body) (tested_same P rest c first (fresh st) q))
      statement_rows_same st (PlacedIfElse q body other' span) =
          let tq : Condition = tested_in Q c first (fresh st) q in
          let tp : Condition = tested_in P c first (fresh st) q in
          let t : tq ≡ tp = tested_same P rest c first (fresh st) q in
          let xq : Step = statement Q c first (with_temporaries st tq.behind) body in
          let xp : Step = statement P c first (with_temporaries st tp.behind) body in
          let x : xq ≡ xp = statement_same P rest c first (with_temporaries st tq.behind) body ∙ ap (λ (t : Condition). statement P c first (with_temporaries st t.behind) body) t in
          three_same (λ x y z. x ++ (y ++ z)) (rows_in Q c first at st q) (rows_in P c first at st q) (SQ (with_temporaries st tq.behind) body) (SP (with_temporaries st tp.behind) body) (SQ xq.behind other') (SP xp.behind other') (in_same st q)
          (statement_rows_same (with_temporaries st tq.behind) body ∙ ap (λ (t : Condition). SP (with_temporaries st t.behind) body) t)
          (statement_rows_same xq.behind other' ∙ ap (λ (x : Step). SP x.behind other') x)
      statement_rows_same st (PlacedWhile q body span) =
          let tq : Condition = tested_in Q c first (fresh st) q in
          let tp : Condition = tested_in P c first (fresh st) q in
          both_same joined (rows_in Q c first at st q) (rows_in P c first at st q) (SQ (with_temporaries st tq.behind) body) (SP (with_temporaries st tp.behind) body) (in_same st q)
          (statement_rows_same (with_temporaries st tq.behind) body ∙ ap (λ (t : Condition). SP (with_temporaries st t.behind) body) (tested_same P rest c first (fresh st) q))
      statement_rows_same st (PlacedDo body q span) =
          let xq : Step = statement Q c first (fresh st) body in
          let xp : Step = statement P c first (fresh st) body in
          both_same joined (SQ (fresh st) body) (SP (fresh st) body) (rows_in Q c first at xq.behind q) (rows_in P c first at xp.behind q) (statement_rows_same (fresh st) body)
          (in_same xq.behind q ∙ ap (λ (x : Step). rows_in P c first at x.behind q) (statement_same P rest c first (fresh st) body))
      statement_rows_same st (PlacedFor start q update body span) =
          let iq : Step = init Q c first (fresh st) start in
          let ip : Step = init P c first (fresh st) start in
          let i : iq ≡ ip = init_same P rest c first (fresh st) start in
          let tq : Condition = optional_test Q c first iq.behind q in
          let tp : Condition = optional_test P c first ip.behind q in
          let t : tq ≡ tp = optional_same P rest c first iq.behind q ∙ ap (λ (i : Step). optional_test P c first i.behind q) i in
          let xq : Step = statement Q c first (with_temporaries iq.behind tq.behind) body in
          let xp : Step = statement P c first (with_temporaries ip.behind tp.behind) body in
          let x : xq ≡ xp = statement_same P rest c first (with_temporaries iq.behind tq.behind) body ∙ both_same (λ (i : Step) (t : Condition). statement P c first (with_temporaries i.behind t.behind) body) iq ip tq tp i t in
          four_same (λ a b d e. a ++ (b ++ (d ++ e))) (init_rows Q c first at (fresh st) start) (init_rows P c first at (fresh st) start) (optional_rows Q c first at iq.behind q) (optional_rows P c first at ip.behind q) (SQ (with_temporaries iq.behind tq.behind) body) (SP (with_temporaries ip.behind tp.behind) body) (effect_rows Q c first at xq.behind update) (effect_rows P c first at xp.behind update)
          (init_rows_same (fresh st) start)
          (optional_rows_same iq.behind q ∙ ap (λ (i : Step). optional_rows P c first at i.behind q) i)
          (statement_rows_same (with_temporaries iq.behind tq.behind) body ∙ both_same (λ (i : Step) (t : Condition). SP (with_temporaries i.behind t.behind) body) iq ip tq tp i t)
          (effect_rows_same xq.behind update ∙ ap (λ (x : Step). effect_rows P c first at x.behind update) x)
      statement_rows_same st (PlacedForEach marks u name array body span) =
          let r : ℕ = length st.locals in
          let bound : Option Qualifier = local_bound P c first marks u in
          let vq : Value = each_array Q c first (fresh st) array in
          let vp : Value = each_array P c first (fresh st) array in
          let v : vq ≡ vp = ap (λ (v : Value). each_start P c first v.operand.span r v) (value_same P rest c first (fresh st) array) in
          let tq : BaseType = type_of Q c st.scope array in
          let tp : BaseType = type_of P c st.scope array in
          let bq : BaseType = local_type Q c first marks u in
          let bp : BaseType = local_type P c first marks u in
          let sq : State = each_state P c first st tq bq name.name.0 bound (has_final marks) (base_rows Q u.base) (each_element P c first vq.operand.span r (elem_base tq) (each_tested P c first vq.operand.span r vq.behind).behind).behind in
          let sp : State = each_state P c first st tp bp name.name.0 bound (has_final marks) (base_rows P u.base) (each_element P c first vp.operand.span r (elem_base tp) (each_tested P c first vp.operand.span r vp.behind).behind).behind in
          let s : sq ≡ sp = four_same (λ (v : Value) t b f. each_state P c first st t b name.name.0 bound (has_final marks) f (each_element P c first v.operand.span r (elem_base t) (each_tested P c first v.operand.span r v.behind).behind).behind) vq vp tq tp bq bp (base_rows Q u.base) (base_rows P u.base) v (type_same P rest c st.scope array) (use_same P rest u (annotations_of marks)) (rows_same P rest u.base) in
          three_same (λ x y z. x ++ (y ++ (declared_rows st.scope name.name.0 name.span ++ z))) (use_rows Q c first at marks u) (use_rows P c first at marks u) (StatementRows.array_rows Q c first at st array) (StatementRows.array_rows P c first at st array) (SQ sq body) (SP sp body)
          (use_rows_same marks u) (each_rows_same st array) (statement_rows_same sq body ∙ ap (λ s. SP s body) s)
      statement_rows_same st (PlacedThisCall es span) = refl
      statement_rows_same st (PlacedSuperCallStatement es span) = refl

      all_rows_same : (st : State) (xs : PlacedStatements) → all_rows Q c first at st xs ≡ all_rows P c first at st xs
      all_rows_same st NoPlacedStatements = refl
      all_rows_same st (MorePlacedStatements x xs) =
          let xq : Step = statement Q c first st x in
          let xp : Step = statement P c first st x in
          both_same joined (SQ st x) (SP st x) (all_rows Q c first at xq.behind xs) (all_rows P c first at xp.behind xs) (statement_rows_same st x)
          (all_rows_same xq.behind xs ∙ ap (λ (x : Step). all_rows P c first at x.behind xs) (statement_same P rest c first st x))

  module _ (m : ℕ) where
    ctor_call_rows_same : (st : State) (k : ℕ) (es : PlacedTrees) (span : Span) → ctor_call_rows Q m st k es span ≡ ctor_call_rows P m st k es span
    ctor_call_rows_same st k es span = both_same joined (rows_of_all Q (class P m) no_this st.scope es) (rows_of_all P (class P m) no_this st.scope es) (ctor_rows Q (class P m) (constructor_of P k (count es)) span) (ctor_rows P (class P m) (constructor_of P k (count es)) span)
        (all_same (class P m) no_this st.scope es) (ctor_rows_same (class P m) (constructor_of P k (count es)) span)

    unwritten_rows_same : (st : State) → when (not (is_under_object (parent_of (class_info P (class P m))))) (ctor_call_rows Q m st (parent Q m) NoPlacedTrees (name_span P m)) ≡ when (not (is_under_object (parent_of (class_info P (class P m))))) (ctor_call_rows P m st (parent P m) NoPlacedTrees (name_span P m))
    unwritten_rows_same st = ap (λ r. when (not (is_under_object (parent_of (class_info P (class P m))))) r) (ctor_call_rows_same st (parent Q m) NoPlacedTrees (name_span P m) ∙ ap (λ k. ctor_call_rows P m st k NoPlacedTrees (name_span P m)) (parent_is P rest m 0))

    construction_rows_same : (st : State) (xs : PlacedStatements) → construction_rows Q m st xs ≡ construction_rows P m st xs
    construction_rows_same st (MorePlacedStatements (PlacedThisCall es span) xs) = ctor_call_rows_same st (class P m) es span
    construction_rows_same st (MorePlacedStatements (PlacedSuperCallStatement es span) xs) = ctor_call_rows_same st (parent Q m) es span ∙ ap (λ k. ctor_call_rows P m st k es span) (parent_is P rest m 0)
    construction_rows_same st NoPlacedStatements = unwritten_rows_same st
    construction_rows_same st (MorePlacedStatements (PlacedBlock a b) xs) = unwritten_rows_same st
    construction_rows_same st (MorePlacedStatements (PlacedEmpty a) xs) = unwritten_rows_same st
    construction_rows_same st (MorePlacedStatements (PlacedExpression a b) xs) = unwritten_rows_same st
    construction_rows_same st (MorePlacedStatements (PlacedBreak a) xs) = unwritten_rows_same st
    construction_rows_same st (MorePlacedStatements (PlacedContinue a) xs) = unwritten_rows_same st
    construction_rows_same st (MorePlacedStatements (PlacedReturn a b) xs) = unwritten_rows_same st
    construction_rows_same st (MorePlacedStatements (PlacedLocalStatement a b) xs) = unwritten_rows_same st
    construction_rows_same st (MorePlacedStatements (PlacedIf a b d) xs) = unwritten_rows_same st
    construction_rows_same st (MorePlacedStatements (PlacedIfElse a b d e) xs) = unwritten_rows_same st
    construction_rows_same st (MorePlacedStatements (PlacedWhile a b d) xs) = unwritten_rows_same st
    construction_rows_same st (MorePlacedStatements (PlacedDo a b d) xs) = unwritten_rows_same st
    construction_rows_same st (MorePlacedStatements (PlacedFor a b d e g) xs) = unwritten_rows_same st
    construction_rows_same st (MorePlacedStatements (PlacedForEach a b d e g h) xs) = unwritten_rows_same st

    field_rows_same : (o : Option ℕ) (e : PlacedTree) → field_rows Q m o e ≡ field_rows P m o e
    field_rows_same None e = refl
    field_rows_same (Some f) e = ap (λ r. when (not (is_static P f)) r) (rows_of_same (class P m) in_initializer [] e)

    initializer_rows_same : (n : ℕ) (o : Option PlacedTree) → initializer_rows Q m n o ≡ initializer_rows P m n o
    initializer_rows_same n None = refl
    initializer_rows_same n (Some e) = field_rows_same (declared_field P (class P m) n (class P m)) e

    initializers_rows_same : (ds : List PlacedDeclarator) → initializers_rows Q m ds ≡ initializers_rows P m ds
    initializers_rows_same [] = refl
    initializers_rows_same (d ∷ ds) = both_same joined (initializer_rows Q m d.name.name.0 d.value) (initializer_rows P m d.name.name.0 d.value) (initializers_rows Q m ds) (initializers_rows P m ds) (initializer_rows_same d.name.name.0 d.value) (initializers_rows_same ds)

    member_rows_same : (xs : List PlacedMember) → member_rows Q m xs ≡ member_rows P m xs
    member_rows_same [] = refl
    member_rows_same (x ∷ xs) = both_same joined (initializers_rows Q m (declarators_of x)) (initializers_rows P m (declarators_of x)) (member_rows Q m xs) (member_rows P m xs) (initializers_rows_same (declarators_of x)) (member_rows_same xs)

    whole_rows_same : (first : ℕ) (st : State) (xs : PlacedStatements) (members : List PlacedMember) → whole_rows Q m first st xs members ≡ whole_rows P m first st xs members
    whole_rows_same first st xs members =
        let b : Bool = ctor_of (method_at P m) in
        let cq : Step = call_of Q m first b st xs in
        let cp : Step = call_of P m first b st xs in
        let fq : Step = fields_of Q m first b cq.behind xs members in
        let fp : Step = fields_of P m first b cp.behind xs members in
        let f : fq ≡ fp = fields_of_same P rest m first b cq.behind xs members ∙ ap (λ (x : Step). fields_of P m first b x.behind xs members) (call_of_same P rest m first b st xs) in
        three_same (λ x y z. when b (x ++ when (not (calls_own xs)) y) ++ z) (construction_rows Q m st xs) (construction_rows P m st xs) (member_rows Q m members) (member_rows P m members) (all_rows Q (class P m) first (in_body P m) fq.behind xs) (all_rows P (class P m) first (in_body P m) fp.behind xs)
        (construction_rows_same st xs) (member_rows_same members) (all_rows_same (class P m) first (in_body P m) fq.behind xs ∙ ap (λ (x : Step). all_rows P (class P m) first (in_body P m) x.behind xs) f)

  pub source_rows_same : (s : Source) → rows_of_source Q s ≡ rows_of_source P s
  source_rows_same s = whole_rows_same s.method (local_count P s.method s.body) (at_entry P s.method s.parameters) s.body s.members
