-- Statements are lowered to the same points, whatever the places of the class table.
use Rattle.std.proofs.Common.{◌≡◌, ℕ, Bool, ◌&&◌, List, [], ◌∷◌, length, Option, Some, None, refl}
use Rattle.jn_base.specs.declared.place.Row.{Row}
use Rattle.jn_base.specs.declared.place.Span.{Span}
use Rattle.jn_quals.specs.Qualifier.{Qualifier}
use Rattle.jn_points.specs.declared.point.BaseType.{BaseType}
use Rattle.jn_points.specs.declared.point.PointKind.TheVariants.{Move, Return}
use Rattle.jn_points.specs.declared.program.Program.{Program}
use Rattle.jn_points.specs.Lookup.{elem_base}
use Rattle.jn_places.specs.Placed.{PlacedTree, PlacedTrees, NoPlacedTrees, MorePlacedTrees, PlacedDeclarator, PlacedLocal, PlacedInit, PlacedExpressions, PlacedDeclaration, PlacedStatement, PlacedStatements, PlacedBlock, PlacedEmpty, PlacedExpression, PlacedBreak, PlacedContinue, PlacedReturn, PlacedLocalStatement, PlacedIf, PlacedIfElse, PlacedWhile, PlacedDo, PlacedFor, PlacedForEach, PlacedThisCall, PlacedSuperCallStatement, NoPlacedStatements, MorePlacedStatements}
use Rattle.jn_lowering.specs.Fragments.{does, then}
use Rattle.jn_lowering.specs.Forms.{Value, Condition, register}
use Rattle.jn_lowering.specs.Expressions.{span_of}
use Rattle.jn_lowering.specs.Locals.{State, annotations_of, declares, has_final, has_value, with_temporaries}
use Rattle.jn_lowering.specs.Statements.{Step, step, fresh, back, keeps_scope, both_steps, with_value, if_form, if_else_form, while_form, do_form, for_form, through, lowered_in, tested_in, effects, returned, initialized, declarator, declarators, local_bound, declaration, init, optional_test, each_start, each_element, each_one, each_next, each_form, each_tested, each_state, statement, statements}
use Rattle.jn_places_law.specs.Bare.{bare}
use Rattle.jn_heads_law.proofs.Meanings.{type_is, type_of_use_is, base_rows_is}
use Rattle.jn_heads_law.proofs.Expressions.{lower_is}

module _ (P : Program) (c first : ℕ) where
  -- expressions in statements

  pub value_is : (st : State) (e : PlacedTree) → lowered_in (bare P) c first st e ≡ lowered_in P c first st e
  value_is st e = λ i. (lower_is P c first st.scope st.temporaries e i).value

  pub test_is : (st : State) (e : PlacedTree) → tested_in (bare P) c first st e ≡ tested_in P c first st e
  test_is st e = λ i. (lower_is P c first st.scope st.temporaries e i).condition

  pub effects_is : (st : State) (es : PlacedTrees) → effects (bare P) c first st es ≡ effects P c first st es
  effects_is st NoPlacedTrees = refl
  effects_is st (MorePlacedTrees e es) = λ i. both_steps (with_value st (value_is st e i)) (effects_is (with_temporaries st (value_is st e i).behind) es i)

  pub returned_is : (span : Span) (st : State) (value : Option PlacedTree) → returned (bare P) c first span st value ≡ returned P c first span st value
  returned_is span st None = refl
  returned_is span st (Some e) = λ i. step (with_temporaries st (value_is st e i).behind) (then (value_is st e i).fragment (does span (Return (Some (value_is st e i).operand))))

  pub optional_is : (st : State) (q : Option PlacedTree) → optional_test (bare P) c first st q ≡ optional_test P c first st q
  optional_is st None = refl
  optional_is st (Some e) = test_is st e

  -- declarations

  initialized_is : (name : Span) (r : ℕ) (bound : Option Qualifier) (st : State) (value : Option PlacedTree) → initialized (bare P) c first name r bound st value ≡ initialized P c first name r bound st value
  initialized_is name r bound st None = refl
  initialized_is name r bound st (Some e) = λ i. step (with_temporaries st (value_is st e i).behind) (then (value_is st e i).fragment (does (through name (span_of e)) (Move (register r) (value_is st e i).operand bound)))

  pub declarator_is : (base : BaseType) (bound : Option Qualifier) (fixed : Bool) (faults : List Row) (st : State) (d : PlacedDeclarator) → declarator (bare P) c first base bound fixed faults st d ≡ declarator P c first base bound fixed faults st d
  declarator_is base bound fixed faults st d = initialized_is d.name.span (length st.locals) bound (declares st d.name.name.0 base bound (fixed && has_value d) faults) d.value

  pub declarators_is : (base : BaseType) (bound : Option Qualifier) (fixed : Bool) (faults : List Row) (st : State) (ds : List PlacedDeclarator) → declarators (bare P) c first base bound fixed faults st ds ≡ declarators P c first base bound fixed faults st ds
  declarators_is base bound fixed faults st [] = refl
  declarators_is base bound fixed faults st (d ∷ ds) = λ i. both_steps (declarator_is base bound fixed faults st d i) (declarators_is base bound fixed faults (declarator_is base bound fixed faults st d i).behind ds i)

  pub declaration_is : (st : State) (l : PlacedLocal) → declaration (bare P) c first st l ≡ declaration P c first st l
  declaration_is st l = λ i. declarators_is (type_of_use_is P l.type_use (annotations_of l.marks) i) (local_bound P c first l.marks l.type_use) (has_final l.marks) (base_rows_is P l.type_use.base i) st (l.first ∷ l.more) i

  pub init_is : (st : State) (x : PlacedInit) → init (bare P) c first st x ≡ init P c first st x
  init_is st (PlacedExpressions es) = effects_is st es
  init_is st (PlacedDeclaration l) = declaration_is st l

  -- each form of a statement, and statements one after the other
  mutual
    pub statement_is : (st : State) (x : PlacedStatement) → statement (bare P) c first st x ≡ statement P c first st x
    statement_is st (PlacedBlock body span) = λ i. back st (statements_is st body i)
    statement_is st (PlacedEmpty span) = refl
    statement_is st (PlacedExpression e span) = λ i. back st (with_value (fresh st) (value_is (fresh st) e i))
    statement_is st (PlacedBreak span) = refl
    statement_is st (PlacedContinue span) = refl
    statement_is st (PlacedReturn value span) = λ i. back st (returned_is span (fresh st) value i)
    statement_is st (PlacedLocalStatement l span) = λ i. keeps_scope st (declaration_is (fresh st) l i)
    statement_is st (PlacedIf q body span) = λ i. back st (if_form (test_is (fresh st) q i) (statement_is (with_temporaries st (test_is (fresh st) q i).behind) body i))
    statement_is st (PlacedIfElse q body other span) = λ i.
        let test : Condition = test_is (fresh st) q i in
        let x : Step = statement_is (with_temporaries st test.behind) body i in
        back st (if_else_form span test x (statement_is x.behind other i))
    statement_is st (PlacedWhile q body span) = λ i. back st (while_form span (test_is (fresh st) q i) (statement_is (with_temporaries st (test_is (fresh st) q i).behind) body i))
    statement_is st (PlacedDo body q span) = λ i.
        let x : Step = statement_is (fresh st) body i in
        back st (do_form x (test_is x.behind q i))
    statement_is st (PlacedFor start q update body span) = λ i.
        let begun : Step = init_is (fresh st) start i in
        let test : Condition = optional_is begun.behind q i in
        let x : Step = statement_is (with_temporaries begun.behind test.behind) body i in
        back st (for_form span begun test x (effects_is x.behind update i))
    statement_is st (PlacedForEach marks u name array body span) = λ i.
        let r : ℕ = length st.locals in
        let v : Value = value_is (fresh st) array i in
        let start : Value = each_start P c first v.operand.span r v in
        let at : Span = start.operand.span in
        let test : Value = each_tested P c first at r start.behind in
        let element : Value = each_element P c first at r (elem_base (type_is P c st.scope array i)) test.behind in
        let x : Step = statement_is (each_state P c first st (type_is P c st.scope array i) (type_of_use_is P u (annotations_of marks) i) name.name.0 (local_bound P c first marks u) (has_final marks) (base_rows_is P u.base i) element.behind) body i in
        back st (each_form P c first at r (local_bound P c first marks u) start test element x (each_next P c first at r (each_one P c first at x.behind.temporaries)))
    statement_is st (PlacedThisCall es span) = refl
    statement_is st (PlacedSuperCallStatement es span) = refl

    pub statements_is : (st : State) (xs : PlacedStatements) → statements (bare P) c first st xs ≡ statements P c first st xs
    statements_is st NoPlacedStatements = refl
    statements_is st (MorePlacedStatements x xs) = λ i. both_steps (statement_is st x i) (statements_is (statement_is st x i).behind xs i)
