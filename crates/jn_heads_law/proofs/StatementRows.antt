-- Rows of statements are the same of a bare program, places included.
use Rattle.std.proofs.Common.{◌≡◌, ℕ, Bool, not, ◌&&◌, List, [], ◌∷◌, ◌++◌, length, Option, Some, None, refl}
use Rattle.jn_base.specs.declared.code.Code.TheVariants.{J2}
use Rattle.jn_base.specs.declared.place.Row.{Row}
use Rattle.jn_quals.specs.Qualifier.{Qualifier}
use Rattle.jn_points.specs.declared.point.BaseType.{BaseType}
use Rattle.jn_points.specs.declared.program.Program.{Program}
use Rattle.jn_points.specs.Lookup.{elem_base, is_array}
use Rattle.jn_trees.specs.declared.statement.LocalModifier.{LocalModifier}
use Rattle.jn_places.specs.Placed.{PlacedTree, PlacedTypeUse, PlacedDeclarator, PlacedLocal, PlacedInit, PlacedExpressions, PlacedDeclaration, PlacedStatement, PlacedStatements, PlacedBlock, PlacedEmpty, PlacedExpression, PlacedBreak, PlacedContinue, PlacedReturn, PlacedLocalStatement, PlacedIf, PlacedIfElse, PlacedWhile, PlacedDo, PlacedFor, PlacedForEach, PlacedThisCall, PlacedSuperCallStatement, NoPlacedStatements, MorePlacedStatements}
use Rattle.jn_lowering.specs.Forms.{Value}
use Rattle.jn_lowering.specs.Annotations.{both_kinds, row, type_rows, unless, when}
use Rattle.jn_lowering.specs.Locals.{State, annotations_of, declares, has_final, has_value, with_temporaries}
use Rattle.jn_lowering.specs.Statements.{each_element, each_start, each_state, each_tested, fresh, local_bound}
use Rattle.jn_lowering.specs.ExpressionRows.{Setting, inner_span}
use Rattle.jn_lowering.specs.StatementRows.{all_rows, array_rows, declaration_rows, declarator_rows, declarators_rows, declared_rows, init_rows, optional_rows, statement_rows, use_rows}
use Rattle.jn_places_law.specs.Bare.{bare}
use Rattle.jn_heads_law.proofs.Meanings.{base_rows_is, type_is, type_of_use_is}
use Rattle.jn_heads_law.proofs.Statements.{declarator_is, init_is, optional_is, statement_is, test_is, value_is}
use Rattle.jn_heads_law.proofs.ExpressionRows as expressions

module _ (P : Program) (c first : ℕ) (at : Setting) where
  optional_rows_is : (st : State) (e : Option PlacedTree) → optional_rows (bare P) c first at st e ≡ optional_rows P c first at st e
  optional_rows_is st None = refl
  optional_rows_is st (Some e) = expressions.rows_is P c at st.scope e

  -- ---- declarations

  declarator_rows_is : (base : BaseType) (bound : Option Qualifier) (is_final : Bool) (faults : List Row) (st : State) (d : PlacedDeclarator) → declarator_rows (bare P) c first at base bound is_final faults st d ≡ declarator_rows P c first at base bound is_final faults st d
  declarator_rows_is base bound is_final faults st d = λ i. declared_rows st.scope d.name.name.0 d.name.span ++ optional_rows_is (declares st d.name.name.0 base bound (is_final && has_value d) faults) d.value i

  declarators_rows_is : (base : BaseType) (bound : Option Qualifier) (is_final : Bool) (faults : List Row) (st : State) (ds : List PlacedDeclarator) → declarators_rows (bare P) c first at base bound is_final faults st ds ≡ declarators_rows P c first at base bound is_final faults st ds
  declarators_rows_is base bound is_final faults st [] = refl
  declarators_rows_is base bound is_final faults st (d ∷ ds) = λ i. declarator_rows_is base bound is_final faults st d i ++ declarators_rows_is base bound is_final faults (declarator_is P c first base bound is_final faults st d i).behind ds i

  use_rows_is : (marks : List LocalModifier) (u : PlacedTypeUse) → use_rows (bare P) c first at marks u ≡ use_rows P c first at marks u
  use_rows_is marks u = λ i. type_rows u both_kinds (annotations_of marks) ++ base_rows_is P u.base i

  declaration_rows_is : (st : State) (l : PlacedLocal) → declaration_rows (bare P) c first at st l ≡ declaration_rows P c first at st l
  declaration_rows_is st l = λ i. use_rows_is l.marks l.type_use i ++ declarators_rows_is (type_of_use_is P l.type_use (annotations_of l.marks) i) (local_bound P c first l.marks l.type_use) (has_final l.marks) (base_rows_is P l.type_use.base i) st (l.first ∷ l.more) i

  -- ---- loops

  init_rows_is : (st : State) (x : PlacedInit) → init_rows (bare P) c first at st x ≡ init_rows P c first at st x
  init_rows_is st (PlacedExpressions es) = expressions.all_is P c at st.scope es
  init_rows_is st (PlacedDeclaration l) = declaration_rows_is st l

  array_rows_is : (st : State) (e : PlacedTree) → array_rows (bare P) c first at st e ≡ array_rows P c first at st e
  array_rows_is st e = λ i. expressions.rows_is P c at st.scope e i ++ unless (expressions.rows_is P c at st.scope e i) (when (not (is_array (type_is P c st.scope e i))) (row J2 (inner_span e)))

  -- ---- statements

  mutual
    pub rows_is : (st : State) (x : PlacedStatement) → statement_rows (bare P) c first at st x ≡ statement_rows P c first at st x
    rows_is st (PlacedBlock body span) = all_is st body
    rows_is st (PlacedEmpty span) = refl
    rows_is st (PlacedExpression e span) = expressions.rows_is P c at st.scope e
    rows_is st (PlacedBreak span) = refl
    rows_is st (PlacedContinue span) = refl
    rows_is st (PlacedReturn value span) = optional_rows_is st value
    rows_is st (PlacedLocalStatement l span) = declaration_rows_is (fresh st) l
    rows_is st (PlacedIf q body span) = λ i. expressions.rows_is P c at st.scope q i ++ rows_is (with_temporaries st (test_is P c first (fresh st) q i).behind) body i
    rows_is st (PlacedIfElse q body other span) = λ i.
        let x : State = with_temporaries st (test_is P c first (fresh st) q i).behind in
        expressions.rows_is P c at st.scope q i ++ (rows_is x body i ++ rows_is (statement_is P c first x body i).behind other i)
    rows_is st (PlacedWhile q body span) = λ i. expressions.rows_is P c at st.scope q i ++ rows_is (with_temporaries st (test_is P c first (fresh st) q i).behind) body i
    rows_is st (PlacedDo body q span) = λ i. rows_is (fresh st) body i ++ expressions.rows_is P c at (statement_is P c first (fresh st) body i).behind.scope q i
    rows_is st (PlacedFor start q update body span) = λ i.
        let x : State = (init_is P c first (fresh st) start i).behind in
        let y : State = with_temporaries x (optional_is P c first x q i).behind in
        init_rows_is (fresh st) start i ++ (optional_rows_is x q i ++ (rows_is y body i ++ expressions.all_is P c at (statement_is P c first y body i).behind.scope update i))
    rows_is st (PlacedForEach marks u name array body span) = λ i.
        let r : ℕ = length st.locals in
        let v : Value = value_is P c first (fresh st) array i in
        let base : BaseType = type_is P c st.scope array i in
        let start : Value = each_start P c first v.operand.span r v in
        let test : Value = each_tested P c first v.operand.span r start.behind in
        let element : Value = each_element P c first v.operand.span r (elem_base base) test.behind in
        use_rows_is marks u i ++ (array_rows_is st array i ++ (declared_rows st.scope name.name.0 name.span
        ++ rows_is (each_state P c first st base (type_of_use_is P u (annotations_of marks) i) name.name.0 (local_bound P c first marks u) (has_final marks) (base_rows_is P u.base i) element.behind) body i))
    rows_is st (PlacedThisCall es span) = refl
    rows_is st (PlacedSuperCallStatement es span) = refl

    pub all_is : (st : State) (xs : PlacedStatements) → all_rows (bare P) c first at st xs ≡ all_rows P c first at st xs
    all_is st NoPlacedStatements = refl
    all_is st (MorePlacedStatements x xs) = λ i. rows_is st x i ++ all_is (statement_is P c first st x i).behind xs i
