-- Bodies without a row, of which no operand is void, are fit.
use Rattle.std.proofs.Common.{◌≡◌, ◌≢◌, ◌+◌, ◌<◌, ◌≤◌, ◌⊎◌, inl, inr, ℕ, zero, suc, Bool, true, false, cond, not, ◌&&◌, List, [], ◌∷◌, ◌++◌, length, Option, Some, None, refl, sym, ap, ◌∙◌, subst, eqb, arith}
use Rattle.std.specs.Prelude.{slice_get}
use Rattle.jn_base.specs.declared.place.Row.{Row}
use Rattle.jn_base.specs.declared.place.Span.{Span}
use Rattle.jn_quals.specs.Qualifier.{Qualifier}
use Rattle.jn_points.specs.declared.point.BaseType.{BaseType}
use Rattle.jn_points.specs.declared.point.BaseType.TheVariants.{Ref}
use Rattle.jn_points.specs.declared.program.Method.{Method}
use Rattle.jn_points.specs.declared.program.Program.{Program}
use Rattle.jn_points.specs.Lookup.{class_info, class_of, ctor_of, elem_base, method_at, params_of, parent_of, static_of}
use Rattle.jn_points.specs.Members.{constructor_of, declared_field}
use Rattle.jn_points.specs.Regular.{Regular}
use Rattle.jn_places.specs.Placed.{PlacedTree, PlacedTrees, NoPlacedTrees, MorePlacedTrees, PlacedDeclarator, PlacedLocal, PlacedInit, PlacedExpressions, PlacedDeclaration, PlacedMember, PlacedParameter, PlacedStatement, PlacedStatements, PlacedBlock, PlacedEmpty, PlacedExpression, PlacedBreak, PlacedContinue, PlacedReturn, PlacedLocalStatement, PlacedIf, PlacedIfElse, PlacedWhile, PlacedDo, PlacedFor, PlacedForEach, PlacedThisCall, PlacedSuperCallStatement, NoPlacedStatements, MorePlacedStatements}
use Rattle.jn_lowering.specs.Scopes.{Local, Scope, count, local_in}
use Rattle.jn_lowering.specs.Bases.{type_of}
use Rattle.jn_lowering.specs.Calls.{is_static}
use Rattle.jn_lowering.specs.Forms.{Condition, Value as Lowered}
use Rattle.jn_lowering.specs.Annotations.{base_rows, when}
use Rattle.jn_lowering.specs.Locals.{State as LState, all_declared, declared, declared_by, declared_first, declares, has_final, has_value, is_some, parameters_from, with_local, with_temporaries}
use Rattle.jn_lowering.specs.Statements.{Step, declarator, each_array, each_element, each_state, each_tested, fresh, init, local_bound, local_type, optional_test, statement, tested_in}
use Rattle.jn_lowering.specs.ExpressionRows.{Setting, ctor_rows, rows_of, rows_of_all}
use Rattle.jn_lowering.specs.StatementRows.{all_rows, array_rows, declaration_rows, declarator_rows, declarators_rows, declared_rows, effect_rows, init_rows, optional_rows, rows_in, statement_rows, use_rows}
use Rattle.jn_lowering.specs.Bodies.{Source, at_entry, call_of, calls_own, class, declarators_of, fields_of, is_under_object, local_count, parent}
use Rattle.jn_lowering.specs.BodyRows.{construction_rows, ctor_call_rows, field_rows, in_body, in_initializer, initializer_rows, initializers_rows, limit_rows, member_rows, no_this, rows_of_bodies, rows_of_body, rows_of_source}
use Rattle.jn_lowering.proofs.NoRows.{append_none}
use Rattle.jn_meaning.specs.Fitting
use Rattle.jn_meaning.specs.Statements.{Standing, behind, behind_declaration, behind_declarator, behind_declarators, behind_init, bound_written, declares as declares', further, type_written}
use Rattle.jn_meaning.proofs.Valuing.{AllEffectual, AllValued, AllValuing, BeginsValued, BodyValued, ConstructionValued, DeclarationValued, DeclaratorsInitialized, DeclaratorsValued, FieldInitialized, InitValued, KindInitialized, MembersInitialized, OptionalInitialized, OptionalValued, StatementValued, StatementsValued, Valued}
use Rattle.jn_meaning.proofs.Fitted.{all_fit, ctors_of, effect_fit, fit_of}
use Rattle.jn_meaning.proofs.Standings.{call_of_stands, declarator_stands, declarators_count, each_stands, fields_of_stand, init_stands, standing, stands_behind, stands_declared}

not_zero : (n : ℕ) → 0 < n → n ≢ 0
not_zero n h e = omega (h, e, arith)

-- a name is the new local's, or in scope before
local_among : (s : Scope) (x : Local) (n : ℕ) (l : Local) → local_in (with_local s x) n ≡ Some l → (l ≡ x) ⊎ (local_in s n ≡ Some l)
local_among s x n l e = by (is_some (local_in s x.name)) e
  where
    named : (b : Bool) → cond b (Some x) (local_in s n) ≡ Some l → (l ≡ x) ⊎ (local_in s n ≡ Some l)
    named true e = let same : x ≡ l = cc in inl (sym same)
    named false e = inr e

    by : (b : Bool) → local_in (cond b s (x ∷ s)) n ≡ Some l → (l ≡ x) ⊎ (local_in s n ≡ Some l)
    by true e = inr e
    by false e = named (eqb x.name n) e

-- the locals in scope are below the next one, and none is `this`
module _ (this : Bool) where
  pub record Here (sd : Standing) : Type 0 where
    pub locals : (n : ℕ) (l : Local) → local_in sd.scope n ≡ Some l → (l.reg < sd.count) × (this ≡ true → l.reg ≢ 0)
    pub above : this ≡ true → 0 < sd.count

  here_declares : (sd : Standing) (name : ℕ) (base : BaseType) (bound : Option Qualifier) (fixed : Bool) (faults : List Row) → Here sd → Here (declares' sd name base bound fixed faults)
  here_declares sd name base bound fixed faults h = record {
    locals = λ n l e. by n l (local_among sd.scope x n l e);
    above = λ t. (let a = h.above t in omega (a, arith));
  }
    where
      x : Local
      x = record { name = name; reg = sd.count; base = base; bound = bound; fixed = fixed; faults = faults }

      by : (n : ℕ) (l : Local) → (l ≡ x) ⊎ (local_in sd.scope n ≡ Some l) → (l.reg < sd.count + 1) × (this ≡ true → l.reg ≢ 0)
      by n l (inl e) = subst (λ (z : Local). (z.reg < sd.count + 1) × (this ≡ true → z.reg ≢ 0)) (sym e) (omega arith, λ t. not_zero sd.count (h.above t))
      by n l (inr e) = let p = h.locals n l e in let a = p.0 in (omega (a, arith), p.1)

  here_further : (sd : Standing) (k : ℕ) → Here sd → Here (further sd k)
  here_further sd k h = record {
    locals = λ n l e. (let p = h.locals n l e in let a = p.0 in (omega (a, arith), p.1));
    above = λ t. (let a = h.above t in omega (a, arith));
  }

  here_declarators : (base : BaseType) (bound : Option Qualifier) (is_final : Bool) (faults : List Row) (sd : Standing) (ds : List PlacedDeclarator) → Here sd → Here (behind_declarators base bound is_final faults sd ds)
  here_declarators base bound is_final faults sd [] h = h
  here_declarators base bound is_final faults sd (d ∷ ds) h = here_declarators base bound is_final faults (behind_declarator base bound is_final faults sd d) ds (here_declares sd d.name.name.0 base bound (is_final && has_value d) faults h)

module _ (P : Program) (first : ℕ) (this : Bool) (c : ℕ) (at : Setting)
    (stands : at.this_stands ≡ true → this ≡ true)
    (ctors : (k arity m : ℕ) → constructor_of P k arity ≡ Some m → static_of (method_at P m) ≡ false) where
  here_declaration : (sd : Standing) (l : PlacedLocal) → Here this sd → Here this (behind_declaration P sd l)
  here_declaration sd l h = here_declarators this (type_written P l.marks l.type_use) (bound_written l.marks l.type_use) (has_final l.marks) (base_rows P l.type_use.base) sd (l.first ∷ l.more) h

  here_init : (sd : Standing) (i : PlacedInit) → Here this sd → Here this (behind_init P sd i)
  here_init sd (PlacedExpressions es) h = h
  here_init sd (PlacedDeclaration l) h = here_declaration sd l h

  here_behind : (sd : Standing) (x : PlacedStatement) → Here this sd → Here this (behind P sd x)
  here_behind sd (PlacedLocalStatement l span) h = here_declaration sd l h
  here_behind sd (PlacedBlock body span) h = here_further this sd (all_declared body) h
  here_behind sd (PlacedEmpty span) h = here_further this sd 0 h
  here_behind sd (PlacedExpression e span) h = here_further this sd 0 h
  here_behind sd (PlacedBreak span) h = here_further this sd 0 h
  here_behind sd (PlacedContinue span) h = here_further this sd 0 h
  here_behind sd (PlacedReturn value span) h = here_further this sd 0 h
  here_behind sd (PlacedIf q body span) h = here_further this sd (declared (PlacedIf q body span)) h
  here_behind sd (PlacedIfElse q body other span) h = here_further this sd (declared (PlacedIfElse q body other span)) h
  here_behind sd (PlacedWhile q body span) h = here_further this sd (declared (PlacedWhile q body span)) h
  here_behind sd (PlacedDo body q span) h = here_further this sd (declared (PlacedDo body q span)) h
  here_behind sd (PlacedFor start q update body span) h = here_further this sd (declared (PlacedFor start q update body span)) h
  here_behind sd (PlacedForEach marks u name array body span) h = here_further this sd (declared (PlacedForEach marks u name array body span)) h
  here_behind sd (PlacedThisCall es span) h = here_further this sd 0 h
  here_behind sd (PlacedSuperCallStatement es span) h = here_further this sd 0 h

  declaration_more : (sd : Standing) (l : PlacedLocal) → (behind_declaration P sd l).count ≡ sd.count + declared_by l
  declaration_more sd l = let e = declarators_count P first c (type_written P l.marks l.type_use) (bound_written l.marks l.type_use) (has_final l.marks) (base_rows P l.type_use.base) sd (l.first ∷ l.more) in omega (e, arith)

  init_more : (sd : Standing) (i : PlacedInit) → (behind_init P sd i).count ≡ sd.count + declared_first i
  init_more sd (PlacedExpressions es) = omega arith
  init_more sd (PlacedDeclaration l) = declaration_more sd l

  behind_more : (sd : Standing) (x : PlacedStatement) → (behind P sd x).count ≡ sd.count + declared x
  behind_more sd (PlacedLocalStatement l span) = declaration_more sd l
  behind_more sd (PlacedBlock body span) = refl
  behind_more sd (PlacedEmpty span) = refl
  behind_more sd (PlacedExpression e span) = refl
  behind_more sd (PlacedBreak span) = refl
  behind_more sd (PlacedContinue span) = refl
  behind_more sd (PlacedReturn value span) = refl
  behind_more sd (PlacedIf q body span) = refl
  behind_more sd (PlacedIfElse q body other span) = refl
  behind_more sd (PlacedWhile q body span) = refl
  behind_more sd (PlacedDo body q span) = refl
  behind_more sd (PlacedFor start q update body span) = refl
  behind_more sd (PlacedForEach marks u name array body span) = refl
  behind_more sd (PlacedThisCall es span) = refl
  behind_more sd (PlacedSuperCallStatement es span) = refl

  -- registers of locals

  in_scope : (sd : Standing) → Here this sd → sd.count ≤ first → (n : ℕ) (l : Local) → local_in sd.scope n ≡ Some l → Fitting.IsLocal P first this l.reg
  in_scope sd h up n l e = let p = h.locals n l e in let a = p.0 in (omega (a, up, arith), p.1)

  next_local : (sd : Standing) (k : ℕ) → Here this sd → sd.count + k < first → Fitting.IsLocal P first this (sd.count + k)
  next_local sd k h up = (up, λ t. not_zero (sd.count + k) (let a = h.above t in omega (a, arith)))

  abbrev parts : (xs ys : List Row) → xs ++ ys ≡ [] → (xs ≡ []) × (ys ≡ [])
  parts xs ys h = append_none xs ys h

  -- expressions where a statement stands

  value_in : (st : LState) (sd : Standing) → standing st ≡ sd → Here this sd → sd.count ≤ first → (e : PlacedTree) → Valued P c sd.scope e → rows_in P c first at st e ≡ [] → Fitting.Fit P first this c sd.scope e
  value_in st sd same here up e v h = fit_of P first this c at sd.scope stands (in_scope sd here up) ctors e v (subst (λ (z : Standing). rows_of P c at z.scope e ≡ []) same h)

  optional_in : (st : LState) (sd : Standing) → standing st ≡ sd → Here this sd → sd.count ≤ first → (o : Option PlacedTree) → OptionalValued P c sd o → optional_rows P c first at st o ≡ [] → Fitting.OptionalFit P first this c sd o
  optional_in st sd same here up None v h = tt
  optional_in st sd same here up (Some e) v h = value_in st sd same here up e v h

  effects_from : (sd : Standing) → Here this sd → sd.count ≤ first → (es : PlacedTrees) → AllEffectual P c sd es → rows_of_all P c at sd.scope es ≡ [] → Fitting.EffectsFit P first this c sd es
  effects_from sd here up NoPlacedTrees v h = tt
  effects_from sd here up (MorePlacedTrees e es) v h =
      let p = parts (rows_of P c at sd.scope e) (rows_of_all P c at sd.scope es) h in
      (effect_fit P first this c at sd.scope stands (in_scope sd here up) ctors e v.0 p.0, effects_from sd here up es v.1 p.1)

  effects_in : (st : LState) (sd : Standing) → standing st ≡ sd → Here this sd → sd.count ≤ first → (es : PlacedTrees) → AllEffectual P c sd es → effect_rows P c first at st es ≡ [] → Fitting.EffectsFit P first this c sd es
  effects_in st sd same here up es v h = effects_from sd here up es v (subst (λ (z : Standing). rows_of_all P c at z.scope es ≡ []) same h)

  module _ (base : BaseType) (bound : Option Qualifier) (is_final : Bool) (faults : List Row) where
    declarators_in : (st : LState) (sd : Standing) → standing st ≡ sd → Here this sd → (ds : List PlacedDeclarator) → sd.count + length ds ≤ first → DeclaratorsValued P c base bound is_final faults sd ds → declarators_rows P c first at base bound is_final faults st ds ≡ [] → Fitting.DeclaratorsFit P first this c base bound is_final faults sd ds
    declarators_in st sd same here [] up v h = tt
    declarators_in st sd same here (d ∷ ds) up v h =
        let n : ℕ = d.name.name.0 in
        let fixed : Bool = is_final && has_value d in
        let u : Standing = behind_declarator base bound is_final faults sd d in
        let inner : LState = declares st n base bound fixed faults in
        let next : LState = (declarator P c first base bound is_final faults st d).behind in
        let same_inner : standing inner ≡ u = stands_declared P first c st n base bound fixed faults ∙ ap (λ z. declares' z n base bound fixed faults) same in
        let same_next : standing next ≡ u = declarator_stands P first c base bound is_final faults st d ∙ ap (λ z. behind_declarator base bound is_final faults z d) same in
        let here' : Here this u = here_declares this sd n base bound fixed faults here in
        let p = parts (declarator_rows P c first at base bound is_final faults st d) (declarators_rows P c first at base bound is_final faults next ds) h in
        let q = parts (declared_rows st.scope n d.name.span) (optional_rows P c first at inner d.value) p.0 in
        (((omega (up, arith), λ t. not_zero sd.count (here.above t)), optional_in inner u same_inner here' (omega (up, arith)) d.value v.0 q.1), declarators_in next u same_next here' ds (omega (up, arith)) v.1 p.1)

  declaration_in : (st : LState) (sd : Standing) → standing st ≡ sd → Here this sd → (l : PlacedLocal) → sd.count + declared_by l ≤ first → DeclarationValued P c sd l → declaration_rows P c first at st l ≡ [] → Fitting.DeclarationFit P first this c sd l
  declaration_in st sd same here l up v h =
      let base : BaseType = local_type P c first l.marks l.type_use in
      let bound : Option Qualifier = local_bound P c first l.marks l.type_use in
      let p = parts (use_rows P c first at l.marks l.type_use) (declarators_rows P c first at base bound (has_final l.marks) (base_rows P l.type_use.base) st (l.first ∷ l.more)) h in
      declarators_in base bound (has_final l.marks) (base_rows P l.type_use.base) st sd same here (l.first ∷ l.more) (omega (up, arith)) v p.1

  init_in : (st : LState) (sd : Standing) → standing st ≡ sd → Here this sd → (i : PlacedInit) → sd.count + declared_first i ≤ first → InitValued P c sd i → init_rows P c first at st i ≡ [] → Fitting.InitFit P first this c sd i
  init_in st sd same here (PlacedExpressions es) up v h = effects_in st sd same here (omega (up, arith)) es v h
  init_in st sd same here (PlacedDeclaration l) up v h = declaration_in st sd same here l up v h

  mutual
    statement_fit : (st : LState) (sd : Standing) → standing st ≡ sd → Here this sd → (x : PlacedStatement) → sd.count + declared x ≤ first → StatementValued P c sd x → statement_rows P c first at st x ≡ [] → Fitting.StatementFit P first this c sd x
    statement_fit st sd same here (PlacedBlock body span) up v h = all_statements_fit st sd same here body up v h
    statement_fit st sd same here (PlacedEmpty span) up v h = tt
    statement_fit st sd same here (PlacedExpression e span) up v h = effect_fit P first this c at sd.scope stands (in_scope sd here (omega (up, arith))) ctors e v (subst (λ (z : Standing). rows_of P c at z.scope e ≡ []) same h)
    statement_fit st sd same here (PlacedBreak span) up v h = tt
    statement_fit st sd same here (PlacedContinue span) up v h = tt
    statement_fit st sd same here (PlacedReturn value span) up v h = optional_in st sd same here (omega (up, arith)) value v h
    statement_fit st sd same here (PlacedLocalStatement l span) up v h = declaration_in (fresh st) sd same here l up v h
    statement_fit st sd same here (PlacedIf q body span) up v h =
        let u : LState = with_temporaries st (tested_in P c first (fresh st) q).behind in
        let p = parts (rows_in P c first at st q) (statement_rows P c first at u body) h in
        (value_in st sd same here (omega (up, arith)) q v.0 p.0, statement_fit u sd same here body up v.1 p.1)
    statement_fit st sd same here (PlacedIfElse q body other span) up v h =
        let u : LState = with_temporaries st (tested_in P c first (fresh st) q).behind in
        let x : Step = statement P c first u body in
        let p = parts (rows_in P c first at st q) (statement_rows P c first at u body ++ statement_rows P c first at x.behind other) h in
        let r = parts (statement_rows P c first at u body) (statement_rows P c first at x.behind other) p.1 in
        let more = behind_more sd body in
        let later : standing x.behind ≡ behind P sd body = stands_behind P first c u body ∙ ap (λ z. behind P z body) same in
        (value_in st sd same here (omega (up, arith)) q v.0 p.0, (statement_fit u sd same here body (omega (up, arith)) v.1.0 r.0, statement_fit x.behind (behind P sd body) later (here_behind sd body here) other (omega (up, more, arith)) v.1.1 r.1))
    statement_fit st sd same here (PlacedWhile q body span) up v h =
        let u : LState = with_temporaries st (tested_in P c first (fresh st) q).behind in
        let p = parts (rows_in P c first at st q) (statement_rows P c first at u body) h in
        (value_in st sd same here (omega (up, arith)) q v.0 p.0, statement_fit u sd same here body up v.1 p.1)
    statement_fit st sd same here (PlacedDo body q span) up v h =
        let x : Step = statement P c first (fresh st) body in
        let p = parts (statement_rows P c first at (fresh st) body) (rows_in P c first at x.behind q) h in
        let more = behind_more sd body in
        let later : standing x.behind ≡ behind P sd body = stands_behind P first c (fresh st) body ∙ ap (λ z. behind P z body) same in
        (statement_fit (fresh st) sd same here body up v.0 p.0, value_in x.behind (behind P sd body) later (here_behind sd body here) (omega (up, more, arith)) q v.1 p.1)
    statement_fit st sd same here (PlacedFor start q update body span) up v h =
        let i : Step = init P c first (fresh st) start in
        let test : Condition = optional_test P c first i.behind q in
        let x : Step = statement P c first (with_temporaries i.behind test.behind) body in
        let u : Standing = behind_init P sd start in
        let begun : standing i.behind ≡ u = init_stands P first c (fresh st) start ∙ ap (λ z. behind_init P z start) same in
        let later : standing x.behind ≡ behind P u body = stands_behind P first c (with_temporaries i.behind test.behind) body ∙ ap (λ z. behind P z body) begun in
        let p = parts (init_rows P c first at (fresh st) start) (optional_rows P c first at i.behind q ++ (statement_rows P c first at (with_temporaries i.behind test.behind) body ++ effect_rows P c first at x.behind update)) h in
        let r = parts (optional_rows P c first at i.behind q) (statement_rows P c first at (with_temporaries i.behind test.behind) body ++ effect_rows P c first at x.behind update) p.1 in
        let s = parts (statement_rows P c first at (with_temporaries i.behind test.behind) body) (effect_rows P c first at x.behind update) r.1 in
        let more = init_more sd start in
        let most = behind_more u body in
        let here' : Here this u = here_init sd start here in (
          init_in (fresh st) sd same here start (omega (up, arith)) v.0 p.0,
          (
            optional_in i.behind u begun here' (omega (up, more, arith)) q v.1.0 r.0,
            (
              statement_fit (with_temporaries i.behind test.behind) u begun here' body (omega (up, more, arith)) v.1.1.0 s.0,
              effects_in x.behind (behind P u body) later (here_behind u body here') (omega (up, more, most, arith)) update v.1.1.1 s.1,
            ),
          ),
        )
    statement_fit st sd same here (PlacedForEach marks use' name array body span) up v h =
        let r : ℕ = length st.locals in
        let n : ℕ = name.name.0 in
        let base : BaseType = local_type P c first marks use' in
        let bound : Option Qualifier = local_bound P c first marks use' in
        let faults : List Row = base_rows P use'.base in
        let start : Lowered = each_array P c first (fresh st) array in
        let test : Lowered = each_tested P c first start.operand.span r start.behind in
        let element : Lowered = each_element P c first start.operand.span r (elem_base (type_of P c st.scope array)) test.behind in
        let u : LState = each_state P c first st (type_of P c st.scope array) base n bound (has_final marks) faults element.behind in
        let d : Standing = declares' (further sd 2) n base bound (has_final marks) faults in
        let inside : standing u ≡ d = each_stands P first c st (type_of P c st.scope array) base n bound (has_final marks) faults element.behind ∙ ap (λ z. declares' (further z 2) n base bound (has_final marks) faults) same in
        let p = parts (use_rows P c first at marks use') (array_rows P c first at st array ++ (declared_rows st.scope n name.span ++ statement_rows P c first at u body)) h in
        let q = parts (array_rows P c first at st array) (declared_rows st.scope n name.span ++ statement_rows P c first at u body) p.1 in
        let s = parts (declared_rows st.scope n name.span) (statement_rows P c first at u body) q.1 in
        let a = parts (rows_in P c first at st array) _ q.0 in (
          value_in st sd same here (omega (up, arith)) array v.0 a.0,
          (
            ((omega (up, arith), λ t. not_zero sd.count (here.above t)), (next_local sd 1 here (omega (up, arith)), next_local sd 2 here (omega (up, arith)))),
            statement_fit u d inside (here_declares this (further sd 2) n base bound (has_final marks) faults (here_further this sd 2 here)) body (omega (up, arith)) v.1 s.1,
          ),
        )
    statement_fit st sd same here (PlacedThisCall es span) up v h = tt
    statement_fit st sd same here (PlacedSuperCallStatement es span) up v h = tt

    pub all_statements_fit : (st : LState) (sd : Standing) → standing st ≡ sd → Here this sd → (xs : PlacedStatements) → sd.count + all_declared xs ≤ first → StatementsValued P c sd xs → all_rows P c first at st xs ≡ [] → Fitting.AllStatementsFit P first this c sd xs
    all_statements_fit st sd same here NoPlacedStatements up v h = tt
    all_statements_fit st sd same here (MorePlacedStatements x xs) up v h =
        let next : LState = (statement P c first st x).behind in
        let p = parts (statement_rows P c first at st x) (all_rows P c first at next xs) h in
        let more = behind_more sd x in
        let later : standing next ≡ behind P sd x = stands_behind P first c st x ∙ ap (λ z. behind P z x) same in
        (statement_fit st sd same here x (omega (up, arith)) v.0 p.0, all_statements_fit next (behind P sd x) later (here_behind sd x here) xs (omega (up, more, arith)) v.1 p.1)

-- parameters have the registers from a first one on
parameters_in : (r : ℕ) (ps : List PlacedParameter) (bases : List BaseType) (n : ℕ) (l : Local) → local_in (parameters_from r ps bases) n ≡ Some l → (r ≤ l.reg) × (l.reg < r + length bases)
parameters_in r [] bases n l e = cc
parameters_in r (p ∷ ps) [] n l e = cc
parameters_in r (p ∷ ps) (b ∷ bases) n l e = by (λ i. parameters_in (r + 1) ps bases n l i) (eqb p.name.name.0 n) e
  where
    x : Local
    x = record { name = p.name.name.0; reg = r; base = b; bound = None; fixed = has_final p.marks; faults = [] }

    by : (local_in (parameters_from (r + 1) ps bases) n ≡ Some l → (r + 1 ≤ l.reg) × (l.reg < (r + 1) + length bases)) → (t : Bool) → cond t (Some x) (local_in (parameters_from (r + 1) ps bases) n) ≡ Some l → (r ≤ l.reg) × (l.reg < r + length (b ∷ bases))
    by more true e = let same : x ≡ l = cc in subst (λ (z : Local). (r ≤ z.reg) × (z.reg < r + length (b ∷ bases))) same (omega arith, omega arith)
    by more false e = let q = more e in let a = q.0 in let d = q.1 in (omega (a, arith), omega (d, arith))

entry : (b : Bool) (t : BaseType) (ps : List PlacedParameter) (bases : List BaseType) → Here (not b) (record { scope = parameters_from (cond b 0 1) ps bases; count = length (cond b bases (t ∷ bases)) })
entry true t ps bases = record { locals = λ n l e. (let p = parameters_in 0 ps bases n l e in let d = p.1 in (omega (d, arith), λ h. cc)); above = λ h. cc }
entry false t ps bases = record {
  locals = λ n l e. (let p = parameters_in 1 ps bases n l e in let a = p.0 in let d = p.1 in (omega (d, arith), λ h. not_zero l.reg (omega (a, arith))));
  above = λ h. omega arith;
}

module _ (P : Program) (H : Regular P) (m : ℕ) (first : ℕ) where
  abbrev This : Bool
  This = not (static_of (method_at P m))

  abbrev Fits : Scope → PlacedTree → Type 0
  Fits s e = Fitting.Fit P first This (class P m) s e

  in_ctor : ctor_of (method_at P m) ≡ true → This ≡ true
  in_ctor h = by (method_at P m) refl h
    where
      by : (o : Option Method) → method_at P m ≡ o → ctor_of o ≡ true → not (static_of o) ≡ true
      by None i e = cc
      by (Some x) i e = ap not ((H.methods m x i).ctor e).0

  needs_this : This ≡ true → (b : Bool) → Fitting.NeedsThis P first This b
  needs_this t true = tt
  needs_this t false = t

  -- the constructor's call

  module _ (t : This ≡ true) (st : LState) (here : Here This (standing st)) (up : length st.locals ≤ first) where
    args_fit : (k : ℕ) (es : PlacedTrees) (span : Span) → AllValued P (class P m) st.scope es → ctor_call_rows P m st k es span ≡ [] → Fitting.ArgsFit P first This m st.scope es
    args_fit k es span v h =
        let p = append_none (rows_of_all P (class P m) no_this st.scope es) (ctor_rows P (class P m) (constructor_of P k (count es)) span) h in
        (t, all_fit P first This (class P m) no_this st.scope (λ z. cc) (λ n l e. (let p = here.locals n l e in let a = p.0 in (omega (a, up, arith), p.1))) (ctors_of P H) es v p.0)

    unwritten : Fitting.NeedsThis P first This (is_under_object (parent_of (class_info P (class P m))))
    unwritten = needs_this t (is_under_object (parent_of (class_info P (class P m))))

    construction_fit : (xs : PlacedStatements) → ConstructionValued P m st.scope xs → construction_rows P m st xs ≡ [] → Fitting.ConstructionFit P first This m st.scope xs
    construction_fit (MorePlacedStatements (PlacedThisCall es span) xs) v h = args_fit (class P m) es span v h
    construction_fit (MorePlacedStatements (PlacedSuperCallStatement es span) xs) v h = args_fit (parent P m) es span v h
    construction_fit NoPlacedStatements v h = unwritten
    construction_fit (MorePlacedStatements (PlacedBlock a b) xs) v h = unwritten
    construction_fit (MorePlacedStatements (PlacedEmpty a) xs) v h = unwritten
    construction_fit (MorePlacedStatements (PlacedExpression a b) xs) v h = unwritten
    construction_fit (MorePlacedStatements (PlacedBreak a) xs) v h = unwritten
    construction_fit (MorePlacedStatements (PlacedContinue a) xs) v h = unwritten
    construction_fit (MorePlacedStatements (PlacedReturn a b) xs) v h = unwritten
    construction_fit (MorePlacedStatements (PlacedLocalStatement a b) xs) v h = unwritten
    construction_fit (MorePlacedStatements (PlacedIf a b d) xs) v h = unwritten
    construction_fit (MorePlacedStatements (PlacedIfElse a b d e) xs) v h = unwritten
    construction_fit (MorePlacedStatements (PlacedWhile a b d) xs) v h = unwritten
    construction_fit (MorePlacedStatements (PlacedDo a b d) xs) v h = unwritten
    construction_fit (MorePlacedStatements (PlacedFor a b d e g) xs) v h = unwritten
    construction_fit (MorePlacedStatements (PlacedForEach a b d e g i) xs) v h = unwritten

  -- initializers of fields

  module _ (t : This ≡ true) where
    field_fit : (o : Option ℕ) (e : PlacedTree) → FieldInitialized P m o e → field_rows P m o e ≡ [] → Fitting.FieldFit P first This m o e
    field_fit None e v h = tt
    field_fit (Some f) e v h = by (is_static P f) v h
      where
        by : (b : Bool) → KindInitialized P m b e → when (not b) (rows_of P (class P m) in_initializer [] e) ≡ [] → Fitting.FieldKindFit P first This m b e
        by true v h = tt
        by false v h = (t, fit_of P first This (class P m) in_initializer [] (λ z. t) (λ n l e. cc) (ctors_of P H) e v h)

    initializer_fit : (n : ℕ) (o : Option PlacedTree) → OptionalInitialized P m n o → initializer_rows P m n o ≡ [] → Fitting.OptionalInitializer P first This m n o
    initializer_fit n None v h = tt
    initializer_fit n (Some e) v h = field_fit (declared_field P (class P m) n (class P m)) e v h

    initializers_fit : (ds : List PlacedDeclarator) → DeclaratorsInitialized P m ds → initializers_rows P m ds ≡ [] → Fitting.DeclaratorsInitialized P first This m ds
    initializers_fit [] v h = tt
    initializers_fit (d ∷ ds) v h =
        let p = append_none (initializer_rows P m d.name.name.0 d.value) (initializers_rows P m ds) h in
        (initializer_fit d.name.name.0 d.value v.0 p.0, initializers_fit ds v.1 p.1)

    members_fit : (xs : List PlacedMember) → MembersInitialized P m xs → member_rows P m xs ≡ [] → Fitting.MembersInitialized P first This m xs
    members_fit [] v h = tt
    members_fit (x ∷ xs) v h =
        let p = append_none (initializers_rows P m (declarators_of x)) (member_rows P m xs) h in
        (initializers_fit (declarators_of x) v.0 p.0, members_fit xs v.1 p.1)

-- a body
body_fit : (P : Program) (H : Regular P) (s : Source) → BodyValued P s.method s.parameters s.body s.members → rows_of_source P s ≡ [] → Fitting.BodyFit P (local_count P s.method s.body) (not (static_of (method_at P s.method))) s.method s.parameters s.body s.members
body_fit P H s v h = (begins (ctor_of (method_at P m)) refl v.0 p.0, all_statements_fit P first (not (static_of (method_at P m))) (class P m) (in_body P m) (λ t. t) (ctors_of P H) inits.behind (standing start) same here xs (omega arith) v.1 p.1)
  where
    m : ℕ
    m = s.method

    xs : PlacedStatements
    xs = s.body

    first : ℕ
    first = local_count P m xs

    start : LState
    start = at_entry P m s.parameters

    calls : Step
    calls = call_of P m first (ctor_of (method_at P m)) start xs

    inits : Step
    inits = fields_of P m first (ctor_of (method_at P m)) calls.behind xs s.members

    begun : List Row
    begun = construction_rows P m start xs ++ when (not (calls_own xs)) (member_rows P m s.members)

    p : (when (ctor_of (method_at P m)) begun ≡ []) × (all_rows P (class P m) first (in_body P m) inits.behind xs ≡ [])
    p = append_none (when (ctor_of (method_at P m)) begun) (all_rows P (class P m) first (in_body P m) inits.behind xs) h

    same : standing inits.behind ≡ standing start
    same = fields_of_stand P first m (ctor_of (method_at P m)) calls.behind xs s.members ∙ call_of_stands P first m (ctor_of (method_at P m)) start xs

    here : Here (not (static_of (method_at P m))) (standing start)
    here = entry (static_of (method_at P m)) (Ref (record { 0 = class_of (method_at P m) })) s.parameters (params_of (method_at P m))

    begins : (b : Bool) → ctor_of (method_at P m) ≡ b → BeginsValued P m b start.scope xs s.members → when b begun ≡ [] → Fitting.BeginsFit P first (not (static_of (method_at P m))) m b start.scope xs s.members
    begins false e u h = tt
    begins true e u h =
        let q = append_none (construction_rows P m start xs) (when (not (calls_own xs)) (member_rows P m s.members)) h in
        let t = in_ctor P H m first e in
        (construction_fit P H m first t start here (omega arith) xs u.0 q.0, λ n. members_fit P H m first t s.members (u.1 n) (subst (λ z. when (not z) (member_rows P m s.members) ≡ []) n q.1))

-- a source of which all have no rows
pub none_of : (P : Program) (ss : List Source) (b : ℕ) (s : Source) → slice_get ss b ≡ Some s → rows_of_bodies P ss ≡ [] → rows_of_source P s ≡ []
none_of P [] b s e h = cc
none_of P (x ∷ ss) zero s e h =
    let same : x ≡ s = cc in
    let p = append_none (rows_of_body P x) (rows_of_bodies P ss) h in
    subst (λ z. rows_of_source P z ≡ []) same (append_none (rows_of_source P x) (limit_rows P (rows_of_source P x) x) p.0).0
none_of P (x ∷ ss) (suc b) s e h = none_of P ss b s e (append_none (rows_of_body P x) (rows_of_bodies P ss) h).1

-- all bodies
pub fitting_by : (P : Program) (sources : List Source) → Regular P → ((b : ℕ) (s : Source) → slice_get sources b ≡ Some s → rows_of_source P s ≡ []) → AllValuing P sources → Fitting.AllFitting P sources
fitting_by P sources H none valued m b s body there = body_fit P H s (valued m b s body there) (none b s there)

pub all_fitting : (P : Program) (sources : List Source) → Regular P → rows_of_bodies P sources ≡ [] → AllValuing P sources → Fitting.AllFitting P sources
all_fitting P sources H none valued = fitting_by P sources H (λ b s there. none_of P sources b s there none) valued
