-- Where the points of a statement have no rows of types, each operand of it has a value.
use Rattle.std.specs.Prelude.{pos}
use Rattle.jn_base.specs.declared.place.Row.{Row}
use Rattle.jn_base.specs.declared.place.Span.{Span}
use Rattle.jn_quals.specs.Qualifier.{Qualifier}
use Rattle.jn_points.specs.declared.point.BaseType.{BaseType}
use Rattle.jn_points.specs.declared.program.Program.{Program}
use Rattle.jn_points.specs.Lookup.{elem_base}
use Rattle.jn_places.specs.Placed.{PlacedTree, PlacedTrees, NoPlacedTrees, MorePlacedTrees, PlacedDeclarator, PlacedLocal, PlacedInit, PlacedExpressions, PlacedDeclaration, PlacedStatement, PlacedStatements, PlacedBlock, PlacedEmpty, PlacedExpression, PlacedBreak, PlacedContinue, PlacedReturn, PlacedLocalStatement, PlacedIf, PlacedIfElse, PlacedWhile, PlacedDo, PlacedFor, PlacedForEach, PlacedThisCall, PlacedSuperCallStatement, NoPlacedStatements, MorePlacedStatements}
use Rattle.jn_lowering.specs.Bases.{type_of}
use Rattle.jn_lowering.specs.Forms.{Condition, Value as Lowered}
use Rattle.jn_lowering.specs.Annotations.{base_rows}
use Rattle.jn_lowering.specs.Locals.{State as LState, all_declared, declared, declares, has_final, has_value, with_temporaries}
use Rattle.jn_lowering.specs.Statements.{Step, declarator, each_array, each_element, each_state, each_tested, fresh, init, local_bound, local_type, optional_test, statement, tested_in}
use Rattle.jn_lowering.specs.ExpressionRows.{Setting, rows_of, rows_of_all}
use Rattle.jn_lowering.specs.StatementRows.{all_rows, array_rows, declaration_rows, declarator_rows, declarators_rows, declared_rows, effect_rows, init_rows, optional_rows, rows_in, statement_rows, use_rows}
use Rattle.jn_meaning.specs.Statements.{Standing, behind, behind_declarator, behind_init, declares as declares', further}
use Rattle.std.proofs.Common.{◌≡◌, ◌+◌, ◌<◌, ℕ, Bool, ◌&&◌, List, [], ◌∷◌, ◌++◌, length, Option, Some, None, ap, ◌∙◌, subst}
use Rattle.jn_points.specs.declared.point.BaseType.TheVariants.{Int}
use Rattle.jn_points.specs.declared.point.PointKind.TheVariants.{Const, Move, Return}
use Rattle.jn_points.specs.declared.point.Literal.TheVariants.{Int as IntOf}
use Rattle.jn_points.specs.BaseRows.{Within, returned as wanted}
use Rattle.jn_points.specs.Lookup.{reg_base}
use Rattle.jn_lowering.specs.Fragments.{Fragment, Part, does, goes, plain, then, to}
use Rattle.jn_lowering.specs.Forms.{branch, register}
use Rattle.jn_lowering.specs.Locals.{annotations_of}
use Rattle.jn_lowering.specs.Statements.{declaration, declarators, each_next, each_one, effects, initialized, lowered_in, returned, statements, through}
use Rattle.jn_lowering.specs.Expressions.{span_of}
use Rattle.jn_lowering.proofs.NoRows.{append_none}
use Rattle.jn_lowering.proofs.Ranges.{Heads, ScopeIn, elem_in, type_in, use_in}
use Rattle.jn_lowering.proofs.Taking.{InClasses, take_grows}
use Rattle.jn_lowering.proofs.Onward.{Onward, declarator_on, declarators_on, each_body_on, each_next_grows, each_tested_grows, effects_on, init_on, onward_declares, optional_grows, statement_on, statements_on, test_grows}
use Rattle.jn_meaning.proofs.Valuing.{AllEffectual, DeclarationValued, DeclaratorsValued, Effectual, InitValued, OptionalValued, StatementValued, StatementsValued, Valued}
use Rattle.jn_meaning.proofs.Standings.{declarator_stands, each_stands, init_stands, standing, stands_behind, stands_declared}
use Rattle.jn_meaning.proofs.Clearing.{Clean, Final, HasValue, final_before, parts_clean, read_value, then_clean}
use Rattle.jn_meaning.proofs.Reaching.{gives_clean}
use Rattle.jn_meaning.proofs.Worth.{effect_of, test_of, value_of}

module _ (P : Program) (H : Heads P) (b first : ℕ) (c : ℕ) (there : c < length P.classes) (at : Setting) where
  -- the temporaries of a state have their types in the body
  abbrev pub Settles : LState → Type 0
  Settles st = Final P b first st.temporaries

  settles_before : (st u : LState) (n : ℕ) → Onward P st u n → Settles u → Settles st
  settles_before st u n g f = final_before P b first st.temporaries u.temporaries g.temps f

  -- expressions where a statement stands

  value_in : (st : LState) (sd : Standing) → standing st ≡ sd → ScopeIn P st.scope → (e : PlacedTree) → rows_in P c first at st e ≡ [] → Final P b first (lowered_in P c first st e).behind → Clean P b (lowered_in P c first st e).fragment → HasValue P b (lowered_in P c first st e).operand → Valued P c sd.scope e
  value_in st sd same s e h fin k o = subst (λ (z : Standing). Valued P c z.scope e) same (value_of P H b first c there at st.scope s e st.temporaries h fin k o)

  test_in : (st : LState) (sd : Standing) → standing st ≡ sd → ScopeIn P st.scope → (e : PlacedTree) → rows_in P c first at st e ≡ [] → Final P b first (tested_in P c first st e).behind → Clean P b (tested_in P c first st e).fragment → Valued P c sd.scope e
  test_in st sd same s e h fin k = subst (λ (z : Standing). Valued P c z.scope e) same (test_of P H b first c there at st.scope s e st.temporaries h fin k)

  optional_in : (st : LState) (sd : Standing) → standing st ≡ sd → ScopeIn P st.scope → (o : Option PlacedTree) → optional_rows P c first at st o ≡ [] → Final P b first (optional_test P c first st o).behind → Clean P b (optional_test P c first st o).fragment → OptionalValued P c sd o
  optional_in st sd same s None h fin k = tt
  optional_in st sd same s (Some e) h fin k = test_in st sd same s e h fin k

  effect_in : (st : LState) (sd : Standing) → standing st ≡ sd → ScopeIn P st.scope → (e : PlacedTree) → rows_in P c first at st e ≡ [] → Final P b first (lowered_in P c first st e).behind → Clean P b (lowered_in P c first st e).fragment → Effectual P c sd.scope e
  effect_in st sd same s e h fin k = subst (λ (z : Standing). Effectual P c z.scope e) same (effect_of P H b first c there at st.scope s e st.temporaries h fin k)

  effects_in : (st : LState) (sd : Standing) → standing st ≡ sd → ScopeIn P st.scope → (es : PlacedTrees) → effect_rows P c first at st es ≡ [] → Settles (effects P c first st es).behind → Clean P b (effects P c first st es).fragment → AllEffectual P c sd es
  effects_in st sd same s NoPlacedTrees h fin k = tt
  effects_in st sd same s (MorePlacedTrees e es) h fin k =
      let v : Lowered = lowered_in P c first st e in
      let u : LState = with_temporaries st v.behind in
      let p = append_none (rows_of P c at st.scope e) (rows_of_all P c at st.scope es) h in
      let q = then_clean P b v.fragment (effects P c first u es).fragment k in
      let g = effects_on P H c there first u es s in
      (effect_in st sd same s e p.0 (settles_before u (effects P c first u es).behind 0 g fin) q.0, effects_in u sd same s es p.1 fin q.1)

  -- declarations

  initialized_in : (name : Span) (r : ℕ) (bound : Option Qualifier) (st : LState) (sd : Standing) → standing st ≡ sd → ScopeIn P st.scope → (o : Option PlacedTree) → optional_rows P c first at st o ≡ [] → Settles (initialized P c first name r bound st o).behind → Clean P b (initialized P c first name r bound st o).fragment → OptionalValued P c sd o
  initialized_in name r bound st sd same s None h fin k = tt
  initialized_in name r bound st sd same s (Some e) h fin k =
      let v : Lowered = lowered_in P c first st e in
      let q = then_clean P b v.fragment (does (through name (span_of e)) (Move (register r) v.operand bound)) k in
      value_in st sd same s e h fin q.0 (read_value P b (Within (reg_base P b r)) v.operand q.1.clear.0)

  module _ (base : BaseType) (i : InClasses P base) (bound : Option Qualifier) (is_final : Bool) (faults : List Row) where
    declarators_in : (st : LState) (sd : Standing) → standing st ≡ sd → ScopeIn P st.scope → (ds : List PlacedDeclarator) → declarators_rows P c first at base bound is_final faults st ds ≡ [] → Settles (declarators P c first base bound is_final faults st ds).behind → Clean P b (declarators P c first base bound is_final faults st ds).fragment → DeclaratorsValued P c base bound is_final faults sd ds
    declarators_in st sd same s [] h fin k = tt
    declarators_in st sd same s (d ∷ ds) h fin k =
        let n : ℕ = d.name.name.0 in
        let fixed : Bool = is_final && has_value d in
        let u : Standing = behind_declarator base bound is_final faults sd d in
        let inner : LState = declares st n base bound fixed faults in
        let x : Step = declarator P c first base bound is_final faults st d in
        let next : LState = x.behind in
        let y : Step = declarators P c first base bound is_final faults next ds in
        let same_inner : standing inner ≡ u = stands_declared P first c st n base bound fixed faults ∙ ap (λ z. declares' z n base bound fixed faults) same in
        let same_next : standing next ≡ u = declarator_stands P first c base bound is_final faults st d ∙ ap (λ z. behind_declarator base bound is_final faults z d) same in
        let p = append_none (declarator_rows P c first at base bound is_final faults st d) (declarators_rows P c first at base bound is_final faults next ds) h in
        let q = append_none (declared_rows st.scope n d.name.span) (optional_rows P c first at inner d.value) p.0 in
        let r = then_clean P b x.fragment y.fragment k in
        let g = declarator_on P H c there first base i bound is_final faults st d s in
        let m = declarators_on P H c there first base i bound is_final faults next ds g.scope in (
          initialized_in d.name.span (length st.locals) bound inner u same_inner (onward_declares P st n base bound fixed faults s i).scope d.value q.1 (settles_before next y.behind (length ds) m fin) r.0,
          declarators_in next u same_next g.scope ds p.1 fin r.1,
        )

  declaration_in : (st : LState) (sd : Standing) → standing st ≡ sd → ScopeIn P st.scope → (l : PlacedLocal) → declaration_rows P c first at st l ≡ [] → Settles (declaration P c first st l).behind → Clean P b (declaration P c first st l).fragment → DeclarationValued P c sd l
  declaration_in st sd same s l h fin k =
      let base : BaseType = local_type P c first l.marks l.type_use in
      let bound : Option Qualifier = local_bound P c first l.marks l.type_use in
      let p = append_none (use_rows P c first at l.marks l.type_use) (declarators_rows P c first at base bound (has_final l.marks) (base_rows P l.type_use.base) st (l.first ∷ l.more)) h in
      declarators_in base (use_in P H l.type_use (annotations_of l.marks)) bound (has_final l.marks) (base_rows P l.type_use.base) st sd same s (l.first ∷ l.more) p.1 fin k

  init_in : (st : LState) (sd : Standing) → standing st ≡ sd → ScopeIn P st.scope → (i : PlacedInit) → init_rows P c first at st i ≡ [] → Settles (init P c first st i).behind → Clean P b (init P c first st i).fragment → InitValued P c sd i
  init_in st sd same s (PlacedExpressions es) h fin k = effects_in st sd same s es h fin k
  init_in st sd same s (PlacedDeclaration l) h fin k = declaration_in st sd same s l h fin k

  returned_in : (span : Span) (st : LState) (sd : Standing) → standing st ≡ sd → ScopeIn P st.scope → (o : Option PlacedTree) → optional_rows P c first at st o ≡ [] → Settles (returned P c first span st o).behind → Clean P b (returned P c first span st o).fragment → OptionalValued P c sd o
  returned_in span st sd same s None h fin k = tt
  returned_in span st sd same s (Some e) h fin k =
      let v : Lowered = lowered_in P c first st e in
      let q = then_clean P b v.fragment (does span (Return (Some v.operand))) k in
      value_in st sd same s e h fin q.0 (read_value P b (wanted P b) v.operand q.1.clear.0)

  mutual
    statement_in : (st : LState) (sd : Standing) → standing st ≡ sd → ScopeIn P st.scope → (x : PlacedStatement) → statement_rows P c first at st x ≡ [] → Settles (statement P c first st x).behind → Clean P b (statement P c first st x).fragment → StatementValued P c sd x
    statement_in st sd same s (PlacedBlock body span) h fin k = all_valued st sd same s body h fin k
    statement_in st sd same s (PlacedEmpty span) h fin k = tt
    statement_in st sd same s (PlacedExpression e span) h fin k = effect_in (fresh st) sd same s e h fin k
    statement_in st sd same s (PlacedBreak span) h fin k = tt
    statement_in st sd same s (PlacedContinue span) h fin k = tt
    statement_in st sd same s (PlacedReturn value span) h fin k = returned_in span (fresh st) sd same s value h fin k
    statement_in st sd same s (PlacedLocalStatement l span) h fin k = declaration_in (fresh st) sd same s l h fin k
    statement_in st sd same s (PlacedIf q body span) h fin k =
        let test : Condition = tested_in P c first (fresh st) q in
        let u : LState = with_temporaries st test.behind in
        let x : Step = statement P c first u body in
        let p = append_none (rows_in P c first at st q) (statement_rows P c first at u body) h in
        let r = parts_clean P b (to test.fragment (Part 1) (Part 2) ∷ plain x.fragment ∷ []) k in
        (test_in (fresh st) sd same s q p.0 (settles_before u x.behind (declared body) (statement_on P H c there first u body s) fin) r.0, statement_in u sd same s body p.1 fin r.1.0)
    statement_in st sd same s (PlacedIfElse q body other span) h fin k =
        let test : Condition = tested_in P c first (fresh st) q in
        let u : LState = with_temporaries st test.behind in
        let x : Step = statement P c first u body in
        let y : Step = statement P c first x.behind other in
        let p = append_none (rows_in P c first at st q) (statement_rows P c first at u body ++ statement_rows P c first at x.behind other) h in
        let z = append_none (statement_rows P c first at u body) (statement_rows P c first at x.behind other) p.1 in
        let r = parts_clean P b (to test.fragment (Part 1) (Part 3) ∷ plain x.fragment ∷ to (goes span) (Part 4) (Part 4) ∷ plain y.fragment ∷ []) k in
        let g = statement_on P H c there first u body s in
        let f : Settles x.behind = settles_before x.behind y.behind (declared other) (statement_on P H c there first x.behind other g.scope) fin in
        let after : standing x.behind ≡ behind P sd body = stands_behind P first c u body ∙ ap (λ z. behind P z body) same in
        (test_in (fresh st) sd same s q p.0 (settles_before u x.behind (declared body) g f) r.0, (statement_in u sd same s body z.0 f r.1.0, statement_in x.behind (behind P sd body) after g.scope other z.1 fin r.1.1.1.0))
    statement_in st sd same s (PlacedWhile q body span) h fin k =
        let test : Condition = tested_in P c first (fresh st) q in
        let u : LState = with_temporaries st test.behind in
        let x : Step = statement P c first u body in
        let p = append_none (rows_in P c first at st q) (statement_rows P c first at u body) h in
        let r = parts_clean P b (to test.fragment (Part 1) (Part 3) ∷ to x.fragment (Part 3) (Part 0) ∷ to (goes span) (Part 0) (Part 0) ∷ []) k in
        (test_in (fresh st) sd same s q p.0 (settles_before u x.behind (declared body) (statement_on P H c there first u body s) fin) r.0, statement_in u sd same s body p.1 fin r.1.0)
    statement_in st sd same s (PlacedDo body q span) h fin k =
        let x : Step = statement P c first (fresh st) body in
        let test : Condition = tested_in P c first x.behind q in
        let p = append_none (statement_rows P c first at (fresh st) body) (rows_in P c first at x.behind q) h in
        let r = parts_clean P b (to x.fragment (Part 2) (Part 1) ∷ to test.fragment (Part 0) (Part 2) ∷ []) k in
        let g = statement_on P H c there first (fresh st) body s in
        let after : standing x.behind ≡ behind P sd body = stands_behind P first c (fresh st) body ∙ ap (λ z. behind P z body) same in
        (statement_in (fresh st) sd same s body p.0 (final_before P b first x.behind.temporaries test.behind (test_grows P H c there first x.behind q g.scope) fin) r.0, test_in x.behind (behind P sd body) after g.scope q p.1 fin r.1.0)
    statement_in st sd same s (PlacedFor start q update body span) h fin k =
        let i : Step = init P c first (fresh st) start in
        let test : Condition = optional_test P c first i.behind q in
        let v : LState = with_temporaries i.behind test.behind in
        let x : Step = statement P c first v body in
        let e : Step = effects P c first x.behind update in
        let u : Standing = behind_init P sd start in
        let begun : standing i.behind ≡ u = init_stands P first c (fresh st) start ∙ ap (λ z. behind_init P z start) same in
        let after : standing x.behind ≡ behind P u body = stands_behind P first c v body ∙ ap (λ z. behind P z body) begun in
        let p = append_none (init_rows P c first at (fresh st) start) (optional_rows P c first at i.behind q ++ (statement_rows P c first at v body ++ effect_rows P c first at x.behind update)) h in
        let r = append_none (optional_rows P c first at i.behind q) (statement_rows P c first at v body ++ effect_rows P c first at x.behind update) p.1 in
        let z = append_none (statement_rows P c first at v body) (effect_rows P c first at x.behind update) r.1 in
        let w = parts_clean P b (plain i.fragment ∷ to test.fragment (Part 2) (Part 5) ∷ to x.fragment (Part 5) (Part 3) ∷ plain e.fragment ∷ to (goes span) (Part 1) (Part 1) ∷ []) k in
        let g = init_on P H c there first (fresh st) start s in
        let m = statement_on P H c there first v body g.scope in
        let f_x : Settles x.behind = settles_before x.behind e.behind 0 (effects_on P H c there first x.behind update m.scope) fin in
        let f_v : Settles v = settles_before v x.behind (declared body) m f_x in
        let f_i : Settles i.behind = final_before P b first i.behind.temporaries test.behind (optional_grows P H c there first i.behind q g.scope) f_v in (
          init_in (fresh st) sd same s start p.0 f_i w.0,
          (
            optional_in i.behind u begun g.scope q r.0 f_v w.1.0,
            (
              statement_in v u begun g.scope body z.0 f_x w.1.1.0,
              effects_in x.behind (behind P u body) after m.scope update z.1 fin w.1.1.1.0,
            ),
          ),
        )
    statement_in st sd same s (PlacedForEach marks use' name array body span) h fin k =
        let n : ℕ = name.name.0 in
        let r : ℕ = length st.locals in
        let base : BaseType = local_type P c first marks use' in
        let bound : Option Qualifier = local_bound P c first marks use' in
        let faults : List Row = base_rows P use'.base in
        let element_base : BaseType = elem_base (type_of P c st.scope array) in
        let v : Lowered = lowered_in P c first (fresh st) array in
        let start : Lowered = each_array P c first (fresh st) array in
        let test : Lowered = each_tested P c first start.operand.span r start.behind in
        let element : Lowered = each_element P c first start.operand.span r element_base test.behind in
        let u : LState = each_state P c first st (type_of P c st.scope array) base n bound (has_final marks) faults element.behind in
        let x : Step = statement P c first u body in
        let next : Lowered = each_next P c first start.operand.span r (each_one P c first start.operand.span x.behind.temporaries) in
        let d : Standing = declares' (further sd 2) n base bound (has_final marks) faults in
        let inside : standing u ≡ d = each_stands P first c st (type_of P c st.scope array) base n bound (has_final marks) faults element.behind ∙ ap (λ z. declares' (further z 2) n base bound (has_final marks) faults) same in
        let p = append_none (use_rows P c first at marks use') (array_rows P c first at st array ++ (declared_rows st.scope n name.span ++ statement_rows P c first at u body)) h in
        let q = append_none (array_rows P c first at st array) (declared_rows st.scope n name.span ++ statement_rows P c first at u body) p.1 in
        let z = append_none (declared_rows st.scope n name.span) (statement_rows P c first at u body) q.1 in
        let a = append_none (rows_in P c first at st array) _ q.0 in
        let w = parts_clean P b (
        plain (then start.fragment (does start.operand.span (Move (register (r + 1)) start.operand None)))
        ∷ to (branch test).fragment (Part 2) (Part 6)
        ∷ plain (then element.fragment (does start.operand.span (Move (register (r + 2)) element.operand bound)))
        ∷ to x.fragment (Part 6) (Part 4)
        ∷ plain (then next.fragment (does start.operand.span (Move (register (r + 1)) next.operand None)))
        ∷ to (goes start.operand.span) (Part 1) (Part 1)
        ∷ []) k in
        let g = each_body_on P H c there first st marks use' name.name.0 array s in
        let m = statement_on P H c there first u body g.scope in
        let f_x : Settles x.behind = final_before P b first x.behind.temporaries next.behind (each_next_grows P H c there first start.operand.span r x.behind.temporaries) fin in
        let f_e : Final P b first element.behind = settles_before u x.behind (declared body) m f_x in
        let f_t : Final P b first test.behind = final_before P b first test.behind element.behind (take_grows P test.behind element_base (elem_in P (type_of P c st.scope array) (type_in P H c there st.scope s array))) f_e in
        let f_s : Final P b first start.behind = final_before P b first start.behind test.behind (each_tested_grows P H c there first start.operand.span r start.behind) f_t in
        let y = then_clean P b start.fragment (does start.operand.span (Move (register (r + 1)) start.operand None)) w.0 in
        let moved : Fragment = does v.operand.span (Move (register r) v.operand None) in
        let l = gives_clean P H b first v.behind (then v.fragment moved) Int v.operand.span (λ dst. Const dst (IntOf (pos 0))) tt f_s y.0 in
        let o = then_clean P b v.fragment moved l.1 in
        (value_in (fresh st) sd same s array a.0 l.0 o.0 (read_value P b (Within (reg_base P b r)) v.operand o.1.clear.0), statement_in u d inside g.scope body z.1 f_x w.1.1.1.0)
    statement_in st sd same s (PlacedThisCall es span) h fin k = tt
    statement_in st sd same s (PlacedSuperCallStatement es span) h fin k = tt

    pub all_valued : (st : LState) (sd : Standing) → standing st ≡ sd → ScopeIn P st.scope → (xs : PlacedStatements) → all_rows P c first at st xs ≡ [] → Settles (statements P c first st xs).behind → Clean P b (statements P c first st xs).fragment → StatementsValued P c sd xs
    all_valued st sd same s NoPlacedStatements h fin k = tt
    all_valued st sd same s (MorePlacedStatements x xs) h fin k =
        let u : Step = statement P c first st x in
        let p = append_none (statement_rows P c first at st x) (all_rows P c first at u.behind xs) h in
        let r = then_clean P b u.fragment (statements P c first u.behind xs).fragment k in
        let g = statement_on P H c there first st x s in
        let m = statements_on P H c there first u.behind xs g.scope in
        let after : standing u.behind ≡ behind P sd x = stands_behind P first c st x ∙ ap (λ z. behind P z x) same in
        (statement_in st sd same s x p.0 (settles_before u.behind (statements P c first u.behind xs).behind (all_declared xs) m fin) r.0, all_valued u.behind (behind P sd x) after g.scope xs p.1 fin r.1)
