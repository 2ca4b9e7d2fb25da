-- Names in scope: statements only add some, and those that were there come back.
use Rattle.std.proofs.Common.{◌≡◌, ◌<◌, ◌≤◌, ℕ, get_or, ◌+◌, ◌-◌, List, [], ◌∷◌, ◌++◌, length, drop, sym, ap, ◌∙◌, arith}
use Rattle.std.specs.Prelude.{Bool, ◌&&◌, Option, OnOk, Result as Answer, Ok, Err}
use Rattle.std.proofs.lemmas.List.{drop_more, length-append}
use Rattle.std.proofs.Math.ListN.{drop_of_length-le}
use Rattle.std.proofs.Math.Seq.{drop-append_seam}
use Rattle.jn_base.specs.declared.place.Row.{Row}
use Rattle.jn_quals.specs.Qualifier.{Qualifier}
use Rattle.jn_points.specs.declared.point.BaseType.{BaseType}
use Rattle.jn_points.specs.declared.program.Program.{Program}
use Rattle.jn_places.specs.Placed.{PlacedDeclarator, PlacedLocal, PlacedInit, PlacedExpressions, PlacedDeclaration, PlacedParameter, PlacedStatement, PlacedLocalStatement, PlacedBlock, NoPlacedStatements, MorePlacedStatements}
use Rattle.jn_places.specs.PlacedView.{placed_statement, placed_statements}
use Rattle.jn_trees.specs.declared.statement.Stmt.{Stmt}
use Rattle.jn_lowering.specs.Scopes.{Scope, local_in}
use Rattle.jn_lowering.specs.Locals.{has_final, has_value, is_some}
use Rattle.jn_lower_stmt.proofs.Stepping.{extends_on, extends_same, local_extends}
use Rattle.jn_meaning.specs.Statements.{Standing, behind, behind_declaration, behind_declarator, behind_declarators, behind_init, declares}
use Rattle.jn_tree_simple.specs.Standings.{back_to}
use Rattle.jn_tree_stmt.specs.Running.{Grown, behind_variable}

-- what grew is at another place that is the same
pub grown_to : (a b c : Scope) → Grown a b → c ≡ b → Grown a c
grown_to a b c f is = (f.0, is ∙ f.1)

-- the names that were in scope are left
left_names : (a b : Scope) → Grown a b → drop (length b - length a) b ≡ a
left_names a b f =
    ap (λ (s : Scope). drop (length s - length a) s) f.1
    ∙ ap (λ n. drop n (f.0 ++ a)) (let l : length (f.0 ++ a) ≡ length f.0 + length a = length-append f.0 a in let s : length (f.0 ++ a) - length a ≡ length f.0 = omega (l, arith) in s)
    ∙ drop-append_seam f.0 a

declares_grows : (st : Standing) (name : ℕ) (base : BaseType) (bound : Option Qualifier) (fixed : Bool) (faults : List Row) → Grown st.scope (declares st name base bound fixed faults).scope
declares_grows st name base bound fixed faults = local_extends (is_some (local_in st.scope name)) st.scope (record { name = name; reg = st.count; base = base; bound = bound; fixed = fixed; faults = faults })

declarators_grow : (base : BaseType) (bound : Option Qualifier) (final : Bool) (faults : List Row) (st : Standing) (ds : List PlacedDeclarator) → Grown st.scope (behind_declarators base bound final faults st ds).scope
declarators_grow base bound final faults st [] = extends_same st.scope
declarators_grow base bound final faults st (d ∷ ds) =
    let u : Standing = behind_declarator base bound final faults st d in
    extends_on st.scope u.scope (behind_declarators base bound final faults u ds).scope (declares_grows st d.name.name.0 base bound (final && has_value d) faults) (declarators_grow base bound final faults u ds)

module _ (P : Program) where
  pub declaration_grows : (st : Standing) (l : PlacedLocal) → Grown st.scope (behind_declaration P st l).scope
  declaration_grows st l = declarators_grow _ _ _ _ st (l.first ∷ l.more)

  pub init_grows : (st : Standing) (i : PlacedInit) → Grown st.scope (behind_init P st i).scope
  init_grows st (PlacedExpressions es) = extends_same st.scope
  init_grows st (PlacedDeclaration l) = declaration_grows st l

  pub behind_grows : (st : Standing) (x : PlacedStatement) → Grown st.scope (behind P st x).scope
  behind_grows st (PlacedLocalStatement l span) = declaration_grows st l
  behind_grows st (PlacedBlock body span) = extends_same st.scope
  behind_grows st x = extends_same st.scope

  pub variable_grows : (st : Standing) (p : PlacedParameter) → Grown st.scope (behind_variable P st p).scope
  variable_grows st p = declares_grows (record { scope = st.scope; count = st.count + 2 }) p.name.name.0 _ _ (has_final p.marks) _

-- the names and locals that there were are put back
pub back_grown : (st u v : Standing) (names count : ℕ) → Grown st.scope u.scope → names ≡ length st.scope → count ≡ st.count → v ≡ back_to u names count → v ≡ st
back_grown st u v names count grown is_names is_count is =
    is
    ∙ ap (λ (n : ℕ). back_to u n count) is_names
    ∙ ap (λ (n : ℕ). back_to u (length st.scope) n) is_count
    ∙ ap (λ (s : Scope). record { scope = s; count = st.count }) (left_names st.scope u.scope grown)

-- after a statement
pub back_behind : (P : Program) (st u v : Standing) (x : PlacedStatement) (names count : ℕ) → u ≡ behind P st x → names ≡ length st.scope → count ≡ st.count → v ≡ back_to u names count → v ≡ st
back_behind P st u v x names count behind_is is_names is_count is = back_grown st u v names count (grown_to st.scope (behind P st x).scope u.scope (behind_grows P st x) (ap (λ (s : Standing). s.scope) behind_is)) is_names is_count is

-- what is left before a step of a loop over statements, and at its end
pub statements_left : (xs : List Stmt) (i : ℕ) (x : Stmt) → i < length xs → x ≡ get_or xs i x → placed_statements (drop i xs) ≡ MorePlacedStatements (placed_statement x) (placed_statements (drop (i + 1) xs))
statements_left xs i x lt is = ap placed_statements (drop_more xs i x lt) ∙ ap (λ y. MorePlacedStatements (placed_statement y) (placed_statements (drop (i + 1) xs))) (sym is)

pub no_statements_left : (xs : List Stmt) (i : ℕ) → length xs ≤ i → placed_statements (drop i xs) ≡ NoPlacedStatements
no_statements_left xs i le = ap placed_statements (drop_of_length-le xs le)

-- where a call was over
pub on_ok : {A E X : Type 0} → (r : Answer A E) → X → OnOk r X
on_ok (Ok x) given = given
on_ok (Err e) given = tt

pub ok_same : {A E : Type 0} → (r : Answer A E) (u v st : Standing) → OnOk r (u ≡ v) → v ≡ st → OnOk r (u ≡ st)
ok_same (Ok x) u v st is same = is ∙ same
ok_same (Err e) u v st is same = tt

pub ok_kept : {A E : Type 0} → (r : Answer A E) (a : Scope) (u v : Standing) → Grown a v.scope → OnOk r (u ≡ v) → OnOk r (Grown a u.scope)
ok_kept (Ok x) a u v grown is = grown_to a v.scope u.scope grown (ap (λ (s : Standing). s.scope) is)
ok_kept (Err e) a u v grown is = tt

pub ok_on : {A E : Type 0} → (r : Answer A E) (a b c : Scope) → Grown a b → OnOk r (Grown b c) → OnOk r (Grown a c)
ok_on (Ok x) a b c f g = extends_on a b c f g
ok_on (Err e) a b c f g = tt
