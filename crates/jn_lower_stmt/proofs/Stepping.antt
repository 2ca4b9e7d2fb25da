-- What forms of statements do, of what their parts do.
use Rattle.std.proofs.Common.{◌≡◌, ◌<◌, ◌≤◌, ℕ, get_or, ◌+◌, ◌-◌, List, [], ◌∷◌, ◌++◌, length, drop, refl, sym, ap, ◌∙◌, subst, append_assoc, arith}
use Rattle.std.specs.Prelude.{Bool, true, false, cond, ◌&&◌, Option, Some, None}
use Rattle.std.proofs.lemmas.List.{drop_more, length-append}
use Rattle.std.proofs.Math.ListN.{drop_of_length-le}
use Rattle.std.proofs.Math.Seq.{drop-append_seam}
use Rattle.jn_base.specs.declared.place.Row.{Row}
use Rattle.jn_base.specs.declared.place.Span.{Span}
use Rattle.jn_quals.specs.Qualifier.{Qualifier}
use Rattle.jn_points.specs.declared.point.BaseType.{BaseType}
use Rattle.jn_points.specs.declared.program.Program.{Program}
use Rattle.jn_places.specs.Placed.{PlacedTree, PlacedTrees, NoPlacedTrees, MorePlacedTrees, PlacedDeclarator, PlacedLocal, PlacedInit, PlacedExpressions, PlacedDeclaration, PlacedStatement, PlacedStatements, PlacedBlock, PlacedLocalStatement, NoPlacedStatements, MorePlacedStatements}
use Rattle.jn_trees.specs.declared.statement.Stmt.{Stmt}
use Rattle.jn_places.specs.PlacedView.{placed_statement, placed_statements}
use Rattle.jn_lowering.specs.Fragments.{goes}
use Rattle.jn_lowering.specs.Scopes.{Local, Scope, local_in}
use Rattle.jn_lowering.specs.Forms.{Condition}
use Rattle.jn_lowering.specs.Locals.{State, declares, has_value, is_some, with_temporaries}
use Rattle.jn_lowering.specs.Statements.{Step, back, declaration, declarator, declarators, do_form, effects, for_form, fresh, if_else_form, if_form, init, initialized, no_step, keeps_scope, lowered_in, returned, statement, statements, while_form}
use Rattle.jn_lower_expr.specs.declared.emitter.Emitter.{Emitter}
use Rattle.jn_lower_expr.specs.Lowering.{Adds}
use Rattle.jn_lower_stmt.specs.Views.{with_names, with_taken}
use Rattle.jn_lower_stmt.specs.Stating.{Made, Steps, StepsOn, TestsIn}
use Rattle.jn_lower_stmt.proofs.Piecing.{nothing_done}
use Rattle.jn_lower_stmt.proofs.Labelling.{Reached, do_adds, for_adds, if_adds, if_else_adds, while_adds}

-- the second scope has the names of the first one, and those that were declared since
abbrev pub Extends : Scope → Scope → Type 0
Extends a b = (more : Scope) × (b ≡ more ++ a)

pub extends_same : (a : Scope) → Extends a a
extends_same a = ([], refl)

pub extends_on : (a b c : Scope) → Extends a b → Extends b c → Extends a c
extends_on a b c f g = (g.0 ++ f.0, g.1 ∙ ap (λ x. g.0 ++ x) f.1 ∙ sym (append_assoc g.0 f.0 a))

pub local_extends : (b : Bool) (s : Scope) (l : Local) → Extends s (cond b s (l ∷ s))
local_extends true s l = ([], refl)
local_extends false s l = (l ∷ [], refl)

-- the names that were in scope are left
left_names : (a b : Scope) → Extends a b → drop (length b - length a) b ≡ a
left_names a b f =
    ap (λ (s : Scope). drop (length s - length a) s) f.1
    ∙ ap (λ n. drop n (f.0 ++ a)) (let l : length (f.0 ++ a) ≡ length f.0 + length a = length-append f.0 a in let s : length (f.0 ++ a) - length a ≡ length f.0 = omega (l, arith) in s)
    ∙ drop-append_seam f.0 a

module _ (P : Program) (c first : ℕ) where
  initialized_extends : (name : Span) (r : ℕ) (bound : Option Qualifier) (st : State) (o : Option PlacedTree) → (initialized P c first name r bound st o).behind.scope ≡ st.scope
  initialized_extends name r bound st None = refl
  initialized_extends name r bound st (Some e) = refl

  declarator_extends : (base : BaseType) (bound : Option Qualifier) (final : Bool) (faults : List Row) (st : State) (d : PlacedDeclarator) → Extends st.scope (declarator P c first base bound final faults st d).behind.scope
  declarator_extends base bound final faults st d =
      let u : State = declares st d.name.name.0 base bound (final && has_value d) faults in
      let l : Local = record { name = d.name.name.0; reg = length st.locals; base = base; bound = bound; fixed = final && has_value d; faults = faults } in
      subst (λ (s : Scope). Extends st.scope s) (sym (initialized_extends d.name.span (length st.locals) bound u d.value)) (local_extends (is_some (local_in st.scope d.name.name.0)) st.scope l)

  declarators_extends : (base : BaseType) (bound : Option Qualifier) (final : Bool) (faults : List Row) (st : State) (ds : List PlacedDeclarator) → Extends st.scope (declarators P c first base bound final faults st ds).behind.scope
  declarators_extends base bound final faults st [] = extends_same st.scope
  declarators_extends base bound final faults st (d ∷ ds) =
      let u : State = (declarator P c first base bound final faults st d).behind in
      extends_on st.scope u.scope (declarators P c first base bound final faults u ds).behind.scope (declarator_extends base bound final faults st d) (declarators_extends base bound final faults u ds)

  declaration_extends : (st : State) (l : PlacedLocal) → Extends st.scope (declaration P c first st l).behind.scope
  declaration_extends st l = declarators_extends _ _ _ _ st (l.first ∷ l.more)

  pub effects_extends : (st : State) (es : PlacedTrees) → (effects P c first st es).behind.scope ≡ st.scope
  effects_extends st NoPlacedTrees = refl
  effects_extends st (MorePlacedTrees e es) = effects_extends (with_temporaries st (lowered_in P c first st e).behind) es

  pub returned_extends : (span : Span) (st : State) (o : Option PlacedTree) → (returned P c first span st o).behind.scope ≡ st.scope
  returned_extends span st None = refl
  returned_extends span st (Some e) = refl

  pub init_extends : (st : State) (i : PlacedInit) → Extends st.scope (init P c first st i).behind.scope
  init_extends st (PlacedExpressions es) = ([], effects_extends st es)
  init_extends st (PlacedDeclaration l) = declaration_extends st l

  -- a statement leaves the temporaries taken as they are, and the names that were in scope
  pub statement_extends : (st : State) (x : PlacedStatement) → Extends st.scope (statement P c first st x).behind.scope
  statement_extends st (PlacedLocalStatement l span) = declaration_extends (fresh st) l
  statement_extends st (PlacedBlock body span) = extends_same st.scope
  statement_extends st x = extends_same st.scope

  pub statements_extends : (st : State) (xs : PlacedStatements) → Extends st.scope (statements P c first st xs).behind.scope
  statements_extends st NoPlacedStatements = extends_same st.scope
  statements_extends st (MorePlacedStatements x xs) =
      let u : State = (statement P c first st x).behind in
      extends_on st.scope u.scope (statements P c first u xs).behind.scope (statement_extends st x) (statements_extends u xs)

  statement_holds : (st : State) (x : PlacedStatement) → (statement P c first st x).behind.temporaries.taken ≡ st.temporaries.taken
  statement_holds st (PlacedBlock body span) = refl
  statement_holds st x = refl

  pub statements_hold : (st : State) (xs : PlacedStatements) → (statements P c first st xs).behind.temporaries.taken ≡ st.temporaries.taken
  statements_hold st NoPlacedStatements = refl
  statements_hold st (MorePlacedStatements x xs) = statements_hold (statement P c first st x).behind xs ∙ statement_holds st x

-- the state is put back after the statement
abbrev pub PutBack : State → State → State → Type 0
PutBack st u w = (x : Step) → u ≡ x.behind → Extends st.scope x.behind.scope → w ≡ (back st x).behind

pub put_back : (st u w : State) (names : ℕ) (held : List ℕ) → names ≡ length st.scope → held ≡ st.temporaries.taken → w ≡ with_taken (with_names u names) held → PutBack st u w
put_back st u w names held is_names is_held is = λ x same extends.
    is
    ∙ ap (λ n. with_taken (with_names u n) held) is_names
    ∙ ap (λ ts. with_taken (with_names u (length st.scope)) ts) is_held
    ∙ ap (λ (v : State). with_taken (with_names v (length st.scope)) st.temporaries.taken) same
    ∙ ap (λ (s : Scope). record { scope = s; locals = x.behind.locals; temporaries = record { bases = x.behind.temporaries.bases; taken = st.temporaries.taken } }) (left_names st.scope x.behind.scope extends)

-- a step that leads nowhere but to what follows
pub any_way : (x : Step) (one two : ℕ) (e g : Emitter) (u : State) → StepsOn x e g u → Steps x one two e g u
any_way x one two e g u s = record { adds = s.runs one two; behind = s.behind }

-- a statement without others in it
pub simply_done : (x : Step) (st u w : State) (e g : Emitter) → StepsOn x e g u → x.behind.scope ≡ st.scope → PutBack st u w → StepsOn (back st x) e g w
simply_done x st u w e g s same put = record { runs = s.runs; behind = put x s.behind ([], same) }

pub declared_done : (x : Step) (st u w : State) (held : List ℕ) (e g : Emitter) → StepsOn x e g u → held ≡ st.temporaries.taken → w ≡ with_taken u held → StepsOn (keeps_scope st x) e g w
declared_done x st u w held e g s is_held is = record { runs = s.runs; behind = is ∙ ap (λ ts. with_taken u ts) is_held ∙ ap (λ (v : State). with_taken v st.temporaries.taken) s.behind }

-- a block
pub block_done : (x : Step) (st u w : State) (names one two : ℕ) (e g : Emitter) → names ≡ length st.scope → Steps x one two e g u → w ≡ with_names u names → x.behind.temporaries.taken ≡ st.temporaries.taken → Extends st.scope x.behind.scope → Steps (back st x) one two e g w
block_done x st u w names one two e g is_names steps is holds extends = record {
  adds = steps.adds;
  behind =
      is
      ∙ ap (λ n. with_names u n) is_names
      ∙ ap (λ (v : State). with_names v (length st.scope)) steps.behind
      ∙ ap (λ (s : Scope). record { scope = s; locals = x.behind.locals; temporaries = x.behind.temporaries }) (left_names st.scope x.behind.scope extends)
      ∙ ap (λ ts. record { scope = st.scope; locals = x.behind.locals; temporaries = record { bases = x.behind.temporaries.bases; taken = ts } }) holds;
}

-- `if` without `else`
pub if_done : (q : Condition) (f : State → Step) (st s2 s3 s4 : State) (one two l n : ℕ) (e0 e1 e2 e3 e4 e5 e6 : Emitter) → Made l e0 e1 → Made n e1 e2 → TestsIn q (fresh st) l n e2 e3 s2 → Reached l e3 e4 → Steps (f s2) one two e4 e5 s3 → Reached n e5 e6 →
    ((u : State) → Extends u.scope (f u).behind.scope) → PutBack st s3 s4 → Steps (back st (if_form q (f (with_temporaries st q.behind)))) one two e0 e6 s4
if_done q f st s2 s3 s4 one two l n e0 e1 e2 e3 e4 e5 e6 ml mn tq pl sx pn extends put =
    let x : Step = f (with_temporaries st q.behind) in
    let there : Steps x one two e4 e5 s3 = subst (λ (s : State). Steps (f s) one two e4 e5 s3) tq.behind sx in
    record {
      adds = if_adds q.fragment x.fragment one two l n e0 e1 e2 e3 e4 e5 e6 ml mn tq.adds pl there.adds pn;
      behind = put (if_form q x) there.behind (extends (with_temporaries st q.behind));
    }

-- `if` with `else`
pub if_else_done : (q : Condition) (f h : State → Step) (span : Span) (st s2 s3 s4 s5 : State) (one two l o n : ℕ) (e0 e1 e2 e3 e4 e5 e6 e7 e8 e9 e10 : Emitter) → Made l e0 e1 → Made o e1 e2 → Made n e2 e3 → TestsIn q (fresh st) l o e3 e4 s2 → Reached l e4 e5 → Steps (f s2) one two e5 e6 s3 →
    ((second : ℕ) → Adds (goes span) n second e6 e7) → Reached o e7 e8 → Steps (h s3) one two e8 e9 s4 → Reached n e9 e10 →
    ((u : State) → Extends u.scope (f u).behind.scope) → ((u : State) → Extends u.scope (h u).behind.scope) → PutBack st s4 s5 →
    Steps (back st (if_else_form span q (f (with_temporaries st q.behind)) (h (f (with_temporaries st q.behind)).behind))) one two e0 e10 s5
if_else_done q f h span st s2 s3 s4 s5 one two l o n e0 e1 e2 e3 e4 e5 e6 e7 e8 e9 e10 ml mo mn tq pl sx aj po sy pn extends extend put =
    let x : Step = f (with_temporaries st q.behind) in
    let there : Steps x one two e5 e6 s3 = subst (λ (s : State). Steps (f s) one two e5 e6 s3) tq.behind sx in
    let other : Steps (h x.behind) one two e8 e9 s4 = subst (λ (s : State). Steps (h s) one two e8 e9 s4) there.behind sy in
    record {
      adds = if_else_adds q.fragment x.fragment (goes span) (h x.behind).fragment one two l o n e0 e1 e2 e3 e4 e5 e6 e7 e8 e9 e10 ml mo mn tq.adds pl there.adds (aj n) po other.adds pn;
      behind = put (if_else_form span q x (h x.behind)) other.behind (extends_on st.scope x.behind.scope (h x.behind).behind.scope (extends (with_temporaries st q.behind)) (extend x.behind));
    }

-- `while`
pub while_done : (q : Condition) (f : State → Step) (span : Span) (st s2 s3 s4 : State) (one two s i n : ℕ) (e0 e1 e2 e3 e4 e5 e6 e7 e8 e9 : Emitter) → Made s e0 e1 → Made i e1 e2 → Made n e2 e3 → Reached s e3 e4 → TestsIn q (fresh st) i n e4 e5 s2 → Reached i e5 e6 → Steps (f s2) n s e6 e7 s3 →
    ((second : ℕ) → Adds (goes span) s second e7 e8) → Reached n e8 e9 → ((u : State) → Extends u.scope (f u).behind.scope) → PutBack st s3 s4 → Steps (back st (while_form span q (f (with_temporaries st q.behind)))) one two e0 e9 s4
while_done q f span st s2 s3 s4 one two s i n e0 e1 e2 e3 e4 e5 e6 e7 e8 e9 ms mi mn ps tq pi sx aj pn extends put =
    let x : Step = f (with_temporaries st q.behind) in
    let there : Steps x n s e6 e7 s3 = subst (λ (u : State). Steps (f u) n s e6 e7 s3) tq.behind sx in
    record {
      adds = while_adds q.fragment x.fragment (goes span) one two s i n e0 e1 e2 e3 e4 e5 e6 e7 e8 e9 ms mi mn ps tq.adds pi there.adds (aj s) pn;
      behind = put (while_form span q x) there.behind (extends (with_temporaries st q.behind));
    }

-- `do`
pub do_done : (x : Step) (g : State → Condition) (st s2 s3 s4 : State) (one two s a n : ℕ) (e0 e1 e2 e3 e4 e5 e6 e7 e8 : Emitter) → Made s e0 e1 → Made a e1 e2 → Made n e2 e3 → Reached s e3 e4 → Steps x n a e4 e5 s2 → Reached a e5 e6 → TestsIn (g s2) s2 s n e6 e7 s3 → Reached n e7 e8 →
    Extends st.scope x.behind.scope → PutBack st s3 s4 → Steps (back st (do_form x (g x.behind))) one two e0 e8 s4
do_done x g st s2 s3 s4 one two s a n e0 e1 e2 e3 e4 e5 e6 e7 e8 ms ma mn ps sx pa tq pn extends put =
    let there : TestsIn (g x.behind) x.behind s n e6 e7 s3 = subst (λ (u : State). TestsIn (g u) u s n e6 e7 s3) sx.behind tq in
    record {
      adds = do_adds x.fragment (g x.behind).fragment one two s a n e0 e1 e2 e3 e4 e5 e6 e7 e8 ms ma mn ps sx.adds pa there.adds pn;
      behind = put (do_form x (g x.behind)) there.behind extends;
    }

-- `for`
pub for_done : (i : Step) (g : State → Condition) (f h : State → Step) (span : Span) (st s1 s2 s3 s4 s5 : State) (one two t w a n : ℕ) (e0 e1 e2 e3 e4 e5 e6 e7 e8 e9 e10 e11 e12 e13 : Emitter) → Made t e0 e1 → Made w e1 e2 → Made a e2 e3 → Made n e3 e4 → StepsOn i e4 e5 s1 → Reached t e5 e6 → TestsIn (g s1) s1 w n e6 e7 s2 → Reached w e7 e8 →
    Steps (f s2) n a e8 e9 s3 → Reached a e9 e10 → StepsOn (h s3) e10 e11 s4 → ((second : ℕ) → Adds (goes span) t second e11 e12) → Reached n e12 e13 →
    Extends st.scope i.behind.scope → ((u : State) → Extends u.scope (f u).behind.scope) → ((u : State) → Extends u.scope (h u).behind.scope) → PutBack st s4 s5 →
    Steps (back st (for_form span i (g i.behind) (f (with_temporaries i.behind (g i.behind).behind)) (h (f (with_temporaries i.behind (g i.behind).behind)).behind))) one two e0 e13 s5
for_done i g f h span st s1 s2 s3 s4 s5 one two t w a n e0 e1 e2 e3 e4 e5 e6 e7 e8 e9 e10 e11 e12 e13 mt mw ma mn si pt tq pw sx pa su aj pn within extends extend put =
    let q : Condition = g i.behind in
    let u : State = with_temporaries i.behind q.behind in
    let x : Step = f u in
    let test : TestsIn q i.behind w n e6 e7 s2 = subst (λ (s : State). TestsIn (g s) s w n e6 e7 s2) si.behind tq in
    let body : Steps x n a e8 e9 s3 = subst (λ (s : State). Steps (f s) n a e8 e9 s3) test.behind sx in
    let update : StepsOn (h x.behind) e10 e11 s4 = subst (λ (s : State). StepsOn (h s) e10 e11 s4) body.behind su in
    record {
      adds = for_adds i.fragment q.fragment x.fragment (h x.behind).fragment (goes span) one two t w a n e0 e1 e2 e3 e4 e5 e6 e7 e8 e9 e10 e11 e12 e13 mt mw ma mn si.runs pt test.adds pw body.adds pa update.runs (aj t) pn;
      behind = put (for_form span i q x (h x.behind)) update.behind (extends_on st.scope u.scope (h x.behind).behind.scope within (extends_on u.scope x.behind.scope (h x.behind).behind.scope (extends u) (extend x.behind)));
    }

pub nothing_stepped : (one two : ℕ) (e : Emitter) (st : State) → Steps (no_step st) one two e e st
nothing_stepped one two e st = any_way (no_step st) one two e e st (nothing_done e st)

-- what is left before a step of a loop over statements, and at its end
pub statements_left : (xs : List Stmt) (i : ℕ) (x : Stmt) → i < length xs → x ≡ get_or xs i x → placed_statements (drop i xs) ≡ MorePlacedStatements (placed_statement x) (placed_statements (drop (i + 1) xs))
statements_left xs i x lt is = ap placed_statements (drop_more xs i x lt) ∙ ap (λ y. MorePlacedStatements (placed_statement y) (placed_statements (drop (i + 1) xs))) (sym is)

pub no_statements_left : (xs : List Stmt) (i : ℕ) → length xs ≤ i → placed_statements (drop i xs) ≡ NoPlacedStatements
no_statements_left xs i le = ap placed_statements (drop_of_length-le xs le)
