-- A `for` over an array, of what its parts do.
use Rattle.std.proofs.Common.{◌≡◌, ◌+◌, ℕ, List, refl, ap, ◌∙◌, subst}
use Rattle.std.specs.Prelude.{Bool, Option, None, pos}
use Rattle.jn_base.specs.declared.place.Row.{Row}
use Rattle.jn_base.specs.declared.place.Span.{Span}
use Rattle.jn_base.specs.declared.number.RegNo.{RegNo}
use Rattle.jn_quals.specs.Qualifier.{Qualifier}
use Rattle.jn_points.specs.declared.point.BaseType.{BaseType}
use Rattle.jn_points.specs.declared.point.BaseType.TheVariants.{Int}
use Rattle.jn_points.specs.declared.point.Literal.TheVariants.{Int as IntOf}
use Rattle.jn_points.specs.declared.point.Operand.{Operand}
use Rattle.jn_points.specs.declared.point.PointKind.{PointKind}
use Rattle.jn_points.specs.declared.point.PointKind.TheVariants.{Const, Move, Branch}
use Rattle.jn_points.specs.declared.program.Program.{Program}
use Rattle.jn_points.specs.Lookup.{elem_base}
use Rattle.jn_lowering.specs.Fragments.{Fragment, asks, does, goes, then}
use Rattle.jn_lowering.specs.Temporaries.{Temporaries, take_one}
use Rattle.jn_lowering.specs.Forms.{Value, branch, gives}
use Rattle.jn_lowering.specs.Locals.{State, declares, is_some, reserves, with_temporaries}
use Rattle.jn_lowering.specs.Scopes.{local_in}
use Rattle.jn_lowering.specs.Statements.{Step, back, each_element, each_form, each_next, each_one, each_start, each_tested, fresh}
use Rattle.jn_lower_expr.specs.declared.emitter.Emitter.{Emitter}
use Rattle.jn_lower_expr.specs.Lowering.{Adds, Gives, Runs}
use Rattle.jn_lower_expr.proofs.Giving.{given, then_adds, then_runs}
use Rattle.jn_lower_stmt.specs.Stating.{GivesIn, Made, Steps, StepsOn, TestsIn, moved_to}
use Rattle.jn_lower_stmt.proofs.Labelling.{Reached, each_adds}
use Rattle.jn_lower_stmt.proofs.Stepping.{Extends, PutBack, extends_on, local_extends}

-- what is worked out of a state, of one that is the same
pub in_state : {A : Type 0} (f : State → A) (x : A) (s u : State) → x ≡ f s → s ≡ u → x ≡ f u
in_state f x s u is same = is ∙ ap f same

-- a point after that gives a value to a temporary
pub given_at : (P : Program) (first : ℕ) (st s1 s2 : State) (t : Temporaries) (before : Fragment) (base : BaseType) (span : Span) (kind : RegNo → PointKind) (dst : RegNo) (e0 e1 e2 : Emitter) →
    s1 ≡ with_temporaries st t → dst.0 ≡ first + (take_one s1.temporaries base).number → s2 ≡ with_temporaries s1 (take_one s1.temporaries base).behind → Runs before e0 e1 → Runs (does span (kind dst)) e1 e2 →
    GivesIn (gives P first t before base span kind) st e0 (record { reg = dst; span = span }) e2 s2
given_at P first st s1 s2 t before base span kind dst e0 e1 e2 same is behind rb rd =
    let u : Temporaries = (take_one s1.temporaries base).behind in
    let g : Gives (gives P first t before base span kind) e0 (record { reg = dst; span = span }) e2 u = given P first t s1.temporaries before base span kind dst e0 e1 e2 u (ap (λ (s : State). s.temporaries) same) is refl rb rd in
    record { runs = g.runs; operand = g.operand; behind = behind ∙ ap (λ (s : State). with_temporaries s u) same ∙ ap (λ (x : Temporaries). with_temporaries st x) g.behind }

-- the same after a value
pub gave_at : (P : Program) (first : ℕ) (v : Value) (x : Operand) (st s1 s2 : State) (base : BaseType) (span : Span) (kind : Operand → RegNo → PointKind) (dst : RegNo) (e0 e1 e2 : Emitter) →
    GivesIn v st e0 x e1 s1 → dst.0 ≡ first + (take_one s1.temporaries base).number → s2 ≡ with_temporaries s1 (take_one s1.temporaries base).behind → Runs (does span (kind x dst)) e1 e2 →
    GivesIn (gives P first v.behind v.fragment base span (kind v.operand)) st e0 (record { reg = dst; span = span }) e2 s2
gave_at P first v x st s1 s2 base span kind dst e0 e1 e2 g is behind rd =
    subst (λ (o : Operand). GivesIn (gives P first v.behind v.fragment base span (kind o)) st e0 (record { reg = dst; span = span }) e2 s2) g.operand
    (given_at P first st s1 s2 v.behind v.fragment base span (kind x) dst e0 e1 e2 g.behind is behind g.runs rd)

-- what the loop begins with
pub started_by : (P : Program) (c first : ℕ) (v : Value) (st s1 s2 : State) (r : RegNo) (o : Operand) (dst : RegNo) (e0 e1 e2 e3 : Emitter) →
    GivesIn v st e0 o e1 s1 → Runs (does o.span (Move r o None)) e1 e2 → dst.0 ≡ first + (take_one s1.temporaries Int).number → s2 ≡ with_temporaries s1 (take_one s1.temporaries Int).behind → Runs (does o.span (Const dst (IntOf (pos 0)))) e2 e3 →
    GivesIn (each_start P c first o.span r.0 v) st e0 (record { reg = dst; span = o.span }) e3 s2
started_by P c first v st s1 s2 r o dst e0 e1 e2 e3 g move is behind rd =
    given_at P first st s1 s2 v.behind (then v.fragment (does o.span (Move r v.operand None))) Int o.span (λ d. Const d (IntOf (pos 0))) dst e0 e2 e3 g.behind is behind
    (then_runs v.fragment (does o.span (Move r v.operand None)) e0 e1 e2 g.runs (subst (λ (x : Operand). Runs (does o.span (Move r x None)) e1 e2) g.operand move)) rd

-- a value that is tested
pub tested_at : (v : Value) (o : Operand) (st s1 : State) (one two : ℕ) (e0 e1 e2 : Emitter) → GivesIn v st e0 o e1 s1 → Adds (asks o.span (λ first second. Branch o first second)) one two e1 e2 → TestsIn (branch v) st one two e0 e2 s1
tested_at v o st s1 one two e0 e1 e2 g a = record {
  adds = then_adds v.fragment (asks v.operand.span (λ first second. Branch v.operand first second)) one two e0 e1 e2 (g.runs one two) (subst (λ (x : Operand). Adds (asks x.span (λ first second. Branch x first second)) one two e1 e2) g.operand a);
  behind = g.behind;
}

-- the state in which the body stands, of that after the element
abbrev pub each_declared : BaseType → ℕ → BaseType → Option Qualifier → Bool → List Row → State → State
each_declared array name base bound fixed faults u = declares (reserves (reserves u array) Int) name base bound fixed faults

each_extends : (array : BaseType) (name : ℕ) (base : BaseType) (bound : Option Qualifier) (fixed : Bool) (faults : List Row) (u : State) → Extends u.scope (each_declared array name base bound fixed faults u).scope
each_extends array name base bound fixed faults u = local_extends (is_some (local_in u.scope name)) u.scope _

module _ (P : Program) (c first : ℕ) where
  abbrev pub each_step : (f : State → Step) (st : State) (v : Value) (name : ℕ) (at : Span) (r : ℕ) (array base : BaseType) (bound : Option Qualifier) (fixed : Bool) (faults : List Row) → Step
  each_step f st v name at r array base bound fixed faults =
      let start : Value = each_start P c first at r v in
      let test : Value = each_tested P c first at r start.behind in
      let element : Value = each_element P c first at r (elem_base array) test.behind in
      let x : Step = f (each_declared array name base bound fixed faults (with_temporaries st element.behind)) in
      back st (each_form P c first at r bound start test element x (each_next P c first at r (each_one P c first at x.behind.temporaries)))

  pub each_same : (f : State → Step) (st : State) (v : Value) (name : ℕ) (at at' : Span) (r r' : ℕ) (array array' base base' : BaseType) (bound bound' : Option Qualifier) (fixed fixed' : Bool) (faults faults' : List Row) →
      at ≡ at' → r ≡ r' → array ≡ array' → base ≡ base' → bound ≡ bound' → fixed ≡ fixed' → faults ≡ faults' →
      each_step f st v name at r array base bound fixed faults ≡ each_step f st v name at' r' array' base' bound' fixed' faults'
  each_same f st v name at at' r r' array array' base base' bound bound' fixed fixed' faults faults' is_at is_r is_array is_base is_bound is_fixed is_faults =
      ap (λ x. each_step f st v name x r array base bound fixed faults) is_at
      ∙ ap (λ x. each_step f st v name at' x array base bound fixed faults) is_r
      ∙ ap (λ x. each_step f st v name at' r' x base bound fixed faults) is_array
      ∙ ap (λ x. each_step f st v name at' r' array' x bound fixed faults) is_base
      ∙ ap (λ x. each_step f st v name at' r' array' base' x fixed faults) is_bound
      ∙ ap (λ x. each_step f st v name at' r' array' base' bound' x faults) is_fixed
      ∙ ap (λ x. each_step f st v name at' r' array' base' bound' fixed' x) is_faults

  pub each_done : (f : State → Step) (st : State) (v : Value) (name : ℕ) (at : Span) (r : ℕ) (array base : BaseType) (bound : Option Qualifier) (fixed : Bool) (faults : List Row) (s1 s2 s3 s4 s5 s6 s7 : State) (one two t w a n : ℕ) (e0 e1 e2 e3 e4 e5 e6 e7 e8 e9 e10 e11 e12 e13 e14 : Emitter) →
      Made t e0 e1 → Made w e1 e2 → Made a e2 e3 → Made n e3 e4 → StepsOn (moved_to at (r + 1) None (fresh st) (each_start P c first at r v)) e4 e5 s1 → Reached t e5 e6 → TestsIn (branch (each_tested P c first at r s1.temporaries)) s1 w n e6 e7 s2 → Reached w e7 e8 →
      StepsOn (moved_to at (r + 2) bound s2 (each_element P c first at r (elem_base array) s2.temporaries)) e8 e9 s3 → s4 ≡ each_declared array name base bound fixed faults s3 → Steps (f s4) n a e9 e10 s5 → Reached a e10 e11 →
      StepsOn (moved_to at (r + 1) None s5 (each_next P c first at r (each_one P c first at s5.temporaries))) e11 e12 s6 → ((second : ℕ) → Adds (goes at) t second e12 e13) → Reached n e13 e14 →
      ((u : State) → Extends u.scope (f u).behind.scope) → PutBack st s6 s7 → Steps (each_step f st v name at r array base bound fixed faults) one two e0 e14 s7
  each_done f st v name at r array base bound fixed faults s1 s2 s3 s4 s5 s6 s7 one two t w a n e0 e1 e2 e3 e4 e5 e6 e7 e8 e9 e10 e11 e12 e13 e14 mt mw ma mn si pt tq pw sl is_declared sx pa su aj pn extends put =
      let start : Value = each_start P c first at r v in
      let test : Value = each_tested P c first at r start.behind in
      let element : Value = each_element P c first at r (elem_base array) test.behind in
      let d : State → State = each_declared array name base bound fixed faults in
      let u : State = d (with_temporaries st element.behind) in
      let x : Step = f u in
      let next : Value = each_next P c first at r (each_one P c first at x.behind.temporaries) in
      let tests : TestsIn (branch test) (with_temporaries st start.behind) w n e6 e7 s2 = subst (λ (s : State). TestsIn (branch (each_tested P c first at r s.temporaries)) s w n e6 e7 s2) si.behind tq in
      let gets : StepsOn (moved_to at (r + 2) bound (with_temporaries st test.behind) element) e8 e9 s3 = subst (λ (s : State). StepsOn (moved_to at (r + 2) bound s (each_element P c first at r (elem_base array) s.temporaries)) e8 e9 s3) tests.behind sl in
      let body : Steps x n a e9 e10 s5 = subst (λ (s : State). Steps (f s) n a e9 e10 s5) (is_declared ∙ ap d gets.behind) sx in
      let goes_on : StepsOn (moved_to at (r + 1) None x.behind next) e11 e12 s6 = subst (λ (s : State). StepsOn (moved_to at (r + 1) None s (each_next P c first at r (each_one P c first at s.temporaries))) e11 e12 s6) body.behind su in
      record {
        adds = each_adds (moved_to at (r + 1) None (fresh st) start).fragment (branch test).fragment (moved_to at (r + 2) bound (with_temporaries st test.behind) element).fragment x.fragment (moved_to at (r + 1) None x.behind next).fragment (goes at) one two t w a n e0 e1 e2 e3 e4 e5 e6 e7 e8 e9 e10 e11 e12 e13 e14 mt mw ma mn si.runs pt tests.adds pw gets.runs body.adds pa goes_on.runs (aj t) pn;
        behind = put (each_form P c first at r bound start test element x next) goes_on.behind (extends_on st.scope u.scope x.behind.scope (each_extends array name base bound fixed faults (with_temporaries st element.behind)) (extends u));
      }
