-- Constructors' calls and initializers.
use Rattle.std.proofs.Common.{◌≡◌, ℕ, List, Option, Some, None, refl, sym, subst}
use Rattle.std.specs.Prelude.{MatchOption, option_map}
use Rattle.std.proofs.Common.{Vec, Global}
use Rattle.jn_base.specs.declared.place.Span.{Span}
use Rattle.jn_trees.specs.declared.expression.Expr.{Expr}
use Rattle.jn_trees.specs.declared.statement.Stmt.{Stmt, ThisCall, SuperCall}
use Rattle.jn_points.specs.declared.point.PointKind.TheVariants.{Return}
use Rattle.jn_places.specs.PlacedView.{placed_statement}
use Rattle.jn_lowering.specs.Fragments.{does}
use Rattle.jn_points.specs.declared.point.Operand.{Operand}
use Rattle.jn_points.specs.declared.program.Program.{Program}
use Rattle.jn_places.specs.Placed.{PlacedStatements, MorePlacedStatements}
use Rattle.jn_lowering.specs.Bodies as spec
use Rattle.jn_lowering.specs.Calls.{Operands}
use Rattle.jn_lowering.specs.Locals.{State, with_temporaries}
use Rattle.jn_lowering.specs.Statements.{Step, back, fresh, step}
use Rattle.jn_lower_expr.specs.declared.emitter.Emitter.{Emitter}
use Rattle.jn_lower_expr.specs.Lowering.{Runs}
use Rattle.jn_lower_stmt.specs.Stating.{GivesAllIn, Made, Steps, StepsOn}
use Rattle.jn_lower_stmt.proofs.Labelling.{Reached, body_adds}
use Rattle.jn_lower_stmt.proofs.Stepping.{PutBack, simply_done}

pub found : {N : Type 0} (number : N → ℕ) (o : Option N) (k : Option ℕ) → MatchOption o (k ≡ None) (λ n. k ≡ Some (number n)) → option_map number o ≡ k
found number None k is = sym is
found number (Some n) k is = sym is

pub ctor_called : (P : Program) (m first : ℕ) (ctor : Option ℕ) (own : _) (span : Span) (vs : Operands) (os : List Operand) (st s1 s2 : State) (e0 e1 e2 : Emitter) → GivesAllIn vs (fresh st) e0 os e1 s1 →
    (Runs vs.fragment e0 e1 → os ≡ vs.values → Runs (spec.called_ctor P m first ctor own span vs) e0 e2) → PutBack st s1 s2 → StepsOn (back st (step (with_temporaries st vs.behind) (spec.called_ctor P m first ctor own span vs))) e0 e2 s2
ctor_called P m first ctor own span vs os st s1 s2 e0 e1 e2 g call put =
    simply_done (step (with_temporaries st vs.behind) (spec.called_ctor P m first ctor own span vs)) st s1 s2 e0 e2 (record { runs = call g.runs g.operands; behind = g.behind }) refl put

-- what begins with neither `this(..)` nor `super(..)`
pub construction_other : (P : Program) (m first : ℕ) (st : State) (x : Stmt) (rest : PlacedStatements) → ((es : Vec Expr Global) (s : Span) → x ≡ ThisCall es s → ⊥) → ((es : Vec Expr Global) (s : Span) → x ≡ SuperCall es s → ⊥) →
    spec.construction P m first st (MorePlacedStatements (placed_statement x) rest) ≡ spec.unwritten_call P m first st
construction_other P m first st (ThisCall es s) rest h i = absurd (h es s refl)
construction_other P m first st (SuperCall es s) rest h i = absurd (i es s refl)
construction_other P m first st x rest h i = refl

-- a whole body
pub whole_done : (P : Program) (m first : ℕ) (call : Step) (f h : State → Step) (a d n : ℕ) (e0 e1 e2 e3 e4 e5 e6 e7 e8 e9 e10 : Emitter) (s1 s2 s3 : State) → Made a e0 e1 → Made d e1 e2 → Made n e2 e3 → Reached a e3 e4 → StepsOn call e4 e5 s1 → Reached d e5 e6 → StepsOn (f s1) e6 e7 s2 → Steps (h s2) n n e7 e8 s3 → Reached n e8 e9 →
    Runs (does (spec.name_span P m) (Return None)) e9 e10 → StepsOn (spec.body_of_parts P m first call (f call.behind) (h (f call.behind).behind)) e0 e10 s3
whole_done P m first call f h a d n e0 e1 e2 e3 e4 e5 e6 e7 e8 e9 e10 s1 s2 s3 ma md mn pa kc pd kf kr pn rr =
    let fields : StepsOn (f call.behind) e6 e7 s2 = subst (λ (s : State). StepsOn (f s) e6 e7 s2) kc.behind kf in
    let rest : Steps (h (f call.behind).behind) n n e7 e8 s3 = subst (λ (s : State). Steps (h s) n n e7 e8 s3) fields.behind kr in
    record {
      runs = λ one two. body_adds call.fragment (f call.behind).fragment (h (f call.behind).behind).fragment (does (spec.name_span P m) (Return None)) one two a d n e0 e1 e2 e3 e4 e5 e6 e7 e8 e9 e10 ma md mn pa kc.runs pd fields.runs rest.adds pn rr;
      behind = rest.behind;
    }
