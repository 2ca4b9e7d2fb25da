-- Values and steps one after the other.
use Rattle.std.proofs.Common.{◌≡◌, ◌<◌, ◌≤◌, ◌+◌, ℕ, List, [], ◌∷◌, length, drop, get_or, map, refl, sym, ap, ◌∙◌, subst}
use Rattle.std.proofs.lemmas.List.{drop_more}
use Rattle.std.proofs.Math.ListN.{drop_of_length-le}
use Rattle.std.specs.Prelude.{Bool, Option}
use Rattle.jn_base.specs.declared.place.Row.{Row}
use Rattle.jn_base.specs.declared.place.Span.{Span}
use Rattle.jn_quals.specs.Qualifier.{Qualifier}
use Rattle.jn_places.specs.Placed.{PlacedDeclarator}
use Rattle.jn_points.specs.declared.point.BaseType.{BaseType}
use Rattle.jn_points.specs.declared.program.Program.{Program}
use Rattle.jn_points.specs.declared.point.Operand.{Operand}
use Rattle.jn_points.specs.declared.point.PointKind.{PointKind}
use Rattle.jn_lowering.specs.Fragments.{does, then}
use Rattle.jn_lowering.specs.Forms.{Value}
use Rattle.jn_lowering.specs.Locals.{State, with_temporaries}
use Rattle.jn_lowering.specs.Statements.{Step, both_steps, declarator, declarators, no_step, step, with_value}
use Rattle.jn_lower_expr.specs.declared.emitter.Emitter.{Emitter}
use Rattle.jn_lower_expr.specs.Lowering.{Runs}
use Rattle.jn_lower_expr.proofs.Giving.{rests, then_adds, then_runs}
use Rattle.jn_lower_stmt.specs.Stating.{GivesIn, Steps, StepsOn}

pub nothing_done : (e : Emitter) (st : State) → StepsOn (no_step st) e e st
nothing_done e st = record { runs = rests e; behind = refl }

pub both_done : (x : Step) (f : State → Step) (e0 e1 e2 : Emitter) (s1 s2 : State) → StepsOn x e0 e1 s1 → StepsOn (f s1) e1 e2 s2 → StepsOn (both_steps x (f x.behind)) e0 e2 s2
both_done x f e0 e1 e2 s1 s2 a b =
    subst (λ (s : State). StepsOn (both_steps x (f s)) e0 e2 s2) a.behind
    (record { runs = then_runs x.fragment (f s1).fragment e0 e1 e2 a.runs b.runs; behind = b.behind })

pub both_stepped : (x : Step) (f : State → Step) (one two : ℕ) (e0 e1 e2 : Emitter) (s1 s2 : State) → Steps x one two e0 e1 s1 → Steps (f s1) one two e1 e2 s2 → Steps (both_steps x (f x.behind)) one two e0 e2 s2
both_stepped x f one two e0 e1 e2 s1 s2 a b =
    subst (λ (s : State). Steps (both_steps x (f s)) one two e0 e2 s2) a.behind
    (record { adds = then_adds x.fragment (f s1).fragment one two e0 e1 e2 a.adds b.adds; behind = b.behind })

pub value_done : (v : Value) (st : State) (e0 e1 : Emitter) (o : Operand) (s1 : State) → GivesIn v st e0 o e1 s1 → StepsOn (with_value st v) e0 e1 s1
value_done v st e0 e1 o s1 g = record { runs = g.runs; behind = g.behind }

-- a value, and a point that has its operand
pub point_done : (v : Value) (st : State) (kind : Operand → PointKind) (span : Span) (o : Operand) (e0 e1 e2 : Emitter) (s1 : State) → GivesIn v st e0 o e1 s1 → Runs (does span (kind o)) e1 e2 →
    StepsOn (step (with_temporaries st v.behind) (then v.fragment (does span (kind v.operand)))) e0 e2 s1
point_done v st kind span o e0 e1 e2 s1 g r = record {
  runs = then_runs v.fragment (does span (kind v.operand)) e0 e1 e2 g.runs (subst (λ (x : Operand). Runs (does span (kind x)) e1 e2) g.operand r);
  behind = g.behind;
}

-- what is left before a step of a loop, and at its end
pub left_before : {A B : Type 0} (seen : A → B) (xs : List A) (i : ℕ) (x : A) → i < length xs → x ≡ get_or xs i x → map seen (drop i xs) ≡ seen x ∷ map seen (drop (i + 1) xs)
left_before seen xs i x lt is = ap (map seen) (drop_more xs i x lt) ∙ ap (λ y. seen y ∷ map seen (drop (i + 1) xs)) (sym is)

pub none_left : {A B : Type 0} (seen : A → B) (xs : List A) (i : ℕ) → length xs ≤ i → map seen (drop i xs) ≡ []
none_left seen xs i le = ap (map seen) (drop_of_length-le xs le)

-- a declaration, of what was worked out of its type
pub declaration_done : (P : Program) (c first : ℕ) (base0 base : BaseType) (bound0 bound : Option Qualifier) (final0 final : Bool) (rows0 rows : List Row) (st s1 s2 : State) (d : PlacedDeclarator) (ds : List PlacedDeclarator) (e0 e1 e2 : Emitter) →
    base0 ≡ base → bound0 ≡ bound → final0 ≡ final → rows0 ≡ rows →
    StepsOn (declarator P c first base0 bound0 final0 rows0 st d) e0 e1 s1 → StepsOn (declarators P c first base0 bound0 final0 rows0 s1 ds) e1 e2 s2 →
    StepsOn (declarators P c first base bound final rows st (d ∷ ds)) e0 e2 s2
declaration_done P c first base0 base bound0 bound final0 final rows0 rows st s1 s2 d ds e0 e1 e2 is_base is_bound is_final is_rows one more =
    subst (λ (b : BaseType). StepsOn (declarators P c first b bound final rows st (d ∷ ds)) e0 e2 s2) is_base
    (subst (λ (q : Option Qualifier). StepsOn (declarators P c first base0 q final rows st (d ∷ ds)) e0 e2 s2) is_bound
    (subst (λ (n : Bool). StepsOn (declarators P c first base0 bound0 n rows st (d ∷ ds)) e0 e2 s2) is_final
    (subst (λ (rs : List Row). StepsOn (declarators P c first base0 bound0 final0 rs st (d ∷ ds)) e0 e2 s2) is_rows
    (both_done (declarator P c first base0 bound0 final0 rows0 st d) (λ s. declarators P c first base0 bound0 final0 rows0 s ds) e0 e1 e2 s1 s2 one more))))
