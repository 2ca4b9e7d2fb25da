-- A body of its parts.
use Rattle.std.proofs.Common.{◌≡◌, ℕ, List, [], ◌++◌, length, Option, ap, ◌∙◌, subst, arith}
use Rattle.std.proofs.lemmas.Option.{slice_get_past}
use Rattle.jn_base.specs.declared.number.PointNo.{PointNo}
use Rattle.jn_base.specs.declared.number.MethodNo.{MethodNo}
use Rattle.jn_points.specs.declared.point.BaseType.{BaseType}
use Rattle.jn_points.specs.declared.point.Point.{Point}
use Rattle.jn_points.specs.declared.program.Body.{Body}
use Rattle.jn_points.specs.declared.program.Program.{Program}
use Rattle.jn_lowering.specs.Fragments.{Fragment}
use Rattle.jn_lowering.specs.Bodies as spec
use Rattle.jn_lowering.specs.Locals.{State}
use Rattle.jn_lower_expr.specs.declared.emitter.Emitter.{Emitter}
use Rattle.jn_lower_expr.specs.Labels.{Agrees, given, placed_at, resolved}
use Rattle.jn_lower_expr.specs.Lowering.{Runs}
use Rattle.jn_lower_stmt.specs.Stating.{StepsOn}

given_agrees : (ls : List (Option PointNo)) → Agrees (given ls) ls
given_agrees ls l p e = ap placed_at e

-- a label that isn't there stands for the first point
given_past : (ls : List (Option PointNo)) → given ls (length ls) ≡ 0
given_past ls = ap placed_at (slice_get_past ls (length ls) (omega arith))

points_made : (f : Fragment) (e g : Emitter) → e.points.items ≡ [] → Runs f e g → resolved (given g.labels.items) g.points.items ≡ f.points 0 0 0
points_made f e g none runs =
    let σ : ℕ → ℕ = given g.labels.items in
    let n : ℕ = length g.labels.items in
    (runs n n).points σ (given_agrees g.labels.items)
    ∙ ap (λ (xs : List Point). resolved σ xs ++ f.points (length xs) (σ n) (σ n)) none
    ∙ ap (λ k. f.points 0 k k) (given_past g.labels.items)

pub body_made : (P : Program) (s : spec.Source) (first : ℕ) (st u : State) (e g : Emitter) (regs : List BaseType) (points : List Point) → first ≡ spec.local_count P s.method s.body → st ≡ spec.at_entry P s.method s.parameters → e.points.items ≡ [] →
    StepsOn (spec.whole P s.method first st s.body s.members) e g u → regs ≡ spec.registers_of u → points ≡ resolved (given g.labels.items) g.points.items →
    record { method = record { 0 = s.method }; regs = regs; locals = first; points = points } ≡ spec.body_of_source P s
body_made P s first st u e g regs points is_first is_st none steps is_regs is_points =
    let whole : StepsOn (spec.code_of P s) e g u = subst (λ n. StepsOn (spec.whole P s.method n (spec.at_entry P s.method s.parameters) s.body s.members) e g u) is_first (subst (λ (x : State). StepsOn (spec.whole P s.method first x s.body s.members) e g u) is_st steps) in
    let made : points ≡ (spec.code_of P s).fragment.points 0 0 0 = is_points ∙ points_made (spec.code_of P s).fragment e g none whole.runs in
    let registers : regs ≡ spec.registers_of (spec.code_of P s).behind = is_regs ∙ ap spec.registers_of whole.behind in
    let m : MethodNo = record { 0 = s.method } in
    let b : List BaseType → ℕ → List Point → Body = λ rs n ps. record { method = m; regs = rs; locals = n; points = ps } in
    ap (λ rs. b rs first points) registers ∙ ap (λ n. b (spec.registers_of (spec.code_of P s).behind) n points) is_first ∙ ap (λ ps. b (spec.registers_of (spec.code_of P s).behind) (spec.local_count P s.method s.body) ps) made
