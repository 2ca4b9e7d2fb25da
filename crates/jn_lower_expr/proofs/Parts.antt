-- Forms of several parts, with labels between them.
use Rattle.std.proofs.Common.{◌≡◌, ◌+◌, ℕ, true, false, List, [], ◌∷◌, ◌++◌, length, None, refl, ap, ◌∙◌, subst, arith}
use Rattle.std.proofs.lemmas.List.{length-append}
use Rattle.jn_base.specs.declared.place.Span.{Span}
use Rattle.jn_base.specs.declared.number.RegNo.{RegNo}
use Rattle.jn_points.specs.declared.point.BaseType.{BaseType}
use Rattle.jn_points.specs.declared.point.BaseType.TheVariants.{Bool as BoolBase}
use Rattle.jn_points.specs.declared.point.Literal.TheVariants.{Truth}
use Rattle.jn_points.specs.declared.point.Operand.{Operand}
use Rattle.jn_points.specs.declared.point.PointKind.TheVariants.{Branch, Const, Move}
use Rattle.jn_points.specs.declared.program.Program.{Program}
use Rattle.jn_lowering.specs.Fragments.{Target, Part, First, Second, Piece, asks, does, goes, plain, to, parts}
use Rattle.jn_lowering.specs.Temporaries.{Temporaries, take_one}
use Rattle.jn_lowering.specs.Forms.{Value, Condition, branch, register, truth}
use Rattle.jn_lowering.specs.Calls.{and_also, chosen, negated, or_else}
use Rattle.jn_lower_expr.specs.declared.emitter.Emitter.{Emitter}
use Rattle.jn_lower_expr.specs.Labels.{Placed}
use Rattle.jn_lower_expr.specs.Lowering.{Adds, Runs, Gives, Tests}
use Rattle.jn_lower_expr.proofs.Chain.{label_of, done, mark, lay, made, form}
use Rattle.jn_lower_expr.proofs.Giving.{then_adds}

-- a value that is tested
pub tested : (v : Value) (o : Operand) (first second : ℕ) (e0 e1 e2 : Emitter) (u : Temporaries) → Gives v e0 o e1 u → Adds (asks o.span (λ first second. Branch o first second)) first second e1 e2 → Tests (branch v) first second e0 e2 u
tested v o first second e0 e1 e2 u g a = record {
  adds = then_adds v.fragment (asks v.operand.span (λ first second. Branch v.operand first second)) first second e0 e1 e2 (g.runs first second) (subst (λ (x : Operand). Adds (asks x.span (λ first second. Branch x first second)) first second e1 e2) g.operand a);
  behind = g.behind;
}

-- `&&`
pub both : (p : Condition) (f : Temporaries → Condition) (first second l : ℕ) (e0 e1 e2 e3 e4 : Emitter) (t u : Temporaries) →
    e1.labels.items ≡ e0.labels.items ++ None ∷ [] → l ≡ length e0.labels.items → e1.points.items ≡ e0.points.items →
    Tests p l second e1 e2 t → Placed l e2.points.items e2.labels.items e3.points.items e3.labels.items → Tests (f t) first second e3 e4 u →
    Tests (and_also p (f p.behind)) first second e0 e4 u
both p f first second l e0 e1 e2 e3 e4 t u new is same tp pl tq =
    let label : Target → ℕ = label_of (0 ∷ l ∷ []) first second in
    let q : Condition = f t in
    let second_part = lay (length e0.labels.items) label (to q.fragment First Second) [] [] _ _ _ _ _ _ tq.adds (done _ label e4.points.items e4.labels.items) in
    let middle = mark (length e0.labels.items) l label (to q.fragment First Second ∷ []) [] _ _ _ _ _ _ (omega (is, arith)) pl second_part in
    let all = lay (length e0.labels.items) label (to p.fragment (Part 1) Second) (to q.fragment First Second ∷ []) (record { label = l; part = 0 } ∷ []) _ _ _ _ _ _ tp.adds middle in
    subst (λ (x : Temporaries). Tests (and_also p (f x)) first second e0 e4 u) tp.behind
    (record {
      adds = form label (to p.fragment (Part 1) Second ∷ to q.fragment First Second ∷ []) (record { label = l; part = 1 } ∷ []) first second _ _ _ _ (made _ l label _ _ _ _ _ _ _ _ new is same all) (λ σ m. (m.0, refl, (refl, refl, tt)));
      behind = tq.behind;
    })

-- `||`
pub either : (p : Condition) (f : Temporaries → Condition) (first second l : ℕ) (e0 e1 e2 e3 e4 : Emitter) (t u : Temporaries) →
    e1.labels.items ≡ e0.labels.items ++ None ∷ [] → l ≡ length e0.labels.items → e1.points.items ≡ e0.points.items →
    Tests p first l e1 e2 t → Placed l e2.points.items e2.labels.items e3.points.items e3.labels.items → Tests (f t) first second e3 e4 u →
    Tests (or_else p (f p.behind)) first second e0 e4 u
either p f first second l e0 e1 e2 e3 e4 t u new is same tp pl tq =
    let label : Target → ℕ = label_of (0 ∷ l ∷ []) first second in
    let q : Condition = f t in
    let second_part = lay (length e0.labels.items) label (to q.fragment First Second) [] [] _ _ _ _ _ _ tq.adds (done _ label e4.points.items e4.labels.items) in
    let middle = mark (length e0.labels.items) l label (to q.fragment First Second ∷ []) [] _ _ _ _ _ _ (omega (is, arith)) pl second_part in
    let all = lay (length e0.labels.items) label (to p.fragment First (Part 1)) (to q.fragment First Second ∷ []) (record { label = l; part = 0 } ∷ []) _ _ _ _ _ _ tp.adds middle in
    subst (λ (x : Temporaries). Tests (or_else p (f x)) first second e0 e4 u) tp.behind
    (record {
      adds = form label (to p.fragment First (Part 1) ∷ to q.fragment First Second ∷ []) (record { label = l; part = 1 } ∷ []) first second _ _ _ _ (made _ l label _ _ _ _ _ _ _ _ new is same all) (λ σ m. (refl, m.0, (refl, refl, tt)));
      behind = tq.behind;
    })

-- `!`
pub opposite : (q : Condition) (first second : ℕ) (e g : Emitter) (u : Temporaries) → Tests q second first e g u → Tests (negated q) first second e g u
opposite q first second e g u t = record { adds = record { points = t.adds.points; sized = t.adds.sized; kept = t.adds.kept }; behind = t.behind }

abbrev truth_pieces : Span → Condition → RegNo → List Piece
truth_pieces span q r = to q.fragment (Part 1) (Part 3) ∷ plain (does span (Const r (Truth true))) ∷ to (goes span) (Part 4) (Part 4) ∷ plain (does span (Const r (Truth false))) ∷ []

-- a condition as a value
pub made_true : (P : Program) (first : ℕ) (span : Span) (q : Condition) (y n d : ℕ) (dst : RegNo) (e0 e1 e2 e3 e4 e5 e6 e7 e8 e9 e10 : Emitter) (t u : Temporaries) →
    e1.labels.items ≡ e0.labels.items ++ None ∷ [] → y ≡ length e0.labels.items → e1.points.items ≡ e0.points.items →
    e2.labels.items ≡ e1.labels.items ++ None ∷ [] → n ≡ length e1.labels.items → e2.points.items ≡ e1.points.items →
    e3.labels.items ≡ e2.labels.items ++ None ∷ [] → d ≡ length e2.labels.items → e3.points.items ≡ e2.points.items →
    Tests q y n e3 e4 t → Placed y e4.points.items e4.labels.items e5.points.items e5.labels.items → dst.0 ≡ first + (take_one t BoolBase).number → u ≡ (take_one t BoolBase).behind →
    Runs (does span (Const dst (Truth true))) e5 e6 → ((second : ℕ) → Adds (goes span) d second e6 e7) → Placed n e7.points.items e7.labels.items e8.points.items e8.labels.items →
    Runs (does span (Const dst (Truth false))) e8 e9 → Placed d e9.points.items e9.labels.items e10.points.items e10.labels.items → Gives (truth P first span q) e0 (record { reg = dst; span = span }) e10 u
made_true P first span q y n d dst e0 e1 e2 e3 e4 e5 e6 e7 e8 e9 e10 t u n1 y1 p1 n2 y2 p2 n3 y3 p3 tq ply is behind rt rj pln rf pld = record {
  runs = λ one two. subst (λ (r : RegNo). Adds (parts (truth_pieces span q r)) one two e0 e10) at (runs one two);
  operand = ap (λ (r : RegNo). record { reg = r; span = span }) at;
  behind = behind ∙ ap (λ x. (take_one x BoolBase).behind) tq.behind;
}
  where
    at : dst ≡ register (first + (take_one q.behind BoolBase).number)
    at = ap register (is ∙ ap (λ x. first + (take_one x BoolBase).number) tq.behind)

    more : length e1.labels.items ≡ length e0.labels.items + 1
    more = ap length n1 ∙ length-append e0.labels.items (None ∷ [])

    most : length e2.labels.items ≡ length e1.labels.items + 1
    most = ap length n2 ∙ length-append e1.labels.items (None ∷ [])

    runs : (one two : ℕ) → Adds (parts (truth_pieces span q dst)) one two e0 e10
    runs one two =
        let label : Target → ℕ = label_of (0 ∷ y ∷ 0 ∷ n ∷ d ∷ []) one two in
        let b : ℕ = length e0.labels.items in
        let x10 = mark b d label [] [] _ _ _ _ _ _ (omega (y3, more, most, arith)) pld (done b label e10.points.items e10.labels.items) in
        let x9 = lay b label (plain (does span (Const dst (Truth false)))) [] _ _ _ _ _ _ _ (rf one two) x10 in
        let x8 = mark b n label _ _ _ _ _ _ _ _ (omega (y2, more, arith)) pln x9 in
        let x7 = lay b label (to (goes span) (Part 4) (Part 4)) _ _ _ _ _ _ _ _ (rj d) x8 in
        let x6 = lay b label (plain (does span (Const dst (Truth true)))) _ _ _ _ _ _ _ _ (rt one two) x7 in
        let x5 = mark b y label _ _ _ _ _ _ _ _ (omega (y1, arith)) ply x6 in
        let x4 = lay b label (to q.fragment (Part 1) (Part 3)) _ _ _ _ _ _ _ _ tq.adds x5 in
        form label (truth_pieces span q dst) (record { label = y; part = 1 } ∷ record { label = n; part = 3 } ∷ record { label = d; part = 4 } ∷ []) one two _ _ _ _
        (made _ y label _ _ _ _ _ _ _ _ n1 y1 p1 (made _ n label _ _ _ _ _ _ _ _ n2 y2 p2 (made _ d label _ _ _ _ _ _ _ _ n3 y3 p3 x4)))
        (λ σ m. (m.0, m.1.0, (refl, refl, (m.1.1.0, m.1.1.0, (refl, refl, tt)))))

abbrev choice_pieces : Span → RegNo → Condition → Value → Value → List Piece
choice_pieces span r q a b =
    to q.fragment (Part 1) (Part 4) ∷ plain a.fragment ∷ plain (does a.operand.span (Move r a.operand None)) ∷ to (goes span) (Part 6) (Part 6) ∷ plain b.fragment ∷ plain (does b.operand.span (Move r b.operand None)) ∷ []

-- `?:`
pub made_choice : (P : Program) (first : ℕ) (span : Span) (base : BaseType) (q : Condition) (fa fb : Temporaries → Value) (y n d : ℕ) (dst : RegNo) (x w : Operand) (e0 e1 e2 e3 e4 e5 e6 e7 e8 e9 e10 e11 e12 : Emitter) (t1 t2 t3 t4 : Temporaries) →
    e1.labels.items ≡ e0.labels.items ++ None ∷ [] → y ≡ length e0.labels.items → e1.points.items ≡ e0.points.items →
    e2.labels.items ≡ e1.labels.items ++ None ∷ [] → n ≡ length e1.labels.items → e2.points.items ≡ e1.points.items →
    e3.labels.items ≡ e2.labels.items ++ None ∷ [] → d ≡ length e2.labels.items → e3.points.items ≡ e2.points.items →
    Tests q y n e3 e4 t1 → Placed y e4.points.items e4.labels.items e5.points.items e5.labels.items → dst.0 ≡ first + (take_one t1 base).number → t2 ≡ (take_one t1 base).behind →
    Gives (fa t2) e5 x e6 t3 → Runs (does x.span (Move dst x None)) e6 e7 → ((second : ℕ) → Adds (goes span) d second e7 e8) → Placed n e8.points.items e8.labels.items e9.points.items e9.labels.items →
    Gives (fb t3) e9 w e10 t4 → Runs (does w.span (Move dst w None)) e10 e11 → Placed d e11.points.items e11.labels.items e12.points.items e12.labels.items →
    Gives (chosen P first span (take_one q.behind base).number q (fa (take_one q.behind base).behind) (fb (fa (take_one q.behind base).behind).behind)) e0 (record { reg = dst; span = span }) e12 t4
made_choice P first span base q fa fb y n d dst x w e0 e1 e2 e3 e4 e5 e6 e7 e8 e9 e10 e11 e12 t1 t2 t3 t4 n1 y1 p1 n2 y2 p2 n3 y3 p3 tq ply is behind ga ra rj pln gb rb pld =
    subst (λ (s : Temporaries). Gives (chosen P first span (take_one s base).number q (fa (take_one s base).behind) (fb (fa (take_one s base).behind).behind)) e0 (record { reg = dst; span = span }) e12 t4) tq.behind
    (subst (λ (s : Temporaries). Gives (chosen P first span (take_one t1 base).number q (fa s) (fb (fa s).behind)) e0 (record { reg = dst; span = span }) e12 t4) behind
    (subst (λ (s : Temporaries). Gives (chosen P first span (take_one t1 base).number q (fa t2) (fb s)) e0 (record { reg = dst; span = span }) e12 t4) ga.behind
    (record {
      runs = λ one two. subst (λ (r : RegNo). Adds (parts (choice_pieces span r q (fa t2) (fb t3))) one two e0 e12) at (runs one two);
      operand = ap (λ (r : RegNo). record { reg = r; span = span }) at;
      behind = gb.behind;
    })))
  where
    at : dst ≡ register (first + (take_one t1 base).number)
    at = ap register is

    more : length e1.labels.items ≡ length e0.labels.items + 1
    more = ap length n1 ∙ length-append e0.labels.items (None ∷ [])

    most : length e2.labels.items ≡ length e1.labels.items + 1
    most = ap length n2 ∙ length-append e1.labels.items (None ∷ [])

    runs : (one two : ℕ) → Adds (parts (choice_pieces span dst q (fa t2) (fb t3))) one two e0 e12
    runs one two =
        let label : Target → ℕ = label_of (0 ∷ y ∷ 0 ∷ 0 ∷ n ∷ 0 ∷ d ∷ []) one two in
        let b : ℕ = length e0.labels.items in
        let move_a : Runs (does (fa t2).operand.span (Move dst (fa t2).operand None)) e6 e7 = subst (λ (o : Operand). Runs (does o.span (Move dst o None)) e6 e7) ga.operand ra in
        let move_b : Runs (does (fb t3).operand.span (Move dst (fb t3).operand None)) e10 e11 = subst (λ (o : Operand). Runs (does o.span (Move dst o None)) e10 e11) gb.operand rb in
        let x12 = mark b d label [] [] _ _ _ _ _ _ (omega (y3, more, most, arith)) pld (done b label e12.points.items e12.labels.items) in
        let x11 = lay b label (plain (does (fb t3).operand.span (Move dst (fb t3).operand None))) [] _ _ _ _ _ _ _ (move_b one two) x12 in
        let x10 = lay b label (plain (fb t3).fragment) _ _ _ _ _ _ _ _ (gb.runs one two) x11 in
        let x9 = mark b n label _ _ _ _ _ _ _ _ (omega (y2, more, arith)) pln x10 in
        let x8 = lay b label (to (goes span) (Part 6) (Part 6)) _ _ _ _ _ _ _ _ (rj d) x9 in
        let x7 = lay b label (plain (does (fa t2).operand.span (Move dst (fa t2).operand None))) _ _ _ _ _ _ _ _ (move_a one two) x8 in
        let x6 = lay b label (plain (fa t2).fragment) _ _ _ _ _ _ _ _ (ga.runs one two) x7 in
        let x5 = mark b y label _ _ _ _ _ _ _ _ (omega (y1, arith)) ply x6 in
        let x4 = lay b label (to q.fragment (Part 1) (Part 4)) _ _ _ _ _ _ _ _ tq.adds x5 in
        form label (choice_pieces span dst q (fa t2) (fb t3)) (record { label = y; part = 1 } ∷ record { label = n; part = 4 } ∷ record { label = d; part = 6 } ∷ []) one two _ _ _ _
        (made _ y label _ _ _ _ _ _ _ _ n1 y1 p1 (made _ n label _ _ _ _ _ _ _ _ n2 y2 p2 (made _ d label _ _ _ _ _ _ _ _ n3 y3 p3 x4)))
        (λ σ m. (m.0, m.1.0, (refl, refl, (refl, refl, (m.1.1.0, m.1.1.0, (refl, refl, (refl, refl, tt)))))))
