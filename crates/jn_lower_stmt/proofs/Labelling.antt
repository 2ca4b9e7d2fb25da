-- A form's parts emitted one after the other, with labels placed between them.
use Rattle.std.proofs.Common.{◌≡◌, ◌≤◌, ℕ, List, [], ◌∷◌, ◌++◌, length, None, refl, ap, ◌∙◌, arith}
use Rattle.std.proofs.lemmas.List.{length-append}
use Rattle.jn_lowering.specs.Fragments.{Fragment, Piece, Target, Part, parts, plain, to}
use Rattle.jn_lower_expr.specs.declared.emitter.Emitter.{Emitter}
use Rattle.jn_lower_expr.specs.Labels as labels
use Rattle.jn_lower_expr.specs.Lowering.{Adds, Runs}
use Rattle.jn_lower_expr.proofs.Emitting as emitting
use Rattle.jn_lower_expr.proofs.Chain.{Laid, Mark, shifted, label_of, done, lay, mark, form}
use Rattle.jn_lower_expr.proofs.Chain as chain
use Rattle.jn_lower_stmt.specs.Stating.{Made}

pub made : (l : ℕ) (e g : Emitter) → l ≡ length e.labels.items → g.labels.items ≡ e.labels.items ++ None ∷ [] → g.points.items ≡ e.points.items → Made l e g
made l e g is new same =
    let f : emitting.Fresh l e.labels.items g.labels.items = emitting.fresh l e.labels.items g.labels.items new is in
    record { is = is; labels = new; points = same; more = ap length new ∙ length-append e.labels.items (None ∷ []); free = f.free; kept = f.kept }

-- the label is placed at the next point
abbrev pub Reached : ℕ → Emitter → Emitter → Type 0
Reached l e g = labels.Placed l e.points.items e.labels.items g.points.items g.labels.items

abbrev LaidIn : ℕ → (Target → ℕ) → List Piece → List Mark → Emitter → Emitter → Type 0
LaidIn b label pieces marks e g = Laid b label pieces marks e.points.items e.labels.items g.points.items g.labels.items

laid : (b : ℕ) (label : Target → ℕ) (p : Piece) (pieces : List Piece) (marks : List Mark) (e e1 g : Emitter) → Adds p.fragment (label p.first) (label p.second) e e1 → LaidIn b label pieces marks e1 g → LaidIn b label (p ∷ pieces) (shifted marks) e g
laid b label p pieces marks e e1 g a r = lay b label p pieces marks _ _ _ _ _ _ a r

marked : (b l : ℕ) (label : Target → ℕ) (pieces : List Piece) (marks : List Mark) (e e1 g : Emitter) → b ≤ l → Reached l e e1 → LaidIn b label pieces marks e1 g → LaidIn b label pieces (record { label = l; part = 0 } ∷ marks) e g
marked b l label pieces marks e e1 g high pl r = mark b l label pieces marks _ _ _ _ _ _ high pl r

begun : (b l : ℕ) (label : Target → ℕ) (pieces : List Piece) (marks : List Mark) (e e1 g : Emitter) → Made l e e1 → LaidIn b label pieces marks e1 g → LaidIn b label pieces marks e g
begun b l label pieces marks e e1 g m r = chain.made b l label pieces marks _ _ _ _ _ _ m.labels m.is m.points r

-- `if` without `else`
pub if_adds : (q x : Fragment) (one two l n : ℕ) (e0 e1 e2 e3 e4 e5 e6 : Emitter) → Made l e0 e1 → Made n e1 e2 → Adds q l n e2 e3 → Reached l e3 e4 → Adds x one two e4 e5 → Reached n e5 e6 →
    Adds (parts (to q (Part 1) (Part 2) ∷ plain x ∷ [])) one two e0 e6
if_adds q x one two l n e0 e1 e2 e3 e4 e5 e6 ml mn aq pl ax pn =
    let label : Target → ℕ = label_of (0 ∷ l ∷ n ∷ []) one two in
    let b : ℕ = length e0.labels.items in
    let s5 = marked b n label [] [] e5 e6 e6 (omega arith) pn (done b label e6.points.items e6.labels.items) in
    let s4 = laid b label (plain x) [] _ e4 e5 e6 ax s5 in
    let s3 = marked b l label (plain x ∷ []) _ e3 e4 e6 (omega arith) pl s4 in
    let s2 = laid b label (to q (Part 1) (Part 2)) (plain x ∷ []) _ e2 e3 e6 aq s3 in
    form label (to q (Part 1) (Part 2) ∷ plain x ∷ []) _ one two _ _ _ _ (begun b l label _ _ e0 e1 e6 ml (begun b n label _ _ e1 e2 e6 mn s2)) (λ σ m. (m.0, m.1.0, (refl, refl, tt)))

-- `if` with `else`
pub if_else_adds : (q x j y : Fragment) (one two l o n : ℕ) (e0 e1 e2 e3 e4 e5 e6 e7 e8 e9 e10 : Emitter) → Made l e0 e1 → Made o e1 e2 → Made n e2 e3 → Adds q l o e3 e4 → Reached l e4 e5 → Adds x one two e5 e6 → Adds j n n e6 e7 → Reached o e7 e8 → Adds y one two e8 e9 → Reached n e9 e10 →
    Adds (parts (to q (Part 1) (Part 3) ∷ plain x ∷ to j (Part 4) (Part 4) ∷ plain y ∷ [])) one two e0 e10
if_else_adds q x j y one two l o n e0 e1 e2 e3 e4 e5 e6 e7 e8 e9 e10 ml mo mn aq pl ax aj po ay pn =
    let label : Target → ℕ = label_of (0 ∷ l ∷ 0 ∷ o ∷ n ∷ []) one two in
    let b : ℕ = length e0.labels.items in
    let s9 = marked b n label [] [] e9 e10 e10 (omega arith) pn (done b label e10.points.items e10.labels.items) in
    let s8 = laid b label (plain y) [] _ e8 e9 e10 ay s9 in
    let s7 = marked b o label _ _ e7 e8 e10 (omega arith) po s8 in
    let s6 = laid b label (to j (Part 4) (Part 4)) _ _ e6 e7 e10 aj s7 in
    let s5 = laid b label (plain x) _ _ e5 e6 e10 ax s6 in
    let s4 = marked b l label _ _ e4 e5 e10 (omega arith) pl s5 in
    let s3 = laid b label (to q (Part 1) (Part 3)) _ _ e3 e4 e10 aq s4 in
    form label (to q (Part 1) (Part 3) ∷ plain x ∷ to j (Part 4) (Part 4) ∷ plain y ∷ []) _ one two _ _ _ _ (begun b l label _ _ e0 e1 e10 ml (begun b o label _ _ e1 e2 e10 mo (begun b n label _ _ e2 e3 e10 mn s3)))
    (λ σ m. (m.0, m.1.0, (refl, refl, (m.1.1.0, m.1.1.0, (refl, refl, tt)))))

-- `while`
pub while_adds : (q x j : Fragment) (one two s i n : ℕ) (e0 e1 e2 e3 e4 e5 e6 e7 e8 e9 : Emitter) → Made s e0 e1 → Made i e1 e2 → Made n e2 e3 → Reached s e3 e4 → Adds q i n e4 e5 → Reached i e5 e6 → Adds x n s e6 e7 → Adds j s s e7 e8 → Reached n e8 e9 →
    Adds (parts (to q (Part 1) (Part 3) ∷ to x (Part 3) (Part 0) ∷ to j (Part 0) (Part 0) ∷ [])) one two e0 e9
while_adds q x j one two s i n e0 e1 e2 e3 e4 e5 e6 e7 e8 e9 ms mi mn ps aq pi ax aj pn =
    let label : Target → ℕ = label_of (s ∷ i ∷ 0 ∷ n ∷ []) one two in
    let b : ℕ = length e0.labels.items in
    let s8 = marked b n label [] [] e8 e9 e9 (omega arith) pn (done b label e9.points.items e9.labels.items) in
    let s7 = laid b label (to j (Part 0) (Part 0)) [] _ e7 e8 e9 aj s8 in
    let s6 = laid b label (to x (Part 3) (Part 0)) _ _ e6 e7 e9 ax s7 in
    let s5 = marked b i label _ _ e5 e6 e9 (omega arith) pi s6 in
    let s4 = laid b label (to q (Part 1) (Part 3)) _ _ e4 e5 e9 aq s5 in
    let s3 = marked b s label _ _ e3 e4 e9 (omega arith) ps s4 in
    form label (to q (Part 1) (Part 3) ∷ to x (Part 3) (Part 0) ∷ to j (Part 0) (Part 0) ∷ []) _ one two _ _ _ _ (begun b s label _ _ e0 e1 e9 ms (begun b i label _ _ e1 e2 e9 mi (begun b n label _ _ e2 e3 e9 mn s3)))
    (λ σ m. (m.1.0, m.1.1.0, (m.1.1.0, m.0, (m.0, m.0, tt))))

-- `do`
pub do_adds : (x q : Fragment) (one two s a n : ℕ) (e0 e1 e2 e3 e4 e5 e6 e7 e8 : Emitter) → Made s e0 e1 → Made a e1 e2 → Made n e2 e3 → Reached s e3 e4 → Adds x n a e4 e5 → Reached a e5 e6 → Adds q s n e6 e7 → Reached n e7 e8 →
    Adds (parts (to x (Part 2) (Part 1) ∷ to q (Part 0) (Part 2) ∷ [])) one two e0 e8
do_adds x q one two s a n e0 e1 e2 e3 e4 e5 e6 e7 e8 ms ma mn ps ax pa aq pn =
    let label : Target → ℕ = label_of (s ∷ a ∷ n ∷ []) one two in
    let b : ℕ = length e0.labels.items in
    let s7 = marked b n label [] [] e7 e8 e8 (omega arith) pn (done b label e8.points.items e8.labels.items) in
    let s6 = laid b label (to q (Part 0) (Part 2)) [] _ e6 e7 e8 aq s7 in
    let s5 = marked b a label _ _ e5 e6 e8 (omega arith) pa s6 in
    let s4 = laid b label (to x (Part 2) (Part 1)) _ _ e4 e5 e8 ax s5 in
    let s3 = marked b s label _ _ e3 e4 e8 (omega arith) ps s4 in
    form label (to x (Part 2) (Part 1) ∷ to q (Part 0) (Part 2) ∷ []) _ one two _ _ _ _ (begun b s label _ _ e0 e1 e8 ms (begun b a label _ _ e1 e2 e8 ma (begun b n label _ _ e2 e3 e8 mn s3)))
    (λ σ m. (m.1.1.0, m.1.0, (m.0, m.1.1.0, tt)))

-- `for`
pub for_adds : (i q x u j : Fragment) (one two t w a n : ℕ) (e0 e1 e2 e3 e4 e5 e6 e7 e8 e9 e10 e11 e12 e13 : Emitter) → Made t e0 e1 → Made w e1 e2 → Made a e2 e3 → Made n e3 e4 → Runs i e4 e5 → Reached t e5 e6 → Adds q w n e6 e7 → Reached w e7 e8 → Adds x n a e8 e9 → Reached a e9 e10 → Runs u e10 e11 → Adds j t t e11 e12 → Reached n e12 e13 →
    Adds (parts (plain i ∷ to q (Part 2) (Part 5) ∷ to x (Part 5) (Part 3) ∷ plain u ∷ to j (Part 1) (Part 1) ∷ [])) one two e0 e13
for_adds i q x u j one two t w a n e0 e1 e2 e3 e4 e5 e6 e7 e8 e9 e10 e11 e12 e13 mt mw ma mn ri pt aq pw ax pa ru aj pn =
    let label : Target → ℕ = label_of (0 ∷ t ∷ w ∷ a ∷ 0 ∷ n ∷ []) one two in
    let b : ℕ = length e0.labels.items in
    let s12 = marked b n label [] [] e12 e13 e13 (omega arith) pn (done b label e13.points.items e13.labels.items) in
    let s11 = laid b label (to j (Part 1) (Part 1)) [] _ e11 e12 e13 aj s12 in
    let s10 = laid b label (plain u) _ _ e10 e11 e13 (ru one two) s11 in
    let s9 = marked b a label _ _ e9 e10 e13 (omega arith) pa s10 in
    let s8 = laid b label (to x (Part 5) (Part 3)) _ _ e8 e9 e13 ax s9 in
    let s7 = marked b w label _ _ e7 e8 e13 (omega arith) pw s8 in
    let s6 = laid b label (to q (Part 2) (Part 5)) _ _ e6 e7 e13 aq s7 in
    let s5 = marked b t label _ _ e5 e6 e13 (omega arith) pt s6 in
    let s4 = laid b label (plain i) _ _ e4 e5 e13 (ri one two) s5 in
    form label (plain i ∷ to q (Part 2) (Part 5) ∷ to x (Part 5) (Part 3) ∷ plain u ∷ to j (Part 1) (Part 1) ∷ []) _ one two _ _ _ _ (begun b t label _ _ e0 e1 e13 mt (begun b w label _ _ e1 e2 e13 mw (begun b a label _ _ e2 e3 e13 ma (begun b n label _ _ e3 e4 e13 mn s4))))
    (λ σ m. (refl, refl, (m.1.0, m.1.1.1.0, (m.1.1.1.0, m.1.1.0, (refl, refl, (m.0, m.0, tt))))))

-- `for` over an array
pub each_adds : (i q l x u j : Fragment) (one two t w a n : ℕ) (e0 e1 e2 e3 e4 e5 e6 e7 e8 e9 e10 e11 e12 e13 e14 : Emitter) → Made t e0 e1 → Made w e1 e2 → Made a e2 e3 → Made n e3 e4 → Runs i e4 e5 → Reached t e5 e6 → Adds q w n e6 e7 → Reached w e7 e8 → Runs l e8 e9 → Adds x n a e9 e10 → Reached a e10 e11 → Runs u e11 e12 → Adds j t t e12 e13 → Reached n e13 e14 →
    Adds (parts (plain i ∷ to q (Part 2) (Part 6) ∷ plain l ∷ to x (Part 6) (Part 4) ∷ plain u ∷ to j (Part 1) (Part 1) ∷ [])) one two e0 e14
each_adds i q l x u j one two t w a n e0 e1 e2 e3 e4 e5 e6 e7 e8 e9 e10 e11 e12 e13 e14 mt mw ma mn ri pt aq pw rl ax pa ru aj pn =
    let label : Target → ℕ = label_of (0 ∷ t ∷ w ∷ 0 ∷ a ∷ 0 ∷ n ∷ []) one two in
    let b : ℕ = length e0.labels.items in
    let s13 = marked b n label [] [] e13 e14 e14 (omega arith) pn (done b label e14.points.items e14.labels.items) in
    let s12 = laid b label (to j (Part 1) (Part 1)) [] _ e12 e13 e14 aj s13 in
    let s11 = laid b label (plain u) _ _ e11 e12 e14 (ru one two) s12 in
    let s10 = marked b a label _ _ e10 e11 e14 (omega arith) pa s11 in
    let s9 = laid b label (to x (Part 6) (Part 4)) _ _ e9 e10 e14 ax s10 in
    let s8 = laid b label (plain l) _ _ e8 e9 e14 (rl one two) s9 in
    let s7 = marked b w label _ _ e7 e8 e14 (omega arith) pw s8 in
    let s6 = laid b label (to q (Part 2) (Part 6)) _ _ e6 e7 e14 aq s7 in
    let s5 = marked b t label _ _ e5 e6 e14 (omega arith) pt s6 in
    let s4 = laid b label (plain i) _ _ e4 e5 e14 (ri one two) s5 in
    form label (plain i ∷ to q (Part 2) (Part 6) ∷ plain l ∷ to x (Part 6) (Part 4) ∷ plain u ∷ to j (Part 1) (Part 1) ∷ []) _ one two _ _ _ _ (begun b t label _ _ e0 e1 e14 mt (begun b w label _ _ e1 e2 e14 mw (begun b a label _ _ e2 e3 e14 ma (begun b n label _ _ e3 e4 e14 mn s4))))
    (λ σ m. (refl, refl, (m.1.0, m.1.1.1.0, (refl, refl, (m.1.1.1.0, m.1.1.0, (refl, refl, (m.0, m.0, tt)))))))

-- a whole body
pub body_adds : (k f x r : Fragment) (one two a d n : ℕ) (e0 e1 e2 e3 e4 e5 e6 e7 e8 e9 e10 : Emitter) → Made a e0 e1 → Made d e1 e2 → Made n e2 e3 → Reached a e3 e4 → Runs k e4 e5 → Reached d e5 e6 → Runs f e6 e7 → Adds x n n e7 e8 → Reached n e8 e9 → Runs r e9 e10 →
    Adds (parts (to k (Part 0) (Part 0) ∷ to f (Part 1) (Part 1) ∷ to x (Part 3) (Part 3) ∷ to r (Part 3) (Part 3) ∷ [])) one two e0 e10
body_adds k f x r one two a d n e0 e1 e2 e3 e4 e5 e6 e7 e8 e9 e10 ma md mn pa rk pd rf ax pn rr =
    let label : Target → ℕ = label_of (a ∷ d ∷ 0 ∷ n ∷ []) one two in
    let b : ℕ = length e0.labels.items in
    let s9 = laid b label (to r (Part 3) (Part 3)) [] [] e9 e10 e10 (rr n n) (done b label e10.points.items e10.labels.items) in
    let s8 = marked b n label _ _ e8 e9 e10 (omega arith) pn s9 in
    let s7 = laid b label (to x (Part 3) (Part 3)) _ _ e7 e8 e10 ax s8 in
    let s6 = laid b label (to f (Part 1) (Part 1)) _ _ e6 e7 e10 (rf d d) s7 in
    let s5 = marked b d label _ _ e5 e6 e10 (omega arith) pd s6 in
    let s4 = laid b label (to k (Part 0) (Part 0)) _ _ e4 e5 e10 (rk a a) s5 in
    let s3 = marked b a label _ _ e3 e4 e10 (omega arith) pa s4 in
    form label (to k (Part 0) (Part 0) ∷ to f (Part 1) (Part 1) ∷ to x (Part 3) (Part 3) ∷ to r (Part 3) (Part 3) ∷ []) _ one two _ _ _ _ (begun b a label _ _ e0 e1 e10 ma (begun b d label _ _ e1 e2 e10 md (begun b n label _ _ e2 e3 e10 mn s3)))
    (λ σ m. (m.0, m.0, (m.1.0, m.1.0, (m.1.1.0, m.1.1.0, (m.1.1.0, m.1.1.0, tt)))))
