-- The locals in scope, as a search from the last one on sees them.
use Rattle.std.proofs.Common.{◌≡◌, ◌<◌, ◌≤◌, ℕ, zero, suc, ◌+◌, ◌-◌, List, [], ◌∷◌, ◌++◌, length, take, drop, get_or, refl, sym, ap, ◌∙◌, arith}
use Rattle.std.proofs.lemmas.List.{take_more, drop-append-le, take-append-le, length-append, length-drop}
use Rattle.std.proofs.Math.Seq.{drop-append_seam, take-length}
use Rattle.std.proofs.lemmas.Bool.{eq-eqb, ne_eqb}
use Rattle.std.specs.Prelude.{⊤, Some, cond}
use Rattle.jn_base.specs.declared.place.Row.{Row}
use Rattle.jn_lowering.specs.Scopes.{Local, local_in}
use Rattle.jn_scopes.specs.declared.context.Variable.{Variable}
use Rattle.jn_scopes.specs.declared.context.Faults.{Faults}
use Rattle.jn_scopes.specs.Views.{bound_of, faults_of, local_of, scope_of}

module _ (rows : List Row) where
  pub scope_last : (vs : List Variable) (v : Variable) → scope_of rows (vs ++ v ∷ []) ≡ local_of rows v ∷ scope_of rows vs
  scope_last [] v = refl
  scope_last (w ∷ vs) v = ap (λ ls. ls ++ local_of rows w ∷ []) (scope_last vs v)

  pub scope_before : (vs : List Variable) (i : ℕ) (v : Variable) → i < length vs → scope_of rows (take (i + 1) vs) ≡ local_of rows (get_or vs i v) ∷ scope_of rows (take i vs)
  scope_before vs i v lt = ap (scope_of rows) (take_more vs i v lt) ∙ scope_last (take i vs) (get_or vs i v)

  step : (vs : List Variable) (i at : ℕ) (d : Variable) → at ≡ i + 1 → i < length vs → scope_of rows (take at vs) ≡ local_of rows (get_or vs i d) ∷ scope_of rows (take i vs)
  step vs i at d e lt = ap (λ k. scope_of rows (take k vs)) e ∙ scope_before vs i d lt

here : (l : Local) (ls : List Local) (n : ℕ) → l.name ≡ n → local_in (l ∷ ls) n ≡ Some l
here l ls n e = ap (λ b. cond b (Some l) (local_in ls n)) (eq-eqb l.name n e)

there : (l : Local) (ls : List Local) (n : ℕ) → (l.name ≡ n → ⊥) → local_in (l ∷ ls) n ≡ local_in ls n
there l ls n ne = ap (λ b. cond b (Some l) (local_in ls n)) (ne_eqb l.name n ne)

-- places that hold other names
skip : (rows : List Row) (vs : List Variable) (n k more : ℕ) → k + more ≤ length vs → ((i : ℕ) (v : Variable) → k ≤ i → i < k + more → (get_or vs i v).name.0 ≡ n → ⊥) → local_in (scope_of rows (take (k + more) vs)) n ≡ local_in (scope_of rows (take k vs)) n
skip rows vs n k zero within others = ap (λ m. local_in (scope_of rows (take m vs)) n) (omega arith)
skip rows [] n k (suc more) within others = absurd (omega (within, arith))
skip rows (v ∷ vs) n k (suc more) within others =
    let one : k + suc more ≡ k + more + 1 = omega arith in
    let inside : k + more < length (v ∷ vs) = omega (within, arith) in
    ap (λ s. local_in s n) (step rows (v ∷ vs) (k + more) (k + suc more) v one inside)
    ∙ there (local_of rows (get_or (v ∷ vs) (k + more) v)) (scope_of rows (take (k + more) (v ∷ vs))) n (others (k + more) v (omega arith) (omega arith))
    ∙ skip rows (v ∷ vs) n k more (omega (within, arith)) (λ i u from below. others i u from (omega (below, arith)))

pub skipped : (rows : List Row) (vs : List Variable) (n k at : ℕ) → k ≤ at → at ≤ length vs → ((i : ℕ) (v : Variable) → k ≤ i → i < at → (get_or vs i v).name.0 ≡ n → ⊥) → local_in (scope_of rows (take at vs)) n ≡ local_in (scope_of rows (take k vs)) n
skipped rows vs n k at le within others =
    let all : at ≡ k + (at - k) = omega (le, arith) in
    ap (λ m. local_in (scope_of rows (take m vs)) n) all
    ∙ skip rows vs n k (at - k) (omega (le, within, arith)) (λ i v from below. others i v from (omega (below, le, arith)))

pub found_here : (rows : List Row) (vs : List Variable) (n i at : ℕ) (d : Variable) → at ≡ i + 1 → i < length vs → local_in (scope_of rows (take at vs)) n ≡ local_in (scope_of rows vs) n → (get_or vs i d).name.0 ≡ n → local_in (scope_of rows vs) n ≡ Some (local_of rows (get_or vs i d))
found_here rows vs n i at d e lt same named = sym same ∙ ap (λ s. local_in s n) (step rows vs i at d e lt) ∙ here (local_of rows (get_or vs i d)) (scope_of rows (take i vs)) n named

pub passed : (rows : List Row) (vs : List Variable) (n i at : ℕ) (d : Variable) → at ≡ i + 1 → i < length vs → local_in (scope_of rows (take at vs)) n ≡ local_in (scope_of rows vs) n → ((get_or vs i d).name.0 ≡ n → ⊥) → local_in (scope_of rows (take i vs)) n ≡ local_in (scope_of rows vs) n
passed rows vs n i at d e lt same other = sym (there (local_of rows (get_or vs i d)) (scope_of rows (take i vs)) n other) ∙ ap (λ s. local_in s n) (sym (step rows vs i at d e lt)) ∙ same

-- rows after those that the locals name change nothing

abbrev pub AllWithin : ℕ → List Variable → Type 0
AllWithin n [] = ⊤
AllWithin n (v ∷ vs) = (v.faults.from ≤ v.faults.to) × (v.faults.to ≤ n) × AllWithin n vs

same_faults : (rows more : List Row) (from to : ℕ) → from ≤ to → to ≤ length rows → take (to - from) (drop from (rows ++ more)) ≡ take (to - from) (drop from rows)
same_faults rows more from to a b = ap (take (to - from)) (drop-append-le from rows more (omega (a, b, arith))) ∙ take-append-le (to - from) (drop from rows) more (let l : length (drop from rows) ≡ length rows - from = length-drop from rows in omega (l, a, b, arith))

pub scope_grown : (rows more : List Row) (vs : List Variable) → AllWithin (length rows) vs → scope_of (rows ++ more) vs ≡ scope_of rows vs
scope_grown rows more [] within = refl
scope_grown rows more (v ∷ vs) within =
    ap (λ s. s ++ local_of (rows ++ more) v ∷ []) (scope_grown rows more vs within.2)
    ∙ ap (λ fs. scope_of rows vs ++ record { name = v.name.0; reg = v.reg.0; base = v.base; bound = bound_of v.bound; fixed = v.fixed; faults = fs } ∷ []) (same_faults rows more v.faults.from v.faults.to within.0 within.1)

-- rows that were added last are those of what names them
pub faults_added : (rows more : List Row) (f : Faults) → f.from ≡ length rows → f.to ≡ length (rows ++ more) → faults_of (rows ++ more) f ≡ more
faults_added rows more f at_from at_to =
    ap (λ n. take (f.to - n) (drop n (rows ++ more))) at_from
    ∙ ap (λ xs. take (f.to - length rows) xs) (drop-append_seam rows more)
    ∙ ap (λ n. take n more) (let l : length (rows ++ more) ≡ length rows + length more = length-append rows more in let s : f.to - length rows ≡ length more = omega (l, at_to, arith) in s)
    ∙ take-length more
