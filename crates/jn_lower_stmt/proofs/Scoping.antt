-- The names in scope, the last declared one last in the code and first in the definitions.
use Rattle.std.proofs.Common.{◌≡◌, ◌≤◌, ℕ, zero, suc, ◌+◌, ◌-◌, List, [], ◌∷◌, ◌++◌, length, take, drop, refl, sym, ap, ◌∙◌, arith}
use Rattle.std.proofs.lemmas.List.{length-append, drop-append-le}
use Rattle.std.proofs.Math.ListN.{drop_of_length-le}
use Rattle.jn_base.specs.declared.place.Row.{Row}
use Rattle.jn_lowering.specs.Scopes.{Local, Scope}
use Rattle.jn_scopes.specs.declared.context.Faults.{Faults}
use Rattle.jn_scopes.specs.declared.context.Variable.{Variable}
use Rattle.jn_scopes.specs.Views.{bound_of, local_of, scope_of}
use Rattle.jn_scopes.proofs.Scoping.{AllWithin, faults_added, scope_grown, scope_last}
use Rattle.jn_lower_stmt.specs.declared.names.Declared.{Declared}
use Rattle.jn_lower_stmt.specs.Ranges.{Within}
use Rattle.jn_lower_stmt.specs.Views.{declared_local, rows_of}

pub length_scope : (rows : List Row) (vs : List Variable) → length (scope_of rows vs) ≡ length vs
length_scope rows [] = refl
length_scope rows (v ∷ vs) =
    let rest : length (scope_of rows vs) ≡ length vs = length_scope rows vs in
    let more : length (scope_of rows vs ++ local_of rows v ∷ []) ≡ length (scope_of rows vs) + 1 = length-append (scope_of rows vs) (local_of rows v ∷ []) in
    omega (rest, more, arith)

-- the first declared names
pub scope_taken : (rows : List Row) (vs : List Variable) (names : ℕ) → scope_of rows (take names vs) ≡ drop (length (scope_of rows vs) - names) (scope_of rows vs)
scope_taken rows [] zero = refl
scope_taken rows [] (suc n) = let short : length (scope_of rows []) ≤ 0 - suc n = omega arith in sym (drop_of_length-le {A = Local} [] short)
scope_taken rows (v ∷ vs) zero = let all : length (scope_of rows (v ∷ vs)) ≤ length (scope_of rows (v ∷ vs)) - 0 = omega arith in sym (drop_of_length-le (scope_of rows (v ∷ vs)) all)
scope_taken rows (v ∷ vs) (suc n) =
    let all : length (scope_of rows vs ++ local_of rows v ∷ []) ≡ length (scope_of rows vs) + 1 = length-append (scope_of rows vs) (local_of rows v ∷ []) in
    let left : length (scope_of rows vs ++ local_of rows v ∷ []) - suc n ≡ length (scope_of rows vs) - n = omega (all, arith) in
    ap (λ ls. ls ++ local_of rows v ∷ []) (scope_taken rows vs n)
    ∙ sym (drop-append-le (length (scope_of rows vs) - n) (scope_of rows vs) (local_of rows v ∷ []) (omega arith))
    ∙ ap (λ k. drop k (scope_of rows vs ++ local_of rows v ∷ [])) (sym left)

-- where the rows of the names lie

all_within : (n : ℕ) (vs : List Variable) → Within n vs → AllWithin n vs
all_within n [] w = tt
all_within n (v ∷ vs) w = (w.0, w.1, all_within n vs w.2)

pub within_taken : (n k : ℕ) (vs : List Variable) → Within n vs → Within n (take k vs)
within_taken n zero [] w = tt
within_taken n zero (v ∷ vs) w = tt
within_taken n (suc k) [] w = tt
within_taken n (suc k) (v ∷ vs) w = (w.0, w.1, within_taken n k vs w.2)

pub within_more : (n m : ℕ) (vs : List Variable) → n ≤ m → Within n vs → Within m vs
within_more n m [] le w = tt
within_more n m (v ∷ vs) le w = (w.0, omega (w.1, le, arith), within_more n m vs le w.2)

within_last : (n : ℕ) (vs : List Variable) (v : Variable) → Within n vs → v.faults.from ≤ v.faults.to → v.faults.to ≤ n → Within n (vs ++ v ∷ [])
within_last n [] v w a b = (a, b, tt)
within_last n (u ∷ vs) v w a b = (w.0, w.1, within_last n vs v w.2 a b)

-- the rows of the new name are added after the others
abbrev pub variable : Declared → ℕ → ℕ → Variable
variable d from to = record { name = d.name; reg = d.reg; base = d.base; bound = d.bound; fixed = d.fixed; faults = record { from = from; to = to } }

grown : (rows more : List Row) (d : Declared) → more ≡ rows ++ rows_of d.fault → length rows ≤ length more
grown rows more d is = let l : length (rows ++ rows_of d.fault) ≡ length rows + length (rows_of d.fault) = length-append rows (rows_of d.fault) in let m : length more ≡ length (rows ++ rows_of d.fault) = ap length is in omega (l, m, arith)

pub rows_added : (rows more : List Row) (vs : List Variable) (d : Declared) → Within (length rows) vs → more ≡ rows ++ rows_of d.fault → Within (length more) vs
rows_added rows more vs d w is = within_more (length rows) (length more) vs (grown rows more d is) w

pub name_within : (rows more : List Row) (vs us : List Variable) (d : Declared) (from to : ℕ) → Within (length rows) vs → more ≡ rows ++ rows_of d.fault → from ≡ length rows → to ≡ length more → us ≡ vs ++ variable d from to ∷ [] → Within (length more) us
name_within rows more vs us d from to w is at_from at_to added =
    let g : length rows ≤ length more = grown rows more d is in
    rw added (within_last (length more) vs (variable d from to) (rows_added rows more vs d w is) (omega (g, at_from, at_to, arith)) (omega (at_to, arith)))

pub name_added : (rows more : List Row) (vs us : List Variable) (d : Declared) (from to : ℕ) → Within (length rows) vs → more ≡ rows ++ rows_of d.fault → from ≡ length rows → to ≡ length more → us ≡ vs ++ variable d from to ∷ [] → scope_of more us ≡ declared_local d ∷ scope_of rows vs
name_added rows more vs us d from to w is at_from at_to added =
    let f : Faults = record { from = from; to = to } in
    ap (λ xs. scope_of xs us) is
    ∙ ap (λ xs. scope_of (rows ++ rows_of d.fault) xs) added
    ∙ scope_last (rows ++ rows_of d.fault) vs (variable d from to)
    ∙ ap (λ fs. record { name = d.name.0; reg = d.reg.0; base = d.base; bound = bound_of d.bound; fixed = d.fixed; faults = fs } ∷ scope_of (rows ++ rows_of d.fault) vs) (faults_added rows (rows_of d.fault) f at_from (at_to ∙ ap length is))
    ∙ ap (λ (s : Scope). declared_local d ∷ s) (scope_grown rows (rows_of d.fault) vs (all_within (length rows) vs w))
