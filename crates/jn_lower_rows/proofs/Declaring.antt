-- A name that is declared, and the type with which it is.
use Rattle.std.proofs.Common.{◌≡◌, ◌≤◌, ◌<◌, ◌-◌, ℕ, Bool, true, false, cond, ltb, List, [], ◌∷◌, ◌++◌, length, take, drop, Option, Some, None, refl, sym, ap, ◌∙◌, subst, append-nil, arith}
use Rattle.std.proofs.lemmas.List.{drop-append-le, length-append, length-drop, take-append-le}
use Rattle.std.proofs.lemmas.Bool.{ltb-false, ltb-true}
use Rattle.std.proofs.Math.Seq.{drop-append_seam, take-length}
use Rattle.jn_base.specs.declared.code.Code.TheVariants.{J1}
use Rattle.jn_base.specs.declared.place.Row.{Row}
use Rattle.jn_quals.specs.Qualifier.{Qualifier}
use Rattle.jn_trees.specs.declared.expression.Annotation.{Annotation}
use Rattle.jn_trees.specs.declared.expression.Identifier.{Identifier}
use Rattle.jn_trees.specs.declared.statement.TypeUse.{TypeUse}
use Rattle.jn_points.specs.declared.point.BaseType.{BaseType}
use Rattle.jn_points.specs.declared.program.Program.{Program}
use Rattle.jn_places.specs.PlacedView.{placed_type_use}
use Rattle.jn_lowering.specs.Annotations.{base_rows, both_kinds, name_row, row, type_rows, when}
use Rattle.jn_lowering.specs.Locals.{State, declares, is_some}
use Rattle.jn_lowering.specs.Scopes.{Local, local_in}
use Rattle.jn_lowering.specs.StatementRows as spec
use Rattle.jn_scopes.specs.declared.context.Faults.{Faults}
use Rattle.jn_scopes.specs.declared.context.Variable.{Variable}
use Rattle.jn_scopes.specs.Views.{faults_of, local_of, scope_of}
use Rattle.jn_lower_rows.specs.declared.standing.Names.{Names}
use Rattle.jn_lower_rows.specs.Standing.{AllWithin, Stands, Walks, WellKept, plain}
use Rattle.jn_lower_rows.proofs.Adding.{two}
use Rattle.jn_lower_rows.proofs.Plain.{plain_in, plain_option}

-- lists that grow

pub all_append : (n : ℕ) (vs : List Variable) (v : Variable) → AllWithin n vs → v.faults.to ≤ n → AllWithin n (vs ++ v ∷ [])
all_append n [] v h l = (l, tt)
all_append n (w ∷ vs) v h l = (h.0, all_append n vs v h.1 l)

all_more : (n m : ℕ) (vs : List Variable) → n ≤ m → AllWithin n vs → AllWithin m vs
all_more n m [] l h = tt
all_more n m (v ∷ vs) l h = (omega (l, h.0, arith), all_more n m vs l h.1)

pub scope_last : (rows : List Row) (vs : List Variable) (v : Variable) → scope_of rows (vs ++ v ∷ []) ≡ local_of rows v ∷ scope_of rows vs
scope_last rows [] v = refl
scope_last rows (w ∷ vs) v = ap (λ ls. ls ++ local_of rows w ∷ []) (scope_last rows vs v)

part_same : (rows more : List Row) (from to : ℕ) → to ≤ length rows → take (to - from) (drop from (rows ++ more)) ≡ take (to - from) (drop from rows)
part_same rows more from to l = by (ltb from to) refl
  where
    by : (b : Bool) → ltb from to ≡ b → take (to - from) (drop from (rows ++ more)) ≡ take (to - from) (drop from rows)
    by true e =
        let less : from < to = ltb-true from to e in
        let inside : from ≤ length rows = omega (less, l, arith) in
        let short : to - from ≤ length (drop from rows) = omega (less, l, length-drop from rows, arith) in
        ap (take (to - from)) (drop-append-le from rows more inside) ∙ take-append-le (to - from) (drop from rows) more short
    by false e =
        let none : to - from ≡ 0 = omega (ltb-false from to e, arith) in
        ap (λ n. take n (drop from (rows ++ more))) none ∙ sym (ap (λ n. take n (drop from rows)) none)

scope_more : (rows more : List Row) (vs : List Variable) → AllWithin (length rows) vs → scope_of (rows ++ more) vs ≡ scope_of rows vs
scope_more rows more [] h = refl
scope_more rows more (v ∷ vs) h =
    ap (λ ls. ls ++ local_of (rows ++ more) v ∷ []) (scope_more rows more vs h.1)
    ∙ ap (λ f. scope_of rows vs ++ record { name = v.name.0; reg = v.reg.0; base = v.base; bound = Rattle.jn_scopes.specs.Views.bound_of v.bound; fixed = v.fixed; faults = f } ∷ []) (part_same rows more v.faults.from v.faults.to h.0)

some_plain : (o : Option Local) → is_some (plain_option o) ≡ is_some o
some_plain None = refl
some_plain (Some l) = refl

module _ (P : Program) where
  pub declare_walks : (old new : Names) (v : Variable) (n : Identifier) (base : BaseType) (fixed : Bool) (faults : Faults) (known : Bool) (x y z : List Row) → WellKept old → faults.to ≤ length old.faults.items →
      y ≡ x ++ name_row n.name.0 n.span → known ≡ is_some (local_in (scope_of old.faults.items old.scope) n.name.0) → z ≡ y ++ when known (row J1 n.span) →
      new.faults.items ≡ old.faults.items → new.scope ≡ old.scope ++ cond known [] (v ∷ []) → v ≡ record { name = n.name; reg = record { 0 = 0 }; base = base; bound = None; fixed = fixed; faults = faults } →
      (bound : Option Qualifier) → Walks (λ f st. spec.declared_rows st.scope n.name.0 n.span) (λ f st. declares st n.name.0 base bound fixed (faults_of old.faults.items faults)) old new x z
  declare_walks old new v n base fixed faults known x y z k l rows ke more fe se ve bound = record {
    longer = record { scope = cond known [] (v ∷ []); faults = []; scope_is = se; faults_is = fe ∙ sym (append-nil old.faults.items) };
    kept = subst (λ m. AllWithin m new.scope) (ap length (sym fe)) (subst (AllWithin (length old.faults.items)) (sym se) (kept known));
    adds = λ f st s. two x (name_row n.name.0 n.span) (when (is_some (local_in st.scope n.name.0)) (row J1 n.span)) y z rows (more ∙ ap (λ b. y ++ when b (row J1 n.span)) (seen st s));
    stands = λ f st s. moved st s (is_some (local_in st.scope n.name.0)) (seen st s) ∙ ap (λ vs. scope_of old.faults.items vs) (sym se) ∙ ap (λ rs. scope_of rs new.scope) (sym fe);
  }
    where
      seen : (st : State) → Stands st old → known ≡ is_some (local_in st.scope n.name.0)
      seen st s = ke ∙ ap (λ u. is_some (local_in u n.name.0)) (sym s) ∙ ap is_some (plain_in st.scope n.name.0) ∙ some_plain (local_in st.scope n.name.0)

      within : v.faults.to ≤ length old.faults.items
      within = subst (λ w. w.faults.to ≤ length old.faults.items) (sym ve) l

      kept : (b : Bool) → AllWithin (length old.faults.items) (old.scope ++ cond b [] (v ∷ []))
      kept true = subst (AllWithin (length old.faults.items)) (sym (append-nil old.scope)) k
      kept false = all_append (length old.faults.items) old.scope v k within

      moved : (st : State) → Stands st old → (b : Bool) → known ≡ b → plain (cond b st.scope (record { name = n.name.0; reg = length st.locals; base = base; bound = bound; fixed = fixed; faults = faults_of old.faults.items faults } ∷ st.scope)) ≡ scope_of old.faults.items (old.scope ++ cond known [] (v ∷ []))
      moved st s true e = s ∙ ap (scope_of old.faults.items) (sym (append-nil old.scope)) ∙ sym (ap (λ b. scope_of old.faults.items (old.scope ++ cond b [] (v ∷ []))) e)
      moved st s false e = ap (λ u. record { name = n.name.0; reg = 0; base = base; bound = None; fixed = fixed; faults = faults_of old.faults.items faults } ∷ u) s
          ∙ ap (λ w. local_of old.faults.items w ∷ scope_of old.faults.items old.scope) (sym ve) ∙ sym (scope_last old.faults.items old.scope v)
          ∙ sym (ap (λ b. scope_of old.faults.items (old.scope ++ cond b [] (v ∷ []))) e)

  pub type_walks : (old new : Names) (u : TypeUse) (notes : List Annotation) (x y z : List Row) → WellKept old → y ≡ x ++ type_rows (placed_type_use u) both_kinds notes → z ≡ y ++ base_rows P u.base → new.scope ≡ old.scope → new.faults.items ≡ old.faults.items ++ base_rows P u.base →
      Walks (λ n st. type_rows (placed_type_use u) both_kinds notes ++ base_rows P u.base) (λ n st. st) old new x z
  type_walks old new u notes x y z k g h se fe = record {
    longer = record { scope = []; faults = base_rows P u.base; scope_is = se ∙ sym (append-nil old.scope); faults_is = fe };
    kept = subst (λ vs. AllWithin (length new.faults.items) vs) (sym se) (all_more (length old.faults.items) (length new.faults.items) old.scope (omega (ap length fe, length-append old.faults.items (base_rows P u.base), arith)) k);
    adds = λ f st s. two x (type_rows (placed_type_use u) both_kinds notes) (base_rows P u.base) y z g h;
    stands = λ f st s. s ∙ sym (scope_more old.faults.items (base_rows P u.base) old.scope k) ∙ ap (λ rs. scope_of rs old.scope) (sym fe) ∙ ap (scope_of new.faults.items) (sym se);
  }

  -- the rows of a type that was declared last
  pub new_faults : (old new rows : List Row) (f : Faults) → new ≡ old ++ rows → f.from ≡ length old → f.to ≡ length new → faults_of new f ≡ rows
  new_faults old new rows f e a b =
      let count : f.to - f.from ≡ length rows = omega (a, b, ap length e, length-append old rows, arith) in
      ap (λ n. take n (drop f.from new)) count ∙ ap (λ n. take (length rows) (drop n new)) a ∙ ap (λ xs. take (length rows) (drop (length old) xs)) e ∙ ap (take (length rows)) (drop-append_seam old rows) ∙ take-length rows
