-- Statements one after the other, and back to the names before them.
use Rattle.std.proofs.Common.{◌≡◌, ℕ, List, [], ◌++◌, length, take, sym, ap, ◌∙◌, subst, append_assoc, append-nil}
use Rattle.std.proofs.Math.Seq.{take-append_seam}
use Rattle.jn_base.specs.declared.place.Row.{Row}
use Rattle.jn_points.specs.declared.program.Program.{Program}
use Rattle.jn_places.specs.Placed.{PlacedTree, PlacedTrees}
use Rattle.jn_lowering.specs.Bases.{type_of}
use Rattle.jn_lowering.specs.ExpressionRows.{Setting, rows_of, rows_of_all}
use Rattle.jn_lowering.specs.Locals.{State}
use Rattle.jn_scopes.specs.declared.context.Variable.{Variable}
use Rattle.jn_base.specs.declared.number.ClassNo.{ClassNo}
use Rattle.jn_scopes.specs.declared.context.Context.{Context}
use Rattle.jn_scopes.specs.Views.{scope_of, type_in}
use Rattle.jn_lower_rows.specs.declared.setting.Setting as settings
use Rattle.jn_lower_rows.specs.Views.{all_in, rows_in, setting_of}
use Rattle.jn_lower_rows.specs.declared.standing.Names.{Names}
use Rattle.jn_lower_rows.specs.Standing.{AllWithin, Longer, Stands, Walks, WellKept, plain}
use Rattle.jn_lower_rows.proofs.Adding.{two}
use Rattle.jn_lower_rows.proofs.Plain.{plain_all, plain_rows, plain_type}

longer_then : (a b d : Names) → Longer a b → Longer b d → Longer a d
longer_then a b d g h = record {
  scope = g.scope ++ h.scope;
  faults = g.faults ++ h.faults;
  scope_is = h.scope_is ∙ ap (λ x. x ++ h.scope) g.scope_is ∙ append_assoc a.scope g.scope h.scope;
  faults_is = h.faults_is ∙ ap (λ x. x ++ h.faults) g.faults_is ∙ append_assoc a.faults.items g.faults h.faults;
}

pub longer_self : (a : Names) → Longer a a
longer_self a = record { scope = []; faults = []; scope_is = sym (append-nil a.scope); faults_is = sym (append-nil a.faults.items) }

pub walk_then : (r1 r2 : ℕ → State → List Row) (b1 b2 : ℕ → State → State) (a b d : Names) (x y z : List Row) → Walks r1 b1 a b x y → Walks r2 b2 b d y z → Walks (λ f st. r1 f st ++ r2 f (b1 f st)) (λ f st. b2 f (b1 f st)) a d x z
walk_then r1 r2 b1 b2 a b d x y z g h = record {
  longer = longer_then a b d g.longer h.longer;
  kept = h.kept;
  adds = λ f st s. two x (r1 f st) (r2 f (b1 f st)) y z (g.adds f st s) (h.adds f (b1 f st) (g.stands f st s));
  stands = λ f st s. h.stands f (b1 f st) (g.stands f st s);
}

-- with another state of the same names before it
pub walk_on : (r : ℕ → State → List Row) (b m : ℕ → State → State) (old new : Names) (x y : List Row) → ((f : ℕ) (st : State) → (m f st).scope ≡ st.scope) → Walks r b old new x y → Walks (λ f st. r f (m f st)) (λ f st. b f (m f st)) old new x y
walk_on r b m old new x y same g = record {
  longer = g.longer;
  kept = g.kept;
  adds = λ f st s. g.adds f (m f st) (ap plain (same f st) ∙ s);
  stands = λ f st s. g.stands f (m f st) (ap plain (same f st) ∙ s);
}

-- with another state of the same names after it
pub walk_behind : (r : ℕ → State → List Row) (b m : ℕ → State → State) (old new : Names) (x y : List Row) → ((f : ℕ) (st : State) → (m f st).scope ≡ (b f st).scope) → Walks r b old new x y → Walks r m old new x y
walk_behind r b m old new x y same g = record {
  longer = g.longer;
  kept = g.kept;
  adds = g.adds;
  stands = λ f st s. ap plain (same f st) ∙ g.stands f st s;
}

-- rows where no name is declared
pub walk_stay : (r : ℕ → State → List Row) (m : ℕ → State → State) (names : Names) (x y : List Row) → WellKept names → ((f : ℕ) (st : State) → (m f st).scope ≡ st.scope) → ((f : ℕ) (st : State) → Stands st names → y ≡ x ++ r f st) → Walks r m names names x y
walk_stay r m names x y k same adds = record { longer = longer_self names; kept = k; adds = adds; stands = λ f st s. ap plain (same f st) ∙ s }

-- back to the names before it
pub walk_back : (r : ℕ → State → List Row) (b m : ℕ → State → State) (old new back : Names) (x y : List Row) → WellKept old → ((f : ℕ) (st : State) → (m f st).scope ≡ st.scope) → Walks r b old new x y →
    back.scope ≡ take (length old.scope) new.scope → back.faults.items ≡ take (length old.faults.items) new.faults.items → Walks r m old back x y
walk_back r b m old new back x y k same g e f = record {
  longer = record { scope = []; faults = []; scope_is = scope ∙ sym (append-nil old.scope); faults_is = faults ∙ sym (append-nil old.faults.items) };
  kept = subst (λ n. AllWithin n back.scope) (ap length (sym faults)) (subst (λ vs. AllWithin (length old.faults.items) vs) (sym scope) k);
  adds = g.adds;
  stands = λ n st s. ap plain (same n st) ∙ s ∙ ap (λ vs. scope_of old.faults.items vs) (sym scope) ∙ ap (λ rows. scope_of rows back.scope) (sym faults);
}
  where
    scope : back.scope ≡ old.scope
    scope = e ∙ ap (take (length old.scope)) g.longer.scope_is ∙ take-append_seam old.scope g.longer.scope

    faults : back.faults.items ≡ old.faults.items
    faults = f ∙ ap (take (length old.faults.items)) g.longer.faults_is ∙ take-append_seam old.faults.items g.longer.faults

module _ (P : Program) (c : ℕ) (at : Setting) (st : State) (names : Names) (s : Stands st names) where
  pub look_rows : (e : PlacedTree) → rows_of P c at (scope_of names.faults.items names.scope) e ≡ rows_of P c at st.scope e
  look_rows e = ap (λ u. rows_of P c at u e) (sym s) ∙ plain_rows P c st.scope at e

  pub look_all : (es : PlacedTrees) → rows_of_all P c at (scope_of names.faults.items names.scope) es ≡ rows_of_all P c at st.scope es
  look_all es = ap (λ u. rows_of_all P c at u es) (sym s) ∙ plain_all P c st.scope at es

  pub look_type : (e : PlacedTree) → type_of P c (scope_of names.faults.items names.scope) e ≡ type_of P c st.scope e
  look_type e = ap (λ u. type_of P c u e) (sym s) ∙ plain_type P c st.scope e

-- what an expression adds in the names' context
module _ (x : Context) (P : Program) (k : ClassNo) (vs : List Variable) (rows : List Row) (p : x.program.now ≡ P) (c : x.class ≡ k) (v : x.scope.now ≡ vs) (r : x.faults.now ≡ rows) where
  pub context_type : (e : PlacedTree) → type_in x e ≡ type_of P k.0 (scope_of rows vs) e
  context_type e = ap (λ p. type_of p x.class.0 (scope_of x.faults.now x.scope.now) e) p ∙ ap (λ c. type_of P c.0 (scope_of x.faults.now x.scope.now) e) c ∙ ap (λ v. type_of P k.0 (scope_of x.faults.now v) e) v ∙ ap (λ r. type_of P k.0 (scope_of r vs) e) r

  pub context_rows : (at : settings.Setting) (e : PlacedTree) → rows_in x at e ≡ rows_of P k.0 (setting_of at) (scope_of rows vs) e
  context_rows at e = ap (λ p. rows_of p x.class.0 (setting_of at) (scope_of x.faults.now x.scope.now) e) p ∙ ap (λ c. rows_of P c.0 (setting_of at) (scope_of x.faults.now x.scope.now) e) c ∙ ap (λ v. rows_of P k.0 (setting_of at) (scope_of x.faults.now v) e) v ∙ ap (λ r. rows_of P k.0 (setting_of at) (scope_of r vs) e) r

  pub context_all : (at : settings.Setting) (es : PlacedTrees) → all_in x at es ≡ rows_of_all P k.0 (setting_of at) (scope_of rows vs) es
  context_all at es = ap (λ p. rows_of_all p x.class.0 (setting_of at) (scope_of x.faults.now x.scope.now) es) p ∙ ap (λ c. rows_of_all P c.0 (setting_of at) (scope_of x.faults.now x.scope.now) es) c ∙ ap (λ v. rows_of_all P k.0 (setting_of at) (scope_of x.faults.now v) es) v ∙ ap (λ r. rows_of_all P k.0 (setting_of at) (scope_of r vs) es) r
