-- Whole bodies: the parameters in scope, a constructor's call and the initializers, then the statements.
use Rattle.std.proofs.Common.{◌≡◌, ◌≤◌, ◌<◌, ◌+◌, ℕ, Bool, true, false, cond, not, get_or, List, [], ◌∷◌, ◌++◌, length, drop, Option, Some, None, refl, sym, ap, ◌∙◌}
use Rattle.std.proofs.lemmas.List.{drop_more}
use Rattle.std.proofs.Math.ListN.{drop_of_length-le}
use Rattle.jn_base.specs.declared.place.Row.{Row}
use Rattle.jn_base.specs.declared.place.Span.{Span}
use Rattle.jn_trees.specs.declared.declaration.Parameter.{Parameter}
use Rattle.jn_points.specs.declared.point.BaseType.{BaseType}
use Rattle.jn_points.specs.declared.program.Program.{Program}
use Rattle.jn_points.specs.Lookup.{class_info, ctor_of, method_at, parent_of}
use Rattle.jn_points.specs.Members.{constructor_of, declared_field}
use Rattle.jn_places.specs.Placed.{PlacedDeclarator, PlacedMember, PlacedParameter, PlacedStatements, NoPlacedStatements, MorePlacedStatements, PlacedThisCall, PlacedSuperCallStatement, PlacedTree, PlacedTrees, NoPlacedTrees}
use Rattle.jn_places.specs.PlacedView.{placed_parameter, placed_parameters}
use Rattle.jn_lowering.specs.Annotations.{when}
use Rattle.jn_lowering.specs.Bodies as bodies
use Rattle.jn_lowering.specs.BodyRows as spec
use Rattle.jn_lowering.specs.Calls.{is_static}
use Rattle.jn_lowering.specs.ExpressionRows.{Setting, ctor_rows, rows_of, rows_of_all}
use Rattle.jn_lowering.specs.Locals.{State, has_final, parameters_from}
use Rattle.jn_lowering.specs.Scopes.{Local, Scope, count}
use Rattle.jn_lowering.specs.StatementRows.{all_rows}
use Rattle.jn_lowering.specs.Statements as lowered
use Rattle.jn_scopes.specs.declared.context.Variable.{Variable}
use Rattle.jn_scopes.specs.Views.{local_of, scope_of}
use Rattle.jn_lower_rows.specs.declared.setting.Setting as settings
use Rattle.jn_lower_rows.specs.declared.standing.Names.{Names}
use Rattle.jn_lower_rows.specs.Standing.{Stands, Walks, plain}
use Rattle.jn_lower_rows.specs.Views.{setting_of}
use Rattle.jn_lower_rows.proofs.Adding.{two}
use Rattle.jn_lower_rows.proofs.Declaring.{scope_last}
use Rattle.jn_lower_rows.proofs.Walking.{look_all}

-- parameters

abbrev pub parameter_local : PlacedParameter → BaseType → Local
parameter_local p b = record { name = p.name.name.0; reg = 0; base = b; bound = None; fixed = has_final p.marks; faults = [] }

-- rows have no use for their registers
pub plain_from : (r s : ℕ) (ps : List PlacedParameter) (bs : List BaseType) → plain (parameters_from r ps bs) ≡ plain (parameters_from s ps bs)
plain_from r s [] bs = refl
plain_from r s (p ∷ ps) [] = refl
plain_from r s (p ∷ ps) (b ∷ bs) = ap (λ u. parameter_local p b ∷ u) (plain_from (r + 1) (s + 1) ps bs)

no_types : (ps : List PlacedParameter) → parameters_from 0 ps [] ≡ []
no_types [] = refl
no_types (p ∷ ps) = refl

pub no_types_left : (ps : List Parameter) (bs : List BaseType) (n : ℕ) → length bs ≤ n → parameters_from 0 (placed_parameters (drop n ps)) (drop n bs) ≡ []
no_types_left ps bs n l = ap (λ xs. parameters_from 0 (placed_parameters (drop n ps)) xs) (drop_of_length-le bs l) ∙ no_types (placed_parameters (drop n ps))

pub next_parameter : (ps : List Parameter) (bs : List BaseType) (i j : ℕ) (p q : Parameter) (b d : BaseType) (vs : List Variable) (v : Variable) → j ≡ i + 1 → i < length ps → i < length bs → p ≡ get_or ps i q → b ≡ get_or bs i d → local_of [] v ≡ parameter_local (placed_parameter p) b →
    scope_of [] vs ≡ plain (parameters_from 0 (placed_parameters (drop j ps)) (drop j bs)) → scope_of [] (vs ++ v ∷ []) ≡ plain (parameters_from 0 (placed_parameters (drop i ps)) (drop i bs))
next_parameter ps bs i j p q b d vs v je lp lb pe be ve h =
    scope_last [] vs v
    ∙ ap (λ l. l ∷ scope_of [] vs) ve
    ∙ ap (λ u. parameter_local (placed_parameter p) b ∷ u) (h ∙ ap (λ j. plain (parameters_from 0 (placed_parameters (drop j ps)) (drop j bs))) je ∙ plain_from 0 1 (placed_parameters (drop (i + 1) ps)) (drop (i + 1) bs))
    ∙ sym (ap (λ xs. plain (parameters_from 0 (placed_parameters xs) (drop i bs))) (drop_more ps i q lp ∙ ap (λ x. x ∷ drop (i + 1) ps) (sym pe)) ∙ ap (λ xs. plain (parameters_from 0 (placed_parameters (p ∷ drop (i + 1) ps)) xs)) (drop_more bs i d lb ∙ ap (λ x. x ∷ drop (i + 1) bs) (sym be)))

-- a constructor's call

module _ (P : Program) (m : ℕ) (st : State) (names : Names) (s : Stands st names) where
  pub call_adds : (Q : Program) (c : ℕ) (at : settings.Setting) (D : Program) (d n : ℕ) (k : ℕ) (es : PlacedTrees) (span : Span) (x y z : List Row) →
      Q ≡ P → c ≡ bodies.class P m → at ≡ record { this_stands = false; own_fields = false } → D ≡ Q → d ≡ c → n ≡ count es →
      y ≡ x ++ rows_of_all Q c (setting_of at) (scope_of names.faults.items names.scope) es → z ≡ y ++ ctor_rows D d (constructor_of D k n) span → z ≡ x ++ spec.ctor_call_rows P m st k es span
  call_adds Q c at D d n k es span x y z qe ce ae de ee ne g h =
      two x (rows_of_all P (bodies.class P m) spec.no_this st.scope es) (ctor_rows P (bodies.class P m) (constructor_of P k (count es)) span) y z
      (g ∙ ap (λ r. x ++ r) (
      ap (λ Q. rows_of_all Q c (setting_of at) (scope_of names.faults.items names.scope) es) qe
      ∙ ap (λ c. rows_of_all P c (setting_of at) (scope_of names.faults.items names.scope) es) ce
      ∙ ap (λ at. rows_of_all P (bodies.class P m) (setting_of at) (scope_of names.faults.items names.scope) es) ae
      ∙ look_all P (bodies.class P m) spec.no_this st names s es))
      (h ∙ ap (λ r. y ++ r) (
      ap (λ D. ctor_rows D d (constructor_of D k n) span) (de ∙ qe)
      ∙ ap (λ d. ctor_rows P d (constructor_of P k n) span) (ee ∙ ce)
      ∙ ap (λ n. ctor_rows P (bodies.class P m) (constructor_of P k n) span) ne))

-- an initializer

pub value_adds : (P : Program) (m f : ℕ) (none : Names) (Q : Program) (c : ℕ) (at : settings.Setting) (e : PlacedTree) (x y : List Row) → none.scope ≡ [] → Q ≡ P → c ≡ bodies.class P m → at ≡ record { this_stands = true; own_fields = false } → is_static P f ≡ false →
    y ≡ x ++ rows_of Q c (setting_of at) (scope_of none.faults.items none.scope) e → y ≡ x ++ when (not (is_static P f)) (rows_of P (bodies.class P m) spec.in_initializer [] e)
value_adds P m f none Q c at e x y ne qe ce ae se g =
    g ∙ ap (λ r. x ++ r) (
    ap (λ Q. rows_of Q c (setting_of at) (scope_of none.faults.items none.scope) e) qe
    ∙ ap (λ c. rows_of P c (setting_of at) (scope_of none.faults.items none.scope) e) ce
    ∙ ap (λ at. rows_of P (bodies.class P m) (setting_of at) (scope_of none.faults.items none.scope) e) ae
    ∙ ap (λ vs. rows_of P (bodies.class P m) spec.in_initializer (scope_of none.faults.items vs) e) ne
    ∙ sym (ap (λ b. when (not b) (rows_of P (bodies.class P m) spec.in_initializer [] e)) se))

-- a constructor's call and the initializers keep the names

either_same : (b : Bool) (x y : lowered.Step) (u : Scope) → x.behind.scope ≡ u → y.behind.scope ≡ u → (cond b x y).behind.scope ≡ u
either_same true x y u e f = e
either_same false x y u e f = f

module _ (P : Program) (m first : ℕ) where
  unwritten_same : (st : State) → (bodies.unwritten_call P m first st).behind.scope ≡ st.scope
  unwritten_same st = either_same (bodies.is_under_object (parent_of (class_info P (bodies.class P m)))) (lowered.no_step st) (bodies.ctor_call P m first st false (bodies.parent P m) NoPlacedTrees (bodies.name_span P m)) st.scope refl refl

  construction_same : (st : State) (xs : PlacedStatements) → (bodies.construction P m first st xs).behind.scope ≡ st.scope
  construction_same st NoPlacedStatements = unwritten_same st
  construction_same st (MorePlacedStatements (PlacedThisCall es span) xs) = refl
  construction_same st (MorePlacedStatements (PlacedSuperCallStatement es span) xs) = refl
  construction_same st xs = unwritten_same st

  pub call_same : (b : Bool) (st : State) (xs : PlacedStatements) → (bodies.call_of P m first b st xs).behind.scope ≡ st.scope
  call_same false st xs = refl
  call_same true st xs = construction_same st xs

  writes_same : (o : Option ℕ) (name : Span) (st : State) (e : PlacedTree) → (bodies.writes_field P m first o name st e).behind.scope ≡ st.scope
  writes_same None name st e = refl
  writes_same (Some f) name st e = either_same (is_static P f) (lowered.no_step st) _ st.scope refl refl

  initializes_same : (name : Span) (n : ℕ) (st : State) (o : Option PlacedTree) → (bodies.initializes P m first name n st o).behind.scope ≡ st.scope
  initializes_same name n st None = refl
  initializes_same name n st (Some e) = writes_same (declared_field P (bodies.class P m) n (bodies.class P m)) name st e

  initializers_same : (st : State) (ds : List PlacedDeclarator) → (bodies.initializers_of P m first st ds).behind.scope ≡ st.scope
  initializers_same st [] = refl
  initializers_same st (d ∷ ds) = initializers_same (bodies.initializes P m first d.name.span d.name.name.0 st d.value).behind ds ∙ initializes_same d.name.span d.name.name.0 st d.value

  members_same : (st : State) (ms : List PlacedMember) → (bodies.initializers P m first st ms).behind.scope ≡ st.scope
  members_same st [] = refl
  members_same st (x ∷ xs) = members_same (bodies.initializers_of P m first st (bodies.declarators_of x)).behind xs ∙ initializers_same st (bodies.declarators_of x)

  pub fields_same : (b : Bool) (st : State) (xs : PlacedStatements) (ms : List PlacedMember) → (bodies.fields_of P m first b st xs ms).behind.scope ≡ st.scope
  fields_same false st xs ms = refl
  fields_same true st xs ms = either_same (bodies.calls_own xs) (lowered.no_step st) (bodies.initializers P m first st ms) st.scope refl (members_same st ms)

-- the whole body
module _ (P : Program) (m : ℕ) (ps : List PlacedParameter) (xs : PlacedStatements) (ms : List PlacedMember) (old new : Names) where
  abbrev source : bodies.Source
  source = record { method = m; parameters = ps; body = xs; members = ms }

  abbrev at_first : State
  at_first = bodies.at_entry P m ps

  abbrev is_ctor : Bool
  is_ctor = ctor_of (method_at P m)

  abbrev behind_fields : State
  behind_fields = (bodies.fields_of P m (bodies.local_count P m xs) is_ctor (bodies.call_of P m (bodies.local_count P m xs) is_ctor at_first xs).behind xs ms).behind

  stands_behind : Stands at_first old → Stands behind_fields old
  stands_behind s = ap plain (
      fields_same P m (bodies.local_count P m xs) is_ctor (bodies.call_of P m (bodies.local_count P m xs) is_ctor at_first xs).behind xs ms
      ∙ call_same P m (bodies.local_count P m xs) is_ctor at_first xs) ∙ s

  pub whole_adds : (Q : Program) (c : ℕ) (at : Setting) (x y z : List Row) → Q ≡ P → c ≡ bodies.class P m → at ≡ spec.in_body P m → Stands at_first old →
      y ≡ x ++ when is_ctor (spec.construction_rows P m at_first xs ++ when (not (bodies.calls_own xs)) (spec.member_rows P m ms)) →
      Walks (λ f st. all_rows Q c f at st xs) (λ f st. (lowered.statements Q c f st xs).behind) old new y z → z ≡ x ++ spec.rows_of_source P source
  whole_adds Q c at x y z qe ce ae s g w =
      two x (when is_ctor (spec.construction_rows P m at_first xs ++ when (not (bodies.calls_own xs)) (spec.member_rows P m ms))) (all_rows P (bodies.class P m) (bodies.local_count P m xs) (spec.in_body P m) behind_fields xs) y z g
      (w.adds (bodies.local_count P m xs) behind_fields (stands_behind s) ∙ ap (λ r. y ++ r) (
      ap (λ Q. all_rows Q c (bodies.local_count P m xs) at behind_fields xs) qe
      ∙ ap (λ c. all_rows P c (bodies.local_count P m xs) at behind_fields xs) ce
      ∙ ap (λ at. all_rows P (bodies.class P m) (bodies.local_count P m xs) at behind_fields xs) ae))
