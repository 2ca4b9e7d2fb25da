-- Where the points of an expression have no rows of types, each of its operands has a value; its own value is void only where it is the call of a void method.
use Rattle.std.proofs.Common.{◌≡◌, ◌+◌, ◌<◌, ◌⊎◌, inl, inr, ℕ, zero, suc, Bool, true, false, cond, not, ◌&&◌, ◌||◌, List, [], ◌∷◌, ◌++◌, length, Option, Some, None, refl, sym, ap, ◌∙◌, eqb}
use Rattle.std.specs.Prelude.{pos}
use Rattle.std.proofs.lemmas.Bool.{eqb-true}
use Rattle.jn_base.specs.declared.place.Row.{Row}
use Rattle.jn_base.specs.declared.place.Span.{Span}
use Rattle.jn_base.specs.declared.code.Code.TheVariants.{J1, J2, J5}
use Rattle.jn_base.specs.declared.number.PointNo.{PointNo}
use Rattle.jn_trees.specs.declared.expression.Literal.{Literal}
use Rattle.jn_trees.specs.declared.expression.Step.{Step}
use Rattle.jn_trees.specs.declared.expression.UnaryOperator.{UnaryOperator}
use Rattle.jn_trees.specs.declared.expression.UnaryOperator.TheVariants.{Plus, Minus, Not}
use Rattle.jn_trees.specs.declared.expression.BinaryOperator.{BinaryOperator}
use Rattle.jn_trees.specs.declared.expression.BinaryOperator.TheVariants.{And, Or}
use Rattle.jn_trees.specs.declared.expression.AssignOperator.{AssignOperator}
use Rattle.jn_points.specs.declared.point.BaseType.{BaseType}
use Rattle.jn_points.specs.declared.point.BaseType.TheVariants.{Int, Bool as BoolBase, Void, Null, Ref, Array}
use Rattle.jn_points.specs.declared.point.Operand.{Operand}
use Rattle.jn_points.specs.declared.point.Operator.{Operator}
use Rattle.jn_points.specs.declared.point.Origin.{Origin}
use Rattle.jn_points.specs.declared.point.PointKind.{PointKind}
use Rattle.jn_points.specs.declared.point.PointKind.TheVariants.{ArrayOf, Binary, Cast, Const, Move, New, NewArray, StrOp, TestInst, Unary}
use Rattle.jn_points.specs.declared.point.Literal.TheVariants.{Int as IntOf}
use Rattle.jn_points.specs.declared.point.StrOperation.TheVariants.{Length, IsEmpty, Equals}
use Rattle.jn_points.specs.declared.program.Program.{Program}
use Rattle.jn_points.specs.BaseRows.{Reference, Printable, Within, is_void, operand_rows, optional_rows, string_base, type_rows}
use Rattle.jn_points.specs.Lookup.{is_array, class_info, class_of, parent_of, elem_base, method_at, params_of, private_of, reg_base, result_base_of, static_of}
use Rattle.jn_points.specs.Members.{constructor_of, fits, method_of}
use Rattle.jn_points.specs.Regular.{operation_base}
use Rattle.jn_places.specs.Placed.{PlacedTree, PlacedTrees, NoPlacedTrees, MorePlacedTrees, PlacedLiteral, PlacedName, PlacedThis, PlacedParen, PlacedField, PlacedCall, PlacedOwnCall, PlacedSuperCall, PlacedIndex, PlacedNew, PlacedNewArray, PlacedArrayOf, PlacedPostfix, PlacedPrefix, PlacedUnary, PlacedCast, PlacedBinary, PlacedInstanceOf, PlacedConditional, PlacedAssign}
use Rattle.jn_known.specs.Known.{equals_name, println_name, is_empty_name, is_object_member, length_name}
use Rattle.jn_lowering.specs.Fragments.{Fragment, First, Part, Second, asks, does, goes, nothing, plain, then, to}
use Rattle.jn_lowering.specs.Temporaries.{Temporaries, Taken, take_one}
use Rattle.jn_lowering.specs.Scopes.{Scope, parent_class, Meaning, LocalMeant, FieldMeant, ClassMeant, SystemMeant, NothingMeant, Access, ClassField, ObjectField, ArrayLength, NoField, Callee, Println, OfText, ClassMethod, ObjectMethod, NoMethod, access, before_dot, is_output, callee, callee_by, callee_of, class_callee, class_named, count, meaning, object_callee, or_zero, super_method, text_callee}
use Rattle.jn_lowering.specs.Bases.{array_type, compound_of, is_equality, is_simple, operator_of, ref, type_of, wider}
use Rattle.jn_lowering.specs.Forms.{Condition, ElementSpot, FieldSpot, LengthSpot, LocalSpot, Located, Lowered, NoSpot, Spot, StaticSpot, Value, as_condition, as_place, as_value, combined, gives, kept, none_later, null_test, read_of, register, step_operator, write}
use Rattle.jn_lowering.specs.Calls.{Operands, access_place, and_also, called, class_no, compound, created, dotted_call, first_of_operands, instance_tested, is_static, method_no, name_spot, negated, null_tested, old_value, one, or_else, own_call, own_field, own_receiver, println_of, simply_assigned, stepped, super_call, this_operand}
use Rattle.jn_lowering.specs.Expressions.{assigns, assigns_any, assignment, binary, calculated, element, is_null, lower, on_null, operands, origin_of, span_of, unary}
use Rattle.jn_lowering.specs.Annotations.{known_class, row, unless, when}
use Rattle.jn_lowering.specs.ExpressionRows.{Setting, inner_span, is_this, access_rows, array_rows, assigned_access_rows, assigned_name_rows, assigned_rows, equality_rows, index_rows, new_rows, own_method_rows, rows_of, rows_of_all, super_method_rows}
use Rattle.jn_lowering.proofs.Found.{IsMethod, ctor_found, method_found}
use Rattle.jn_lowering.proofs.NoRows.{AccessGood, CalleeGood, access_good, append_none, dotted_good, new_good, other_side}
use Rattle.jn_lowering.proofs.Ranges.{Heads, ScopeIn, array_in, elem_in, choice_in, operation_in, ref_in, type_in}
use Rattle.jn_lowering.proofs.Taking.{InClasses, both_true, take_grows}
use Rattle.jn_lowering.proofs.Growing.{SpotIn, access_spot, name_spot_in}
use Rattle.jn_lowering.proofs.GrowingAll.{all_grow, operands_grow}
use Rattle.jn_meaning.proofs.Valuing.{AccessValued, AllValued, CalleeValued, Effectual, Results, Valued, Voiding}
use Rattle.jn_meaning.proofs.Clearing.{AllHaveValue, Clean, Final, HasValue, all_read, arguments_read, asks_clear, final_before, parts_clean, read_value, swapped_clean, then_clean}
use Rattle.jn_meaning.proofs.Reaching.{IsPlace, SpotHas, branch_clean, called_clean, combined_clean, gives_clean, kept_clean, read_clean, truth_clean, void_clean, write_clean}

-- println has one argument, an operation of a String none or one
abbrev CalleeFew : Callee → ℕ → Type 0
CalleeFew Println arity = arity ≡ 1
CalleeFew (OfText op) arity = (arity ≡ 0) ⊎ (arity ≡ 1)
CalleeFew (ClassMethod m) arity = Unit {0}
CalleeFew (ObjectMethod m) arity = Unit {0}
CalleeFew NoMethod arity = Unit {0}

module _ (P : Program) where
  text_few : (n arity : ℕ) → CalleeFew (text_callee n arity) arity
  text_few n zero = by (eqb n length_name) (eqb n is_empty_name)
    where
      by : (x y : Bool) → CalleeFew (cond x (OfText Length) (cond y (OfText IsEmpty) NoMethod)) zero
      by true y = inl refl
      by false true = inl refl
      by false false = tt
  text_few n (suc zero) = by (eqb n equals_name)
    where
      by : (x : Bool) → CalleeFew (cond x (OfText Equals) NoMethod) 1
      by true = inr refl
      by false = tt
  text_few n (suc (suc more)) = tt

  object_few : (o : Option ℕ) (arity : ℕ) → CalleeFew (object_callee o) arity
  object_few None arity = tt
  object_few (Some m) arity = tt

  class_few : (o : Option ℕ) (arity : ℕ) → CalleeFew (class_callee o) arity
  class_few None arity = tt
  class_few (Some m) arity = tt

  value_few : (base : BaseType) (n arity : ℕ) → CalleeFew (callee_of P base n arity) arity
  value_few (Ref k) n arity = by (eqb k.0 1)
    where
      by : (x : Bool) → CalleeFew (cond x (text_callee n arity) (object_callee (method_of P k.0 n arity))) arity
      by true = text_few n arity
      by false = object_few (method_of P k.0 n arity) arity
  value_few Int n arity = tt
  value_few BoolBase n arity = tt
  value_few Void n arity = tt
  value_few Null n arity = tt
  value_few (Array e x) n arity = tt

  by_few : (m : Meaning) (base : BaseType) (n arity : ℕ) → CalleeFew (callee_by P m base n arity) arity
  by_few (ClassMeant k) base n arity = class_few (method_of P k n arity) arity
  by_few SystemMeant base n arity = tt
  by_few (LocalMeant l) base n arity = value_few base n arity
  by_few (FieldMeant f) base n arity = value_few base n arity
  by_few NothingMeant base n arity = value_few base n arity

  output_few : (x y : Bool) (k : Callee) (arity : ℕ) → CalleeFew k arity → CalleeFew (cond (x && y && eqb arity 1) Println k) arity
  output_few x y k arity h = by (x && y && eqb arity 1) refl
    where
      by : (z : Bool) → (x && y && eqb arity 1) ≡ z → CalleeFew (cond z Println k) arity
      by true e = eqb-true arity 1 (both_true (x && y) (eqb arity 1) e).1
      by false e = h

  module _ (H : Heads P) (b first : ℕ) (c : ℕ) (there : c < length P.classes) (at : Setting) (s : Scope) (in' : ScopeIn P s) where
    abbrev low : Temporaries → PlacedTree → Lowered
    low t e = lower P c first s t e

    abbrev ty : PlacedTree → BaseType
    ty e = type_of P c s e

    ty_in : (e : PlacedTree) → InClasses P (ty e)
    ty_in e = type_in P H c there s in' e

    abbrev Fin : Temporaries → Type 0
    Fin t = Final P b first t

    abbrev Cl : Fragment → Type 0
    Cl f = Clean P b f

    abbrev Has : Operand → Type 0
    Has o = HasValue P b o

    abbrev VoidCall : PlacedTree → Type 0
    VoidCall e = Voiding P c s e

    abbrev IsVoid : Operand → Type 0
    IsVoid o = reg_base P b o.reg.0 ≡ Void

    -- what points without rows tell of a form in its two uses
    pub record Told (V W : Type 0) (l : Lowered) : Type 0 where
      pub value : Fin l.value.behind → Cl l.value.fragment → V ⊎ (W × IsVoid l.value.operand)
      pub condition : Fin l.condition.behind → Cl l.condition.fragment → V

    settled : (V W : Type 0) (o : Operand) → V ⊎ (W × IsVoid o) → Has o → V
    settled V W o (inl v) h = v
    settled V W o (inr w) h = let e : reg_base P b o.reg.0 ≡ Void = w.1 in absurd (clash (sym h ∙ ap is_void e))
      where
        clash : false ≡ true → ⊥
        clash e = cc

    value_told : (V W : Type 0) (t : Temporaries) (v : Value) → (Fin v.behind → Cl v.fragment → V ⊎ (W × IsVoid v.operand)) → Told V W (as_value t v)
    value_told V W t v k = record {
      value = k;
      condition = λ fin h. (let p = branch_clean P H b first v h in settled V W v.operand (k fin p.0) p.1);
    }

    condition_told : (V W : Type 0) (t : Temporaries) (span : Span) (q : Condition) → (Fin q.behind → Cl q.fragment → V) → Told V W (as_condition P first t span q)
    condition_told V W t span q k = record {
      value = λ fin h. (let p = truth_clean P H b first span q fin h in inl (k p.0 p.1));
      condition = k;
    }

    place_told : (V W : Type 0) (span : Span) (p : (ℕ → Bool) → Located) → SpotIn P (p none_later).spot → (Fin (p none_later).behind → Cl (p none_later).fragment → SpotHas P H b first (p none_later).spot → V) → Told V W (as_place P first span p)
    place_told V W span p i k = record {
      value = λ fin h. (let r = read_clean P H b first (p none_later).spot (p none_later).behind (p none_later).fragment span i fin h in inl (k r.0 r.1 r.2));
      condition = λ fin h. (let q = branch_clean P H b first (read_of P first (p none_later) span) h in
          let r = read_clean P H b first (p none_later).spot (p none_later).behind (p none_later).fragment span i fin q.0 in k r.0 r.1 r.2);
    }

    abbrev T : PlacedTree → Temporaries → Type 0
    T e t = Told (Valued P c s e) (VoidCall e) (low t e)

    has : (e : PlacedTree) (t : Temporaries) → T e t → Fin (low t e).value.behind → Cl (low t e).value.fragment → Has (low t e).value.operand → Valued P c s e
    has e t k fin h o = settled (Valued P c s e) (VoidCall e) (low t e).value.operand (k.value fin h) o

    kept_has : (e : PlacedTree) (t : Temporaries) (later : ℕ → Bool) → T e t → Fin (kept P first later (ty e) (low t e).value).behind → Cl (kept P first later (ty e) (low t e).value).fragment → Has (kept P first later (ty e) (low t e).value).operand → Valued P c s e
    kept_has e t later k fin h o = let p = kept_clean P H b first later (ty e) (low t e).value (ty_in e) fin h o in has e t k p.0 p.1 p.2

    -- a field after a dot
    accessed : (e : PlacedTree) (t : Temporaries) (later : ℕ → Bool) (rows : List Row) → (rows ≡ [] → T e t) → (a : Access) → AccessGood P c rows a → Fin (access_place P first a t (kept P first later (ty e) (low t e).value)).behind → Cl (access_place P first a t (kept P first later (ty e) (low t e).value)).fragment → SpotHas P H b first (access_place P first a t (kept P first later (ty e) (low t e).value)).spot → AccessValued P a (Valued P c s e)
    accessed e t later rows k (ClassField f) g fin h o = tt
    accessed e t later rows k (ObjectField f) g fin h o = kept_has e t later (k g.0) fin h o
    accessed e t later rows k ArrayLength g fin h o = kept_has e t later (k g) fin h o
    accessed e t later rows k NoField g fin h o = absurd g

    abbrev index_value : PlacedTree → PlacedTree → Temporaries → (ℕ → Bool) → Value
    index_value a i t later = kept P first (λ r. assigns P c s r i || later r) (ty a) (low t a).value

    -- an element
    indexed : (a i : PlacedTree) (t : Temporaries) (later : ℕ → Bool) → T a t → T i (index_value a i t later).behind → Fin (kept P first later (ty i) (low (index_value a i t later).behind i).value).behind → Cl (then (index_value a i t later).fragment (kept P first later (ty i) (low (index_value a i t later).behind i).value).fragment) → Has (index_value a i t later).operand × Has (kept P first later (ty i) (low (index_value a i t later).behind i).value).operand → Valued P c s a × Valued P c s i
    indexed a i t later k l fin h o =
        let v : Value = index_value a i t later in
        let p = then_clean P b v.fragment (kept P first later (ty i) (low v.behind i).value).fragment h in
        let q = kept_clean P H b first later (ty i) (low v.behind i).value (ty_in i) fin p.1 o.1 in
        (kept_has a t (λ r. assigns P c s r i || later r) k (final_before P b first v.behind (low v.behind i).value.behind (all_grow P H c there first s in' v.behind i).value q.0) p.0 o.0, has i v.behind l q.0 q.1 q.2)

    -- operands

    abbrev ops : Temporaries → PlacedTrees → Operands
    ops t es = operands P c first s t es

    abbrev O : PlacedTrees → Temporaries → Type 0
    O es t = Fin (ops t es).behind → Cl (ops t es).fragment → AllHaveValue P b (ops t es).values → AllValued P c s es

    as_many : (t : Temporaries) (es : PlacedTrees) → length (ops t es).values ≡ count es
    as_many t NoPlacedTrees = refl
    as_many t (MorePlacedTrees e es) = ap suc (as_many (kept P first (λ r. assigns_any P c s r es) (ty e) (low t e).value).behind es)

    one_more : (e : PlacedTree) (es : PlacedTrees) (t : Temporaries) → T e t → O es (kept P first (λ r. assigns_any P c s r es) (ty e) (low t e).value).behind → O (MorePlacedTrees e es) t
    one_more e es t k l fin h o =
        let v : Value = kept P first (λ r. assigns_any P c s r es) (ty e) (low t e).value in
        let p = then_clean P b v.fragment (ops v.behind es).fragment h in
        (kept_has e t (λ r. assigns_any P c s r es) k (final_before P b first v.behind (ops v.behind es).behind (operands_grow P H c there first s in' v.behind es) fin) p.0 o.0, l fin p.1 o.1)

    printed : (span : Span) (vs : List Operand) → length vs ≡ 1 → Cl (println_of P first span vs) → AllHaveValue P b vs
    printed span [] l h = cc
    printed span (v ∷ []) l h = (read_value P b Printable v h.clear.0, tt)
    printed span (v ∷ w ∷ vs) l h = cc

    text_args : (vs : List Operand) → (length vs ≡ 0) ⊎ (length vs ≡ 1) → optional_rows P b Reference (first_of_operands vs) ≡ [] → AllHaveValue P b vs
    text_args [] l h = tt
    text_args (v ∷ []) l h = (read_value P b Reference v h, tt)
    text_args (v ∷ w ∷ vs) (inl e) h = cc
    text_args (v ∷ w ∷ vs) (inr e) h = cc

    params_are : (m arity : ℕ) (ctor : Bool) → IsMethod P m arity ctor → length (params_of (method_at P m)) ≡ arity
    params_are m arity ctor r = ap (λ o. length (params_of o)) r.1 ∙ r.3

    -- a call with a dot
    dotted : (e : PlacedTree) (es : PlacedTrees) (t : Temporaries) (span : Span) (rows args : List Row) → (rows ≡ [] → T e t) → (args ≡ [] → (u : Temporaries) → O es u) → (k : Callee) → CalleeFew k (count es) → CalleeGood P c rows args (count es) k
        → (let v : Value = kept P first (λ r. assigns_any P c s r es) (ty e) (low t e).value in let d : Value = dotted_call P first k span t v (ops v.behind es) (ops t es) in Fin d.behind → Cl d.fragment → CalleeValued P false k (Valued P c s e) (AllValued P c s es) ⊎ (CalleeValued P true k (Valued P c s e) (AllValued P c s es) × IsVoid d.operand))
    dotted e es t span rows args on given Println few g fin h =
        let p = void_clean P H b first (ops t es).behind (then (ops t es).fragment (println_of P first span (ops t es).values)) span fin in
        let q = then_clean P b (ops t es).fragment (println_of P first span (ops t es).values) h in
        inr ((refl, given g t p.0 q.0 (printed span (ops t es).values (as_many t es ∙ few) q.1)), p.1)
    dotted e es t span rows args on given (OfText op) few g fin h =
        let later : ℕ → Bool = λ r. assigns_any P c s r es in
        let v : Value = kept P first later (ty e) (low t e).value in
        let p = gives_clean P H b first (ops v.behind es).behind (then v.fragment (ops v.behind es).fragment) (operation_base op) span (λ dst. StrOp dst op v.operand (first_of_operands (ops v.behind es).values)) (operation_in P op) fin h in
        let q = then_clean P b v.fragment (ops v.behind es).fragment p.1 in
        let r = append_none (operand_rows P b (Within string_base) v.operand) (optional_rows P b Reference (first_of_operands (ops v.behind es).values)) p.2 in
        inl (
          refl,
          kept_has e t later (on g.0) (final_before P b first v.behind (ops v.behind es).behind (operands_grow P H c there first s in' v.behind es) p.0) q.0 (read_value P b (Within string_base) v.operand r.0),
          given g.1 v.behind p.0 q.1 (text_args (ops v.behind es).values (few_of v.behind few) r.1),
        )
      where
        few_of : (u : Temporaries) → (count es ≡ 0) ⊎ (count es ≡ 1) → (length (ops u es).values ≡ 0) ⊎ (length (ops u es).values ≡ 1)
        few_of u (inl x) = inl (as_many u es ∙ x)
        few_of u (inr x) = inr (as_many u es ∙ x)
    dotted e es t span rows args on given (ClassMethod m) few g fin h =
        let p = called_clean P H b first (ops t es).behind (ops t es).fragment span m None false (ops t es).values fin h in
        let a = given g.0 t p.final p.clean (p.given (as_many t es ∙ sym (params_are m (count es) false g.1.0))) in
        results m p.result a
      where
        results : (m : ℕ) → (is_void (result_base_of (method_at P m)) ≡ false) ⊎ ((is_void (result_base_of (method_at P m)) ≡ true) × IsVoid (called P first (ops t es).behind (ops t es).fragment span m None false (ops t es).values).operand) → AllValued P c s es → CalleeValued P false (ClassMethod m) (Valued P c s e) (AllValued P c s es) ⊎ (CalleeValued P true (ClassMethod m) (Valued P c s e) (AllValued P c s es) × IsVoid (called P first (ops t es).behind (ops t es).fragment span m None false (ops t es).values).operand)
        results m (inl x) a = inl (x, a)
        results m (inr x) a = inr ((x.0, a), x.1)
    dotted e es t span rows args on given (ObjectMethod m) few g fin h =
        let later : ℕ → Bool = λ r. assigns_any P c s r es in
        let v : Value = kept P first later (ty e) (low t e).value in
        let vs : Operands = ops v.behind es in
        let p = called_clean P H b first vs.behind (then v.fragment vs.fragment) span m (Some v.operand) (private_of (method_at P m)) vs.values fin h in
        let q = then_clean P b v.fragment vs.fragment p.clean in
        let a = given g.1.0 v.behind p.final q.1 (p.given (as_many v.behind es ∙ sym (params_are m (count es) false g.1.1.0))) in
        let x = kept_has e t later (on g.0) (final_before P b first v.behind vs.behind (operands_grow P H c there first s in' v.behind es) p.final) q.0 (read_value P b (Within (Ref (record { 0 = class_of (method_at P m) }))) v.operand p.received) in
        results m (called P first vs.behind (then v.fragment vs.fragment) span m (Some v.operand) (private_of (method_at P m)) vs.values).operand p.result x a
      where
        results : (m : ℕ) (o : Operand) → (is_void (result_base_of (method_at P m)) ≡ false) ⊎ ((is_void (result_base_of (method_at P m)) ≡ true) × IsVoid o) → Valued P c s e → AllValued P c s es → CalleeValued P false (ObjectMethod m) (Valued P c s e) (AllValued P c s es) ⊎ (CalleeValued P true (ObjectMethod m) (Valued P c s e) (AllValued P c s es) × IsVoid o)
        results m o (inl y) x a = inl (y, x, a)
        results m o (inr y) x a = inr ((y.0, x, a), y.1)
    dotted e es t span rows args on given NoMethod few g fin h = absurd g

    -- `null`, in parentheses or not
    null_valued : (e : PlacedTree) → is_null e ≡ true → Valued P c s e
    null_valued (PlacedLiteral l span) h = tt
    null_valued (PlacedParen e span) h = null_valued e h
    null_valued e h = cc

    null_read : (o : Bool) (v : Operand) (origin : Option Origin) (x y : PointNo) → type_rows P b (null_test o v origin x y) ≡ [] → Has v
    null_read true v origin x y h = read_value P b Reference v h
    null_read false v origin x y h = read_value P b Reference v h

    null_told : (o : Bool) (origin : Option Origin) (span : Span) (v : Value) → Cl (null_tested o origin span v).fragment → Cl v.fragment × Has v.operand
    null_told o origin span v h =
        let p = then_clean P b v.fragment (asks span (null_test o v.operand origin)) h in
        let q = asks_clear P b span (null_test o v.operand origin) p.1 in
        (p.0, null_read o v.operand origin q.0 q.1 q.2)

    abbrev both : PlacedTree → PlacedTree → Type 0
    both l r = Valued P c s l × Valued P c s r

    -- a binary form
    module _ (l r : PlacedTree) (t : Temporaries) (span : Span) (k : (u : Temporaries) → T l u) (m : (u : Temporaries) → T r u) where
      abbrev later : ℕ → Bool
      later = λ i. assigns P c s i r

      abbrev left : Value
      left = kept P first later (ty l) (low t l).value

      abbrev result : BinaryOperator → Lowered
      result o = binary P c first span o (is_null l) (is_null r) (origin_of P c s l) (origin_of P c s r) (ty l) (ty r) later (low t l) (λ u. low u r) t

      and_also_told : Told (both l r) ⊥ (as_condition P first t span (and_also (low t l).condition (low (low t l).condition.behind r).condition))
      and_also_told = condition_told (both l r) ⊥ t span (and_also (low t l).condition (low (low t l).condition.behind r).condition) (λ fin h.
          (let u : Temporaries = (low t l).condition.behind in
          let p = parts_clean P b (to (low t l).condition.fragment (Part 1) Second ∷ to (low u r).condition.fragment First Second ∷ []) h in
          ((k t).condition (final_before P b first u (low u r).condition.behind (all_grow P H c there first s in' u r).condition fin) p.0, (m u).condition fin p.1.0)))

      or_else_told : Told (both l r) ⊥ (as_condition P first t span (or_else (low t l).condition (low (low t l).condition.behind r).condition))
      or_else_told = condition_told (both l r) ⊥ t span (or_else (low t l).condition (low (low t l).condition.behind r).condition) (λ fin h.
          (let u : Temporaries = (low t l).condition.behind in
          let p = parts_clean P b (to (low t l).condition.fragment First (Part 1) ∷ to (low u r).condition.fragment First Second ∷ []) h in
          ((k t).condition (final_before P b first u (low u r).condition.behind (all_grow P H c there first s in' u r).condition fin) p.0, (m u).condition fin p.1.0)))

      plain_told : (o : BinaryOperator) → Told (both l r) ⊥ (cond (is_equality o && is_null r) (as_condition P first t span (null_tested (on_null P c first o) (origin_of P c s l) span (low t l).value))
          (cond (is_equality o && is_null l) (as_condition P first t span (null_tested (on_null P c first o) (origin_of P c s r) span (low t r).value))
          (as_value t (calculated P c first span o (ty l) (ty r) left (low left.behind r).value))))
      plain_told o = by (is_equality o && is_null r) (is_equality o && is_null l) refl refl
        where
          calculation : Value
          calculation = calculated P c first span o (ty l) (ty r) left (low left.behind r).value

          by : (x y : Bool) → (is_equality o && is_null r) ≡ x → (is_equality o && is_null l) ≡ y → Told (both l r) ⊥ (cond x (as_condition P first t span (null_tested (on_null P c first o) (origin_of P c s l) span (low t l).value)) (cond y (as_condition P first t span (null_tested (on_null P c first o) (origin_of P c s r) span (low t r).value)) (as_value t calculation)))
          by true y e f = condition_told (both l r) ⊥ t span (null_tested (on_null P c first o) (origin_of P c s l) span (low t l).value) (λ fin h.
              (let p = null_told (on_null P c first o) (origin_of P c s l) span (low t l).value h in
              (has l t (k t) fin p.0 p.1, null_valued r (both_true (is_equality o) (is_null r) e).1)))
          by false true e f = condition_told (both l r) ⊥ t span (null_tested (on_null P c first o) (origin_of P c s r) span (low t r).value) (λ fin h.
              (let p = null_told (on_null P c first o) (origin_of P c s r) span (low t r).value h in
              (null_valued l (both_true (is_equality o) (is_null l) f).1, has r t (m t) fin p.0 p.1)))
          by false false e f = value_told (both l r) ⊥ t calculation (λ fin h.
              (let w : Value = (low left.behind r).value in
              let p = combined_clean P H b first w.behind (then left.fragment w.fragment) span (operator_of o) (ty l) (ty r) left.operand w.operand fin h in
              let q = then_clean P b left.fragment w.fragment p.1 in
              inl (kept_has l t later (k t) (final_before P b first left.behind w.behind (all_grow P H c there first s in' left.behind r).value p.0) q.0 p.2, has r left.behind (m left.behind) p.0 q.1 p.3)))

      binary_told : (o : BinaryOperator) → Told (both l r) ⊥ (result o)
      binary_told And = and_also_told
      binary_told Or = or_else_told
      binary_told o = plain_told o

    -- steps

    old_clean : (spot : Spot) (base : BaseType) (span : Span) (v : Value) → InClasses P base → Fin (old_value P first spot base span v).behind → Cl (old_value P first spot base span v).fragment → Fin v.behind × Cl v.fragment
    old_clean (LocalSpot l) base span v i fin h = let p = gives_clean P H b first v.behind v.fragment base span (λ dst. Move dst v.operand None) i fin h in (p.0, p.1)
    old_clean (StaticSpot f) base span v i fin h = (fin, h)
    old_clean (FieldSpot object f) base span v i fin h = (fin, h)
    old_clean (ElementSpot array index x) base span v i fin h = (fin, h)
    old_clean (LengthSpot array) base span v i fin h = (fin, h)
    old_clean NoSpot base span v i fin h = (fin, h)

    stepped_clean : (t : Temporaries) (f : Fragment) (span : Span) (o : Operator) (spot : Spot) (old : Operand) → Fin (stepped P first span o spot old (one P first t f span)).behind → Cl (stepped P first span o spot old (one P first t f span)).fragment → Fin t × Cl f
    stepped_clean t f span o spot old fin h =
        let v : Value = one P first t f span in
        let g : Value = gives P first v.behind v.fragment Int span (λ dst. Binary dst o old v.operand) in
        let p = then_clean P b g.fragment (write P first spot span g.operand) h in
        let q = gives_clean P H b first v.behind v.fragment Int span (λ dst. Binary dst o old v.operand) tt fin p.0 in
        let r = gives_clean P H b first t f Int span (λ dst. Const dst (IntOf (pos 1))) tt q.0 q.1 in
        (r.0, r.1)

    -- what is assigned is a place

    unless_empty : (xs ys : List Row) → xs ≡ [] → unless xs ys ≡ [] → ys ≡ []
    unless_empty [] ys e h = h
    unless_empty (x ∷ xs) ys e h = cc

    own_place : (x : Bool) (f : ℕ) (span : Span) → IsPlace P H b first (own_field P x f span)
    own_place true f span = tt
    own_place false f span = tt

    name_place : (m : Meaning) (span : Span) → assigned_name_rows P c at m span ≡ [] → IsPlace P H b first (name_spot P m span)
    name_place (LocalMeant l) span h = tt
    name_place (FieldMeant f) span h = own_place (is_static P f) f span
    name_place (ClassMeant k) span h = cc
    name_place SystemMeant span h = cc
    name_place NothingMeant span h = cc

    access_is_place : (a : Access) (rows : List Row) (through : Bool) (span : Span) (t : Temporaries) (v : Value) → AccessGood P c rows a → assigned_access_rows P c at a through span ≡ [] → IsPlace P H b first (access_place P first a t v).spot
    access_is_place (ClassField f) rows through span t v g h = tt
    access_is_place (ObjectField f) rows through span t v g h = tt
    access_is_place ArrayLength rows through span t v g h = cc
    access_is_place NoField rows through span t v g h = absurd g

    target_place : (e : PlacedTree) (t : Temporaries) (later : ℕ → Bool) → assigned_rows P c at s e ≡ [] → IsPlace P H b first ((low t e).assigned later).spot
    target_place (PlacedName n) t later h = name_place (meaning P c s n.name.0) n.span h
    target_place (PlacedField e n span) t later h =
        let own : List Row = access_rows P c (before_dot P c s e) (type_of P c s e) (rows_of P c at s e) n.name.0 n.span in
        let own_assigned : List Row = assigned_access_rows P c at (access P c s e (type_of P c s e) n.name.0) (is_this e) span in
        let p = append_none own (unless own own_assigned) h in
        access_is_place (access P c s e (type_of P c s e) n.name.0) (rows_of P c at s e) (is_this e) span t (kept P first later (ty e) (low t e).value)
        (access_good P c (before_dot P c s e) (type_of P c s e) (rows_of P c at s e) n.name.0 n.span p.0) (unless_empty own own_assigned p.0 p.1)
    target_place (PlacedIndex a i span) t later h = tt
    target_place e t later h = cc

    -- an assignment
    module _ (target e : PlacedTree) (t : Temporaries) (span : Span) (rows : assigned_rows P c at s target ≡ [])
        (placed : (later : ℕ → Bool) → Fin ((low t target).assigned later).behind → Cl ((low t target).assigned later).fragment → SpotHas P H b first ((low t target).assigned later).spot → Valued P c s target)
        (k : (u : Temporaries) → T e u) where
      abbrev changes : ℕ → Bool
      changes = λ r. assigns P c s r e

      abbrev spot_of : Located
      spot_of = (low t target).assigned changes

      abbrev old_of : Value
      old_of = kept P first changes (ty target) (read_of P first spot_of (span_of target))

      abbrev made : AssignOperator → Value
      made o = assignment P c first span o (ty target) (ty e) changes (span_of target) spot_of (λ u. low u e)

      assigned_valued : (o : AssignOperator) → Fin (made o).behind → Cl (made o).fragment → both target e
      assigned_valued o fin h = by (is_simple o) fin h
        where
          simply : Value
          simply = simply_assigned P first span spot_of.spot spot_of.fragment (low spot_of.behind e).value

          compounded : Value
          compounded = compound P first span (compound_of o) (ty target) (ty e) spot_of.spot old_of (low old_of.behind e).value

          by : (x : Bool) → Fin (cond x simply compounded).behind → Cl (cond x simply compounded).fragment → both target e
          by true fin h =
              let v : Value = (low spot_of.behind e).value in
              let p = then_clean P b spot_of.fragment (then v.fragment (write P first spot_of.spot span v.operand)) h in
              let q = then_clean P b v.fragment (write P first spot_of.spot span v.operand) p.1 in
              let w = write_clean P H b first spot_of.spot span v.operand (target_place target t changes rows) q.1 in
              (placed changes (final_before P b first spot_of.behind v.behind (all_grow P H c there first s in' spot_of.behind e).value fin) p.0 w.0, has e spot_of.behind (k spot_of.behind) fin q.0 w.1)
          by false fin h =
              let v : Value = (low old_of.behind e).value in
              let g : Value = combined P first v.behind (then old_of.fragment v.fragment) span (compound_of o) (ty target) (ty e) old_of.operand v.operand in
              let p = then_clean P b g.fragment (write P first spot_of.spot span g.operand) h in
              let q = combined_clean P H b first v.behind (then old_of.fragment v.fragment) span (compound_of o) (ty target) (ty e) old_of.operand v.operand fin p.0 in
              let r = then_clean P b old_of.fragment v.fragment q.1 in
              let u = kept_clean P H b first changes (ty target) (read_of P first spot_of (span_of target)) (ty_in target) (final_before P b first old_of.behind v.behind (all_grow P H c there first s in' old_of.behind e).value q.0) r.0 q.2 in
              let x = read_clean P H b first spot_of.spot spot_of.behind spot_of.fragment (span_of target) ((all_grow P H c there first s in' t target).spotted changes) u.0 u.1 in
              (placed changes x.0 x.1 x.2, has e old_of.behind (k old_of.behind) q.0 r.1 q.3)

    -- `?:`
    chosen_valued : (q x y : PlacedTree) (t : Temporaries) (span : Span) → ((u : Temporaries) → T q u) → ((u : Temporaries) → T x u) → ((u : Temporaries) → T y u) → Fin (low t (PlacedConditional q x y span)).value.behind → Cl (low t (PlacedConditional q x y span)).value.fragment → Valued P c s q × (Valued P c s x × Valued P c s y)
    chosen_valued q x y t span k l m fin h =
        let test : Condition = (low t q).condition in
        let base : BaseType = wider P (ty x) (ty y) in
        let dst : Taken = take_one test.behind base in
        let n : ℕ = first + dst.number in
        let v : Value = (low dst.behind x).value in
        let w : Value = (low v.behind y).value in
        let p = parts_clean P b (
        to test.fragment (Part 1) (Part 4)
        ∷ plain v.fragment
        ∷ plain (does v.operand.span (Move (register n) v.operand None))
        ∷ to (goes span) (Part 6) (Part 6)
        ∷ plain w.fragment
        ∷ plain (does w.operand.span (Move (register n) w.operand None))
        ∷ []) h in
        let f : Fin v.behind = final_before P b first v.behind w.behind (all_grow P H c there first s in' v.behind y).value fin in
        let g : Fin dst.behind = final_before P b first dst.behind v.behind (all_grow P H c there first s in' dst.behind x).value f in
        let i : InClasses P base = choice_in P (fits P (ty x) (ty y)) (ty y) (ty x) (ty_in y) (ty_in x) in (
          (k t).condition (final_before P b first test.behind dst.behind (take_grows P test.behind base i) g) p.0,
          (
            has x dst.behind (l dst.behind) f p.1.0 (read_value P b (Within (reg_base P b n)) v.operand p.1.1.0.clear.0),
            has y v.behind (m v.behind) fin p.1.1.1.1.0 (read_value P b (Within (reg_base P b n)) w.operand p.1.1.1.1.1.0.clear.0),
          ),
        )

    -- calls of the class's own methods, of the superclass's, and of constructors

    called_results : (m : ℕ) (o : Operand) (A : Type 0) → (is_void (result_base_of (method_at P m)) ≡ false) ⊎ ((is_void (result_base_of (method_at P m)) ≡ true) × IsVoid o) → A → (Results P false (Some m) × A) ⊎ ((Results P true (Some m) × A) × IsVoid o)
    called_results m o A (inl x) a = inl (x, a)
    called_results m o A (inr x) a = inr ((x.0, a), x.1)

    own_called : (es : PlacedTrees) (t : Temporaries) (n : ℕ) (name span : Span) → O es t → (o : Option ℕ) → method_of P c n (count es) ≡ o → own_method_rows P at o name ≡ [] → Fin (own_call P first o name span (ops t es)).behind → Cl (own_call P first o name span (ops t es)).fragment → (Results P false o × AllValued P c s es) ⊎ ((Results P true o × AllValued P c s es) × IsVoid (own_call P first o name span (ops t es)).operand)
    own_called es t n name span k None e r fin h = cc
    own_called es t n name span k (Some m) e r fin h =
        let vs : Operands = ops t es in
        let receiver : Option Operand = own_receiver P first (static_of (method_at P m)) name in
        let direct : Bool = not (static_of (method_at P m)) && private_of (method_at P m) in
        let p = called_clean P H b first vs.behind vs.fragment span m receiver direct vs.values fin h in
        called_results m (called P first vs.behind vs.fragment span m receiver direct vs.values).operand (AllValued P c s es) p.result
        (k p.final p.clean (p.given (as_many t es ∙ sym (params_are m (count es) false (method_found P c n (count es) m e)))))

    super_called : (es : PlacedTrees) (t : Temporaries) (n : ℕ) (name span : Span) → O es t → (o : Option ℕ) → super_method P c n (count es) ≡ o → super_method_rows P c o name ≡ [] → Fin (super_call P first o name span (ops t es)).behind → Cl (super_call P first o name span (ops t es)).fragment → (Results P false o × AllValued P c s es) ⊎ ((Results P true o × AllValued P c s es) × IsVoid (super_call P first o name span (ops t es)).operand)
    super_called es t n name span k None e r fin h = cc
    super_called es t n name span k (Some m) e r fin h =
        let vs : Operands = ops t es in
        let p = called_clean P H b first vs.behind vs.fragment span m (Some (this_operand name)) true vs.values fin h in
        called_results m (called P first vs.behind vs.fragment span m (Some (this_operand name)) true vs.values).operand (AllValued P c s es) p.result
        (k p.final p.clean (p.given (as_many t es ∙ sym (params_are m (count es) false (method_found P (parent_class P (parent_of (class_info P c))) n (count es) m e)))))

    newly : (es : PlacedTrees) (t : Temporaries) (n : ℕ) (span : Span) → O es t → (o : Option ℕ) (m : ℕ) → constructor_of P (or_zero (class_named P n)) (count es) ≡ Some m → o ≡ Some m → Fin (created P first o (or_zero (class_named P n)) span (ops t es)).behind → Cl (created P first o (or_zero (class_named P n)) span (ops t es)).fragment → AllValued P c s es
    newly es t n span k None m e i fin h = cc
    newly es t n span k (Some x) m e i fin h =
        let vs : Operands = ops t es in
        let same : m ≡ x = cc in
        let r = ctor_found P (or_zero (class_named P n)) (count es) x (e ∙ ap Some same) in
        let p = gives_clean P H b first vs.behind vs.fragment (ref (or_zero (class_named P n))) span (λ dst. New dst (method_no x) vs.values) (ref_in P H n) fin h in
        k p.0 p.1 (arguments_read P b (params_of (method_at P x)) vs.values (as_many t es ∙ sym (ap (λ o. length (params_of o)) r.1 ∙ r.3)) p.2)

    own_row : (n : ℕ) (span : Span) (ys : List Row) → cond (is_object_member n) (row J5 span) ys ≡ [] → ys ≡ []
    own_row n span ys h = (other_side (is_object_member n) (record { span = span; code = J5 }) [] ys h).1

    index_parts : (a i : PlacedTree) → index_rows P c at (ty a) (rows_of P c at s a) (rows_of P c at s i) (inner_span a) ≡ [] → (rows_of P c at s a ≡ []) × (rows_of P c at s i ≡ [])
    index_parts a i h =
        let own : List Row = unless (rows_of P c at s a) (when (not (is_array (ty a))) (row J2 (inner_span a))) in
        let p = append_none (rows_of P c at s a) (rows_of P c at s i ++ own) h in
        (p.0, (append_none (rows_of P c at s i) own p.1).0)

    literal_told : (l : Literal) (span : Span) (t : Temporaries) → Told (Unit {0}) ⊥ (low t (PlacedLiteral l span))
    literal_told l span t = record { value = λ fin h. inl tt; condition = λ fin h. tt }

    super_row : (x : Bool) (span : Span) (ys : List Row) → when (not x) (row J1 span) ≡ [] → when x ys ≡ [] → ys ≡ []
    super_row true span ys h k = k
    super_row false span ys h k = cc

    either : (e : PlacedTree) (n arity : ℕ) → (callee P c s e (ty e) n arity ≡ Println) ⊎ (callee P c s e (ty e) n arity ≡ callee_by P (before_dot P c s e) (ty e) n arity)
    either e n arity = by (is_output P c s e && eqb n println_name && eqb arity 1)
      where
        by : (x : Bool) → (cond x Println (callee_by P (before_dot P c s e) (ty e) n arity) ≡ Println) ⊎ (cond x Println (callee_by P (before_dot P c s e) (ty e) n arity) ≡ callee_by P (before_dot P c s e) (ty e) n arity)
        by true = inl refl
        by false = inr refl

    postfix_valued : (e : PlacedTree) (step : Step) (span : Span) (t : Temporaries) → (Fin ((low t e).assigned none_later).behind → Cl ((low t e).assigned none_later).fragment → SpotHas P H b first ((low t e).assigned none_later).spot → Valued P c s e) → Fin (low t (PlacedPostfix e step span)).value.behind → Cl (low t (PlacedPostfix e step span)).value.fragment → Valued P c s e
    postfix_valued e step span t k fin h =
        let target : Located = (low t e).assigned none_later in
        let old : Value = read_of P first target (span_of e) in
        let v : Value = old_value P first target.spot (ty e) span old in
        let p = stepped_clean v.behind v.fragment span (step_operator step) target.spot old.operand fin h in
        let q = old_clean target.spot (ty e) span old (ty_in e) p.0 p.1 in
        let r = read_clean P H b first target.spot target.behind target.fragment (span_of e) ((all_grow P H c there first s in' t e).spotted none_later) q.0 q.1 in
        k r.0 r.1 r.2

    prefix_valued : (e : PlacedTree) (step : Step) (span : Span) (t : Temporaries) → (Fin ((low t e).assigned none_later).behind → Cl ((low t e).assigned none_later).fragment → SpotHas P H b first ((low t e).assigned none_later).spot → Valued P c s e) → Fin (low t (PlacedPrefix step e span)).value.behind → Cl (low t (PlacedPrefix step e span)).value.fragment → Valued P c s e
    prefix_valued e step span t k fin h =
        let target : Located = (low t e).assigned none_later in
        let old : Value = read_of P first target (span_of e) in
        let p = stepped_clean old.behind old.fragment span (step_operator step) target.spot old.operand fin h in
        let r = read_clean P H b first target.spot target.behind target.fragment (span_of e) ((all_grow P H c there first s in' t e).spotted none_later) p.0 p.1 in
        k r.0 r.1 r.2

    unary_told : (o : UnaryOperator) (e : PlacedTree) (span : Span) (t : Temporaries) → T e t → Told (Valued P c s e) ⊥ (unary P c first t span o (low t e))
    unary_told Not e span t k = condition_told (Valued P c s e) ⊥ t span (negated (low t e).condition) (λ fin h. k.condition fin (swapped_clean P b (low t e).condition.fragment h))
    unary_told Minus e span t k =
        let v : Value = (low t e).value in
        value_told (Valued P c s e) ⊥ t (gives P first v.behind v.fragment Int span (λ dst. Unary dst true v.operand)) (λ fin h.
        (let p = gives_clean P H b first v.behind v.fragment Int span (λ dst. Unary dst true v.operand) tt fin h in inl (has e t k p.0 p.1 (read_value P b (Within Int) v.operand p.2))))
    unary_told Plus e span t k =
        let v : Value = (low t e).value in
        value_told (Valued P c s e) ⊥ t (gives P first v.behind v.fragment Int span (λ dst. Unary dst false v.operand)) (λ fin h.
        (let p = gives_clean P H b first v.behind v.fragment Int span (λ dst. Unary dst false v.operand) tt fin h in inl (has e t k p.0 p.1 (read_value P b (Within Int) v.operand p.2))))

    mutual
      pub told : (e : PlacedTree) (t : Temporaries) → rows_of P c at s e ≡ [] → T e t
      told (PlacedLiteral l span) t h = literal_told l span t
      told (PlacedName n) t h = place_told (Unit {0}) ⊥ n.span (λ later. record { fragment = nothing; spot = name_spot P (meaning P c s n.name.0) n.span; behind = t }) (name_spot_in P first H (meaning P c s n.name.0) n.span) (λ fin h o. tt)
      told (PlacedThis span) t h = value_told (Unit {0}) ⊥ t (record { fragment = nothing; operand = this_operand span; behind = t }) (λ fin h. inl tt)
      told (PlacedParen e span) t h = told e t h
      told (PlacedField e n span) t h =
          let a : Access = access P c s e (ty e) n.name.0 in
          place_told (AccessValued P a (Valued P c s e)) ⊥ span (λ later. access_place P first a t (kept P first later (ty e) (low t e).value)) (access_spot P first H t a (kept P first none_later (ty e) (low t e).value))
          (accessed e t none_later (rows_of P c at s e) (λ z. told e t z) a (access_good P c (before_dot P c s e) (ty e) (rows_of P c at s e) n.name.0 n.span h))
      told (PlacedCall e n es span) t h =
          let later : ℕ → Bool = λ r. assigns_any P c s r es in
          let v : Value = kept P first later (ty e) (low t e).value in
          let k : Callee = callee P c s e (ty e) n.name.0 (count es) in
          value_told (CalleeValued P false k (Valued P c s e) (AllValued P c s es)) (CalleeValued P true k (Valued P c s e) (AllValued P c s es)) t (dotted_call P first k span t v (ops v.behind es) (ops t es))
          (dotted e es t span (rows_of P c at s e) (rows_of_all P c at s es) (λ z. told e t z) (λ z u. all_told es u z) k
          (output_few (is_output P c s e) (eqb n.name.0 println_name) (callee_by P (before_dot P c s e) (ty e) n.name.0 (count es)) (count es) (by_few (before_dot P c s e) (ty e) n.name.0 (count es)))
          (dotted_good P c k (before_dot P c s e) (ty e) (rows_of P c at s e) (rows_of_all P c at s es) n.name.0 (count es) n.span h (either e n.name.0 (count es))))
      told (PlacedOwnCall n es span) t h =
          let o : Option ℕ = method_of P c n.name.0 (count es) in
          let p = append_none (rows_of_all P c at s es) (cond (is_object_member n.name.0) (row J5 n.span) (own_method_rows P at o n.span)) h in
          value_told (Results P false o × AllValued P c s es) (Results P true o × AllValued P c s es) t (own_call P first o n.span span (ops t es))
          (own_called es t n.name.0 n.span span (all_told es t p.0) o refl (own_row n.name.0 n.span (own_method_rows P at o n.span) p.1))
      told (PlacedSuperCall n es span) t h =
          let o : Option ℕ = super_method P c n.name.0 (count es) in
          let own : List Row = super_method_rows P c o n.span in
          let p = append_none (when (not at.this_stands) (row J1 span)) (rows_of_all P c at s es ++ cond (is_object_member n.name.0) (row J5 n.span) (when at.this_stands own)) h in
          let q = append_none (rows_of_all P c at s es) (cond (is_object_member n.name.0) (row J5 n.span) (when at.this_stands own)) p.1 in
          value_told (Results P false o × AllValued P c s es) (Results P true o × AllValued P c s es) t (super_call P first o n.span span (ops t es))
          (super_called es t n.name.0 n.span span (all_told es t q.0) o refl (super_row at.this_stands span own p.0 (own_row n.name.0 n.span (when at.this_stands own) q.1)))
      told (PlacedIndex a i span) t h =
          let p = index_parts a i h in
          place_told (both a i) ⊥ span (λ later. element P c first span (ty a) (index_value a i t later) (kept P first later (ty i) (low (index_value a i t later).behind i).value)) (elem_in P (ty a) (ty_in a))
          (indexed a i t none_later (told a t p.0) (told i (index_value a i t none_later).behind p.1))
      told (PlacedNew n es span) t h =
          let p = append_none (rows_of_all P c at s es) (new_rows P c (class_named P n.name.0) (count es) n.span) h in
          let q = new_good P c n.name.0 (count es) n.span p.1 in
          value_told (AllValued P c s es) ⊥ t (created P first (constructor_of P (or_zero (class_named P n.name.0)) (count es)) (or_zero (class_named P n.name.0)) span (ops t es))
          (λ fin h. inl (newly es t n.name.0 span (all_told es t p.0) (constructor_of P (or_zero (class_named P n.name.0)) (count es)) q.ctor q.found q.found fin h))
      told (PlacedNewArray annotations base size span) t h =
          let v : Value = (low t size).value in
          value_told (Valued P c s size) ⊥ t (gives P first v.behind v.fragment (array_type P base annotations) span (λ dst. NewArray dst (array_type P base annotations) v.operand)) (λ fin k.
          (let p = gives_clean P H b first v.behind v.fragment (array_type P base annotations) span (λ dst. NewArray dst (array_type P base annotations) v.operand) (array_in P H base annotations) fin k in
          inl (has size t (told size t (append_none (array_rows P base annotations) (rows_of P c at s size) h).1) p.0 p.1 (read_value P b (Within Int) v.operand p.2))))
      told (PlacedArrayOf annotations base es span) t h =
          let vs : Operands = ops t es in
          value_told (AllValued P c s es) ⊥ t (gives P first vs.behind vs.fragment (array_type P base annotations) span (λ dst. ArrayOf dst (array_type P base annotations) vs.values)) (λ fin k.
          (let p = gives_clean P H b first vs.behind vs.fragment (array_type P base annotations) span (λ dst. ArrayOf dst (array_type P base annotations) vs.values) (array_in P H base annotations) fin k in
          inl (all_told es t (append_none (array_rows P base annotations) (rows_of_all P c at s es) h).1 p.0 p.1 (all_read P b (Within (elem_base (array_type P base annotations))) vs.values p.2))))
      told (PlacedPostfix e step span) t h = value_told (Valued P c s e) ⊥ t (low t (PlacedPostfix e step span)).value (λ fin k. inl (postfix_valued e step span t (targeted e t none_later h) fin k))
      told (PlacedPrefix step e span) t h = value_told (Valued P c s e) ⊥ t (low t (PlacedPrefix step e span)).value (λ fin k. inl (prefix_valued e step span t (targeted e t none_later h) fin k))
      told (PlacedUnary o e span) t h = unary_told o e span t (told e t h)
      told (PlacedCast n e span) t h =
          let v : Value = (low t e).value in
          let k : ℕ = or_zero (class_named P n.name.0) in
          value_told (Valued P c s e) ⊥ t (gives P first v.behind v.fragment (ref k) span (λ dst. Cast dst v.operand (class_no k))) (λ fin g.
          (let p = gives_clean P H b first v.behind v.fragment (ref k) span (λ dst. Cast dst v.operand (class_no k)) (ref_in P H n.name.0) fin g in
          inl (has e t (told e t (append_none (known_class P (class_named P n.name.0) n.span) (rows_of P c at s e) h).1) p.0 p.1 (read_value P b Reference v.operand p.2))))
      told (PlacedBinary l o r span) t h =
          let own : List Row = unless (rows_of P c at s l ++ rows_of P c at s r) (equality_rows P o (is_null l || is_null r) (ty l) (ty r) span) in
          let p = append_none (rows_of P c at s l) (rows_of P c at s r ++ own) h in
          binary_told l r t span (λ u. told l u p.0) (λ u. told r u (append_none (rows_of P c at s r) own p.1).0) o
      told (PlacedInstanceOf e n span) t h =
          let v : Value = (low t e).value in
          let k : ℕ = or_zero (class_named P n.name.0) in
          let kind : PointNo → PointNo → PointKind = λ x y. TestInst v.operand (class_no k) (origin_of P c s e) x y in
          condition_told (Valued P c s e) ⊥ t span (instance_tested k (origin_of P c s e) span v) (λ fin g.
          (let p = then_clean P b v.fragment (asks span kind) g in
          let q = asks_clear P b span kind p.1 in
          has e t (told e t (append_none (known_class P (class_named P n.name.0) n.span) (rows_of P c at s e) h).1) fin p.0 (read_value P b Reference v.operand q.2)))
      told (PlacedConditional q x y span) t h =
          let p = append_none (rows_of P c at s q) (rows_of P c at s x ++ rows_of P c at s y) h in
          let r = append_none (rows_of P c at s x) (rows_of P c at s y) p.1 in
          value_told (Valued P c s q × (Valued P c s x × Valued P c s y)) ⊥ t (low t (PlacedConditional q x y span)).value (λ fin k. inl (chosen_valued q x y t span (λ u. told q u p.0) (λ u. told x u r.0) (λ u. told y u r.1) fin k))
      told (PlacedAssign target o e span) t h =
          let p = append_none (assigned_rows P c at s target) (rows_of P c at s e) h in
          value_told (both target e) ⊥ t (low t (PlacedAssign target o e span)).value (λ fin k. inl (assigned_valued target e t span p.0 (λ later. targeted target t later p.0) (λ u. told e u p.1) o fin k))

      pub all_told : (es : PlacedTrees) (t : Temporaries) → rows_of_all P c at s es ≡ [] → O es t
      all_told NoPlacedTrees t h = λ fin k o. tt
      all_told (MorePlacedTrees e es) t h =
          let p = append_none (rows_of P c at s e) (rows_of_all P c at s es) h in
          one_more e es t (told e t p.0) (all_told es (kept P first (λ r. assigns_any P c s r es) (ty e) (low t e).value).behind p.1)

      targeted : (e : PlacedTree) (t : Temporaries) (later : ℕ → Bool) → assigned_rows P c at s e ≡ [] → Fin ((low t e).assigned later).behind → Cl ((low t e).assigned later).fragment → SpotHas P H b first ((low t e).assigned later).spot → Valued P c s e
      targeted (PlacedName n) t after h = λ fin k o. tt
      targeted (PlacedField e n span) t after h =
          let own : List Row = access_rows P c (before_dot P c s e) (ty e) (rows_of P c at s e) n.name.0 n.span in
          let p = append_none own (unless own (assigned_access_rows P c at (access P c s e (ty e) n.name.0) (is_this e) span)) h in
          accessed e t after (rows_of P c at s e) (λ z. told e t z) (access P c s e (ty e) n.name.0) (access_good P c (before_dot P c s e) (ty e) (rows_of P c at s e) n.name.0 n.span p.0)
      targeted (PlacedIndex a i span) t after h = let p = index_parts a i h in indexed a i t after (told a t p.0) (told i (index_value a i t after).behind p.1)
      targeted e t after h = cc

    -- an operand, a condition, and what stands for its effect

    pub value_of : (e : PlacedTree) (t : Temporaries) → rows_of P c at s e ≡ [] → Final P b first (low t e).value.behind → Clean P b (low t e).value.fragment → HasValue P b (low t e).value.operand → Valued P c s e
    value_of e t h = has e t (told e t h)

    pub test_of : (e : PlacedTree) (t : Temporaries) → rows_of P c at s e ≡ [] → Final P b first (low t e).condition.behind → Clean P b (low t e).condition.fragment → Valued P c s e
    test_of e t h = (told e t h).condition

    pub effect_of : (e : PlacedTree) (t : Temporaries) → rows_of P c at s e ≡ [] → Final P b first (low t e).value.behind → Clean P b (low t e).value.fragment → Effectual P c s e
    effect_of e t h fin k = by ((told e t h).value fin k)
      where
        by : Valued P c s e ⊎ (VoidCall e × IsVoid (low t e).value.operand) → Effectual P c s e
        by (inl v) = inl v
        by (inr w) = inr w.0

    pub arguments_of : (es : PlacedTrees) (t : Temporaries) → rows_of_all P c at s es ≡ [] → Final P b first (ops t es).behind → Clean P b (ops t es).fragment → AllHaveValue P b (ops t es).values → AllValued P c s es
    arguments_of es t h = all_told es t h

    pub counted : (t : Temporaries) (es : PlacedTrees) → length (ops t es).values ≡ count es
    counted t es = as_many t es
