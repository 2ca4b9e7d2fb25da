-- Every expression without a row is lowered to good points.
use Rattle.std.proofs.Common.{◌≡◌, ◌<◌, ◌≤◌, ℕ, Bool, true, false, cond, not, ◌&&◌, ◌||◌, List, [], ◌++◌, length, Option, Some, None, refl, sym, subst, eqb, ◌⊎◌, inl, inr}
use Rattle.jn_base.specs.declared.code.Code.TheVariants.{J1, J5}
use Rattle.jn_base.specs.declared.place.Row.{Row}
use Rattle.jn_base.specs.declared.place.Span.{Span}
use Rattle.jn_trees.specs.declared.expression.Literal.{Literal}
use Rattle.jn_trees.specs.declared.expression.Literal.TheVariants.{Number, Str as Text, True, False, Null as NullLiteral}
use Rattle.jn_points.specs.declared.point.BaseType.{BaseType}
use Rattle.jn_points.specs.declared.point.BaseType.TheVariants.{Int}
use Rattle.jn_points.specs.declared.point.Origin.{Origin}
use Rattle.jn_points.specs.declared.point.PointKind.TheVariants.{ArrayOf, Cast, Const, New, NewArray}
use Rattle.jn_points.specs.declared.program.Program.{Program}
use Rattle.jn_points.specs.Lookup.{method_at, private_of, result_base_of, static_of}
use Rattle.jn_points.specs.Members.{constructor_of, fits, method_of}
use Rattle.jn_points.specs.Regular.{IsConcrete}
use Rattle.jn_places.specs.Placed.{PlacedTree, PlacedTrees, NoPlacedTrees, MorePlacedTrees, PlacedLiteral, PlacedName, PlacedThis, PlacedParen, PlacedField, PlacedCall, PlacedOwnCall, PlacedSuperCall, PlacedIndex, PlacedNew, PlacedNewArray, PlacedArrayOf, PlacedPostfix, PlacedPrefix, PlacedUnary, PlacedCast, PlacedBinary, PlacedInstanceOf, PlacedConditional, PlacedAssign}
use Rattle.jn_lowering.specs.Fragments.{Fragment, goes, nothing}
use Rattle.jn_known.specs.Known.{is_object_member}
use Rattle.jn_lowering.specs.Temporaries.{Temporaries, Taken, take_one}
use Rattle.jn_lowering.specs.Scopes.{Local, Scope, Callee, Println, access, before_dot, callee, callee_by, class_named, count, is_output, local_in, meaning, or_zero, super_method}
use Rattle.jn_lowering.specs.Bases.{array_type, compound_of, is_local, is_simple, literal_type, operator_of, ref, result_type, type_of, wider}
use Rattle.jn_lowering.specs.Forms.{Condition, Located, Lowered, Value, as_place, constant, gives, kept, none_later, read_of, register}
use Rattle.jn_lowering.specs.Calls.{Operands, access_place, chosen, class_no, created, dotted_call, instance_tested, literal_condition, method_no, name_spot, old_value, one, own_call, own_receiver, postfixed, prefixed, super_call, this_operand}
use Rattle.jn_lowering.specs.Expressions.{assigns, assigns_any, element, is_null, lower, operands, origin_of, span_of}
use Rattle.jn_lowering.specs.Annotations.{known_class, row, unless, when}
use Rattle.jn_lowering.specs.ExpressionRows.{Setting, abstract_method, access_rows, array_rows, assigned_access_rows, assigned_rows, equality_rows, inner_span, new_rows, own_method_rows, rows_of, rows_of_all, super_method_rows, dotted_call_rows}
use Rattle.jn_lowering.proofs.Found.{IsMethod}
use Rattle.jn_lowering.proofs.GoodCalls.{GoodOperands, chosen_good, created_good, dotted_call_good, no_operands_good, old_good, own_called_good, stepped_good, super_called_good, with_operand_good}
use Rattle.jn_lowering.proofs.GoodForms.{GoodValue, Rt, Valued, Within, branch_good, gives_good, going, goto_good, kept_good, literal_good, one_good, read_good, taken_open, value_below, within_back}
use Rattle.jn_lowering.proofs.GoodOperators.{Uses, assignment_good, back_gives, back_kept, back_read, binary_uses, condition_uses, instance_tested_good, unary_uses, value_uses}
use Rattle.jn_lowering.proofs.GoodPlaces.{GoodPlace, accessed_place, assigned_name, element_place, index_none, origin_there, read_name, stands, this_below}
use Rattle.jn_lowering.proofs.GoodPoints.{Held, Open, OriginIn, good_array_of, good_cast, good_new_array}
use Rattle.jn_lowering.proofs.Growing.{GrowsAll, SpotIn, access_spot, called_grows, name_spot_in, one_grows, same, stepped_grows}
use Rattle.jn_lowering.proofs.GrowingAll.{all_grow, assignment_grows, operands_grow}
use Rattle.jn_lowering.proofs.Laying.{next_only}
use Rattle.jn_lowering.proofs.NoRows.{append_none, dotted_good, new_good, other_side, own_good, super_good}
use Rattle.jn_lowering.proofs.Ranges.{Heads, ScopeIn, array_in, choice_in, ref_in, result_in, type_in}
use Rattle.jn_lowering.proofs.Righting.{nothing_right, swapped_right}
use Rattle.jn_lowering.proofs.Taking.{Grows, InClasses, take_grows}
use Rattle.jn_lowering.proofs.Testing.{ReadOf, origin_read, read_of_origin}

module _ (P : Program) (H : Heads P) (R : List BaseType) (first low : ℕ) (up : low ≤ first) (c : ℕ) (there : c < length P.classes) (at : Setting) (s : Scope) (in' : ScopeIn P s)
    (this : at.this_stands ≡ true → Held P R first low 0 (ref c) × (0 < first))
    (locals : (n : ℕ) (l : Local) → local_in s n ≡ Some l → Open P R first low l.reg l.base × (l.reg < first)) where
  abbrev W : Temporaries → Type 0
  W t = Within P R first low t

  abbrev GV : Value → BaseType → Type 0
  GV v b = GoodValue P R first low v b

  abbrev F : Fragment → Type 0
  F f = Rt P R first low f

  abbrev T : PlacedTree → BaseType
  T e = type_of P c s e

  abbrev L : Temporaries → PlacedTree → Lowered
  L t e = lower P c first s t e

  abbrev Os : Temporaries → PlacedTrees → Operands
  Os t es = operands P c first s t es

  abbrev None' : PlacedTree → Type 0
  None' e = rows_of P c at s e ≡ []

  ty : (e : PlacedTree) → InClasses P (T e)
  ty e = type_in P H c there s in' e

  grow : (t : Temporaries) (e : PlacedTree) → GrowsAll P t (L t e)
  grow t e = all_grow P H c there first s in' t e

  grow_all : (t : Temporaries) (es : PlacedTrees) → Grows P t (Os t es).behind
  grow_all t es = operands_grow P H c there first s in' t es

  pub record AllGood (t : Temporaries) (e : PlacedTree) : Type 0 where
    pub uses : None' e → Uses P H R first low up (L t e) (T e)
    pub assigned : (later : ℕ → Bool) → assigned_rows P c at s e ≡ [] → W ((L t e).assigned later).behind → GoodPlace P R first low up c at s this locals e ((L t e).assigned later)

  origin_in : (e : PlacedTree) → None' e → (t : Temporaries) → OriginIn P R first low (origin_of P c s e)
  origin_in e k t = by (origin_of P c s e) refl
    where
      by : (o : Option Origin) → origin_of P c s e ≡ o → OriginIn P R first low o
      by None h = tt
      by (Some og) h = ((origin_read P R first low c at s (λ a. (this a).1) (λ n l a. (locals n l a).1) t e og h k).below, origin_there P R first low up c at s this locals e og h k)

  reads : (t : Temporaries) (e : PlacedTree) → None' e → ReadOf first (L t e).value (origin_of P c s e)
  reads t e k = read_of_origin P R first low c at s (λ a. (this a).1) (λ n l a. (locals n l a).1) t e k

  -- what has a place is read from it
  read_uses : (e : PlacedTree) (span : Span) (p : (ℕ → Bool) → Located) → SpotIn P (p none_later).spot → (W (p none_later).behind → GoodPlace P R first low up c at s this locals e (p none_later)) → Uses P H R first low up (as_place P first span p) (T e)
  read_uses e span p i g = record { value = value; condition = λ w. branch_good P R first low up (read_of P first (p none_later) span) (T e) (value w) }
    where
      value : W (read_of P first (p none_later) span).behind → GV (read_of P first (p none_later) span) (T e)
      value w =
          let q = g (back_read P H R first low up (p none_later).spot (p none_later).behind (p none_later).fragment span i w) in
          subst (λ b. GV (read_of P first (p none_later) span) b) q.type (read_good P R first low up (p none_later).spot (p none_later).behind (p none_later).fragment span w q.spot q.right)

  literal_uses : (t : Temporaries) (l : Literal) (span : Span) → Uses P H R first low up (L t (PlacedLiteral l span)) (literal_type l)
  literal_uses t l span = record { value = λ w. literal_good P R first low up t l span w; condition = λ w. by l w }
    where
      by : (l : Literal) → W (literal_condition l span t (gives P first t nothing (literal_type l) span (λ dst. Const dst (constant l)))).behind → F (literal_condition l span t (gives P first t nothing (literal_type l) span (λ dst. Const dst (constant l)))).fragment
      by (Number n) w = branch_good P R first low up (gives P first t nothing Int span (λ dst. Const dst (constant (Number n)))) Int (literal_good P R first low up t (Number n) span w)
      by (Text n) w = branch_good P R first low up (gives P first t nothing (literal_type (Text n)) span (λ dst. Const dst (constant (Text n)))) (literal_type (Text n)) (literal_good P R first low up t (Text n) span w)
      by True w = goto_good P R first low up span
      by False w = swapped_right (Valued P R first low) (goes span) (goto_good P R first low up span)
      by NullLiteral w = branch_good P R first low up (gives P first t nothing (literal_type NullLiteral) span (λ dst. Const dst (constant NullLiteral))) (literal_type NullLiteral) (literal_good P R first low up t NullLiteral span w)

  -- calls

  either : (e : PlacedTree) (n arity : ℕ) → (callee P c s e (T e) n arity ≡ Println) ⊎ (callee P c s e (T e) n arity ≡ callee_by P (before_dot P c s e) (T e) n arity)
  either e n arity = by (is_output P c s e && eqb n 3 && eqb arity 1)
    where
      by : (b : Bool) → (cond b Println (callee_by P (before_dot P c s e) (T e) n arity) ≡ Println) ⊎ (cond b Println (callee_by P (before_dot P c s e) (T e) n arity) ≡ callee_by P (before_dot P c s e) (T e) n arity)
      by true = inl refl
      by false = inr refl

  own_call_good : (o : Option ℕ) (n arity : ℕ) (row_span name span : Span) (args : Operands) → method_of P c n arity ≡ o → own_method_rows P at o row_span ≡ [] → W (own_call P first o name span args).behind → (W args.behind → GoodOperands P R first low args arity) → GV (own_call P first o name span args) (result_type P o)
  own_call_good None n arity row_span name span args e h w g = cc
  own_call_good (Some m) n arity row_span name span args e h w g = by (own_good P c at (Some m) c n arity row_span e h)
    where
      by : (k : ℕ) × (Some m ≡ Some k) × IsMethod P k arity false × ((static_of (method_at P k) ≡ true) ⊎ ((static_of (method_at P k) ≡ false) × (at.this_stands ≡ true))) → GV (own_call P first (Some m) name span args) (result_base_of (method_at P m))
      by q =
          let same' : q.0 ≡ m = cc in
          let a = g (within_back P R first low args.behind (own_call P first (Some m) name span args).behind (called_grows P first H args.behind args.behind args.fragment span m (own_receiver P first (static_of (method_at P m)) name) (not (static_of (method_at P m)) && private_of (method_at P m)) args.values (same P args.behind)) w) in
          own_called_good P R first low H up args.behind args.fragment name span m arity args.values w a.right (subst (λ z. IsMethod P z arity false) same' q.2) a.count a.below (subst (λ z. (static_of (method_at P z) ≡ true) ⊎ ((static_of (method_at P z) ≡ false) × (0 < length R))) same' (sides q.0 q.3))
        where
          sides : (k : ℕ) → (static_of (method_at P k) ≡ true) ⊎ ((static_of (method_at P k) ≡ false) × (at.this_stands ≡ true)) → (static_of (method_at P k) ≡ true) ⊎ ((static_of (method_at P k) ≡ false) × (0 < length R))
          sides k (inl e) = inl e
          sides k (inr e) = inr (e.0, this_below P R first low up c at s this locals e.1)

  super_call_good : (o : Option ℕ) (k n arity : ℕ) (row_span name span : Span) (args : Operands) → method_of P k n arity ≡ o → super_method_rows P c o row_span ≡ [] → at.this_stands ≡ true → W (super_call P first o name span args).behind → (W args.behind → GoodOperands P R first low args arity) → GV (super_call P first o name span args) (result_type P o)
  super_call_good None k n arity row_span name span args e h stands' w g = cc
  super_call_good (Some m) k n arity row_span name span args e h stands' w g = by (super_good P c (Some m) k n arity row_span e h)
    where
      by : (z : ℕ) × (Some m ≡ Some z) × IsMethod P z arity false × (abstract_method (method_at P z) ≡ false) × (static_of (method_at P z) ≡ false) → GV (super_call P first (Some m) name span args) (result_base_of (method_at P m))
      by q =
          let same' : q.0 ≡ m = cc in
          let a = g (within_back P R first low args.behind (super_call P first (Some m) name span args).behind (called_grows P first H args.behind args.behind args.fragment span m (Some (this_operand name)) true args.values (same P args.behind)) w) in
          super_called_good P R first low H up args.behind args.fragment name span m arity args.values w a.right (subst (λ z. IsMethod P z arity false) same' q.2) a.count a.below (subst (λ z. abstract_method (method_at P z) ≡ false) same' q.3) (subst (λ z. static_of (method_at P z) ≡ false) same' q.4) (this_below P R first low up c at s this locals stands')

  created_call_good : (n arity : ℕ) (row_span span : Span) (args : Operands) → new_rows P c (class_named P n) arity row_span ≡ [] → W (created P first (constructor_of P (or_zero (class_named P n)) arity) (or_zero (class_named P n)) span args).behind → (W args.behind → GoodOperands P R first low args arity) → GV (created P first (constructor_of P (or_zero (class_named P n)) arity) (or_zero (class_named P n)) span args) (ref (or_zero (class_named P n)))
  created_call_good n arity row_span span args h w g =
      let k : ℕ = or_zero (class_named P n) in
      let q = new_good P c n arity row_span h in
      subst (λ o. W (created P first o k span args).behind → GV (created P first o k span args) (ref k)) (sym q.found) (λ w. made q.ctor q.found q.concrete w) w
    where
      made : (m : ℕ) → constructor_of P (or_zero (class_named P n)) arity ≡ Some m → IsConcrete P (or_zero (class_named P n)) → W (created P first (Some m) (or_zero (class_named P n)) span args).behind → GV (created P first (Some m) (or_zero (class_named P n)) span args) (ref (or_zero (class_named P n)))
      made m e concrete w =
          let a = g (back_gives P H R first low up args.behind args.fragment (ref (or_zero (class_named P n))) span (λ dst. New dst (method_no m) args.values) (ref_in P H n) w) in
          created_good P R first low H up args.behind args.fragment (or_zero (class_named P n)) arity m span args.values e concrete w a.right a.count a.below

  -- all forms

  abbrev none_of : (xs ys : List Row) → xs ++ ys ≡ [] → (xs ≡ []) × (ys ≡ [])
  none_of xs ys h = append_none xs ys h

  -- an element, whose array and index are known
  indexed : (t : Temporaries) (a i : PlacedTree) (span : Span) (later : ℕ → Bool) (place : Span) → Rattle.jn_lowering.specs.ExpressionRows.index_rows P c at (T a) (rows_of P c at s a) (rows_of P c at s i) place ≡ [] →
      W (kept P first later (T i) (L (kept P first (λ r. assigns P c s r i || later r) (T a) (L t a).value).behind i).value).behind → (None' a → Uses P H R first low up (L t a) (T a)) → ((u : Temporaries) → None' i → Uses P H R first low up (L u i) (T i)) →
      GoodPlace P R first low up c at s this locals (PlacedIndex a i span) (element P c first span (T a) (kept P first (λ r. assigns P c s r i || later r) (T a) (L t a).value) (kept P first later (T i) (L (kept P first (λ r. assigns P c s r i || later r) (T a) (L t a).value).behind i).value))
  indexed t a i span later place h w g_a g_i =
      let p = index_none P R first low up c at s this locals a i place h in
      let v : Value = kept P first (λ r. assigns P c s r i || later r) (T a) (L t a).value in
      let y : Value = (L v.behind i).value in
      let w_y : W y.behind = back_kept P H R first low up later (T i) y (ty i) w in
      let w_v : W v.behind = within_back P R first low v.behind y.behind (grow v.behind i).value w_y in
      element_place P R first low up c at s this locals a i span place v (kept P first later (T i) y) (T i) h
      (kept_good P R first low up (λ r. assigns P c s r i || later r) (T a) (L t a).value w_v ((g_a p.0).value (back_kept P H R first low up (λ r. assigns P c s r i || later r) (T a) (L t a).value (ty a) w_v)))
      (kept_good P R first low up later (T i) y w ((g_i v.behind p.1).value w_y))

  mutual
    pub all_good : (t : Temporaries) (e : PlacedTree) → AllGood t e
    all_good t (PlacedLiteral l span) = record { uses = λ k. literal_uses t l span; assigned = λ later h w. cc }
    all_good t (PlacedName n) = record {
      uses = λ k. read_uses (PlacedName n) n.span (λ later. record { fragment = nothing; spot = name_spot P (meaning P c s n.name.0) n.span; behind = t }) (name_spot_in P first H (meaning P c s n.name.0) n.span) (λ w. read_name P R first low up c at s this locals n t k);
      assigned = λ later h w. assigned_name P R first low up c at s this locals n t h;
    }
    all_good t (PlacedThis span) = record {
      uses = λ k. value_uses P H R first low up t (record { fragment = nothing; operand = this_operand span; behind = t }) (ref c) (λ w. record { right = nothing_right (Valued P R first low); held = (this (stands P R first low up c at s this locals at.this_stands span k)).0 });
      assigned = λ later h w. cc;
    }
    all_good t (PlacedParen e span) = record { uses = (all_good t e).uses; assigned = λ later h w. cc }
    all_good t (PlacedField e n span) =
        let g = all_good t e in
        record {
          uses = λ k. read_uses (PlacedField e n span) span (λ later. access_place P first (access P c s e (T e) n.name.0) t (kept P first later (T e) (L t e).value)) (access_spot P first H t (access P c s e (T e) n.name.0) (kept P first none_later (T e) (L t e).value))
              (λ w. accessed_place P R first low up c at s this locals e n span t (kept P first none_later (T e) (L t e).value) (T e) k w (λ k' w'. kept_good P R first low up none_later (T e) (L t e).value w' ((g.uses k').value (back_kept P H R first low up none_later (T e) (L t e).value (ty e) w'))));
          assigned = λ later h w. accessed_place P R first low up c at s this locals e n span t (kept P first later (T e) (L t e).value) (T e) (none_of (access_rows P c (before_dot P c s e) (T e) (rows_of P c at s e) n.name.0 n.span) (unless (access_rows P c (before_dot P c s e) (T e) (rows_of P c at s e) n.name.0 n.span) (assigned_access_rows P c at (access P c s e (T e) n.name.0) (Rattle.jn_lowering.specs.ExpressionRows.is_this e) span)) h).0 w (λ k' w'. kept_good P R first low up later (T e) (L t e).value w' ((g.uses k').value (back_kept P H R first low up later (T e) (L t e).value (ty e) w')));
        }
    all_good t (PlacedCall e n es span) =
        let g = all_good t e in
        let v : Value = kept P first (λ r. assigns_any P c s r es) (T e) (L t e).value in
        let k : Callee = callee P c s e (T e) n.name.0 (count es) in
        record {
          uses = λ h. value_uses P H R first low up t (dotted_call P first k span t v (Os v.behind es) (Os t es)) (Rattle.jn_lowering.specs.Bases.callee_type P k) (λ w.
              dotted_call_good P R first low H up k span t v (T e) (Os v.behind es) (Os t es) (rows_of P c at s e) (rows_of_all P c at s es) (count es)
              (dotted_good P c k (before_dot P c s e) (T e) (rows_of P c at s e) (rows_of_all P c at s es) n.name.0 (count es) n.span h (either e n.name.0 (count es))) w
              (λ a b w'.
              let w_v : W v.behind = within_back P R first low v.behind (Os v.behind es).behind (grow_all v.behind es) w' in
              (kept_good P R first low up (λ r. assigns_any P c s r es) (T e) (L t e).value w_v ((g.uses a).value (back_kept P H R first low up (λ r. assigns_any P c s r es) (T e) (L t e).value (ty e) w_v)), operands_good v.behind es b w'))
              (λ b w'. operands_good t es b w'));
          assigned = λ later h w. cc;
        }
    all_good t (PlacedOwnCall n es span) = record {
      uses = λ h.
          let p = none_of (rows_of_all P c at s es) (cond (is_object_member n.name.0) (row J5 n.span) (own_method_rows P at (method_of P c n.name.0 (count es)) n.span)) h in
          value_uses P H R first low up t (own_call P first (method_of P c n.name.0 (count es)) n.span span (Os t es)) (result_type P (method_of P c n.name.0 (count es))) (λ w.
          own_call_good (method_of P c n.name.0 (count es)) n.name.0 (count es) n.span n.span span (Os t es) refl (other_side (is_object_member n.name.0) (record { span = n.span; code = J5 }) [] (own_method_rows P at (method_of P c n.name.0 (count es)) n.span) p.1).1 w (λ w'. operands_good t es p.0 w'));
      assigned = λ later h w. cc;
    }
    all_good t (PlacedSuperCall n es span) = record {
      uses = λ h.
          let member : List Row = cond (is_object_member n.name.0) (row J5 n.span) (when at.this_stands (super_method_rows P c (super_method P c n.name.0 (count es)) n.span)) in
          let p = none_of (when (not at.this_stands) (row J1 span)) (rows_of_all P c at s es ++ member) h in
          let q = none_of (rows_of_all P c at s es) member p.1 in
          let here : at.this_stands ≡ true = stands P R first low up c at s this locals at.this_stands span p.0 in
          let own : when at.this_stands (super_method_rows P c (super_method P c n.name.0 (count es)) n.span) ≡ [] = (other_side (is_object_member n.name.0) (record { span = n.span; code = J5 }) [] (when at.this_stands (super_method_rows P c (super_method P c n.name.0 (count es)) n.span)) q.1).1 in
          value_uses P H R first low up t (super_call P first (super_method P c n.name.0 (count es)) n.span span (Os t es)) (result_type P (super_method P c n.name.0 (count es))) (λ w.
          super_call_good (super_method P c n.name.0 (count es)) (Rattle.jn_lowering.specs.Scopes.parent_class P (Rattle.jn_points.specs.Lookup.parent_of (Rattle.jn_points.specs.Lookup.class_info P c))) n.name.0 (count es) n.span n.span span (Os t es) refl (subst (λ b. when b (super_method_rows P c (super_method P c n.name.0 (count es)) n.span) ≡ []) here own) here w (λ w'. operands_good t es q.0 w'));
      assigned = λ later h w. cc;
    }
    all_good t (PlacedIndex a i span) =
        let g = all_good t a in
        record {
          uses = λ k. read_uses (PlacedIndex a i span) span
              (λ later. element P c first span (T a) (kept P first (λ r. assigns P c s r i || later r) (T a) (L t a).value) (kept P first later (T i) (L (kept P first (λ r. assigns P c s r i || later r) (T a) (L t a).value).behind i).value))
              (Rattle.jn_lowering.proofs.Ranges.elem_in P (T a) (ty a))
              (λ w. indexed t a i span none_later (inner_span a) k w g.uses (λ u. (all_good u i).uses));
          assigned = λ later h w. indexed t a i span later (inner_span a) h w g.uses (λ u. (all_good u i).uses);
        }
    all_good t (PlacedNew n es span) = record {
      uses = λ h.
          let p = none_of (rows_of_all P c at s es) (new_rows P c (class_named P n.name.0) (count es) n.span) h in
          value_uses P H R first low up t (created P first (constructor_of P (or_zero (class_named P n.name.0)) (count es)) (or_zero (class_named P n.name.0)) span (Os t es)) (ref (or_zero (class_named P n.name.0))) (λ w. created_call_good n.name.0 (count es) n.span span (Os t es) p.1 w (λ w'. operands_good t es p.0 w'));
      assigned = λ later h w. cc;
    }
    all_good t (PlacedNewArray annotations base size span) =
        let g = all_good t size in
        let v : Value = (L t size).value in
        let b : BaseType = array_type P base annotations in
        record {
          uses = λ h. value_uses P H R first low up t (gives P first v.behind v.fragment b span (λ dst. NewArray dst b v.operand)) b (λ w.
              let x = (g.uses (none_of (array_rows P base annotations) (rows_of P c at s size) h).1).value (back_gives P H R first low up v.behind v.fragment b span (λ dst. NewArray dst b v.operand) (array_in P H base annotations) w) in
              gives_good P R first low up v.behind v.fragment b span (λ dst. NewArray dst b v.operand) w x.right (λ dst o. going P R first low (NewArray (register dst) b v.operand) (record { on = next_only; plain = refl }) (good_new_array P R first low dst b v.operand o (value_below P R first low v (T size) x) refl (array_in P H base annotations)) tt));
          assigned = λ later h w. cc;
        }
    all_good t (PlacedArrayOf annotations base es span) =
        let vs : Operands = Os t es in
        let b : BaseType = array_type P base annotations in
        record {
          uses = λ h. value_uses P H R first low up t (gives P first vs.behind vs.fragment b span (λ dst. ArrayOf dst b vs.values)) b (λ w.
              let x = operands_good t es (none_of (array_rows P base annotations) (rows_of_all P c at s es) h).1 (back_gives P H R first low up vs.behind vs.fragment b span (λ dst. ArrayOf dst b vs.values) (array_in P H base annotations) w) in
              gives_good P R first low up vs.behind vs.fragment b span (λ dst. ArrayOf dst b vs.values) w x.right (λ dst o. going P R first low (ArrayOf (register dst) b vs.values) (record { on = next_only; plain = refl }) (good_array_of P R first low dst b vs.values o x.below refl (array_in P H base annotations)) tt));
          assigned = λ later h w. cc;
        }
    all_good t (PlacedPostfix e step span) =
        let g = all_good t e in
        let target : Located = (L t e).assigned none_later in
        let old : Value = read_of P first target (span_of e) in
        let kept_old : Value = old_value P first target.spot (T e) span old in
        let n : Value = one P first kept_old.behind kept_old.fragment span in
        record {
          uses = λ h. value_uses P H R first low up t (postfixed P first span step target.spot old.operand kept_old) (T e) (λ w.
              let w_n : W n.behind = within_back P R first low n.behind (take_one n.behind Int).behind (take_grows P n.behind Int tt) w in
              let w_k : W kept_old.behind = within_back P R first low kept_old.behind (take_one kept_old.behind Int).behind (take_grows P kept_old.behind Int tt) w_n in
              let w_o : W old.behind = within_back P R first low old.behind kept_old.behind (Rattle.jn_lowering.proofs.Growing.old_grows P first H old.behind target.spot (T e) span old (same P old.behind) (ty e)) w_k in
              let w_t : W target.behind = back_read P H R first low up target.spot target.behind target.fragment (span_of e) ((grow t e).spotted none_later) w_o in
              let q = g.assigned none_later h w_t in
              let g_o : GV old (T e) = subst (λ b. GV old b) q.type (read_good P R first low up target.spot target.behind target.fragment (span_of e) w_o q.spot q.right) in
              let g_k : GV kept_old (T e) = old_good P R first low H up target.spot (T e) span old w_k g_o in
              record {
                right = (stepped_good P R first low H up span step target.spot old.operand n Int w q.spot (value_below P R first low old (T e) g_o) (one_good P R first low up kept_old.behind kept_old.fragment span 1 w_n g_k.right)).right;
                held = g_k.held;
              });
          assigned = λ later h w. cc;
        }
    all_good t (PlacedPrefix step e span) =
        let g = all_good t e in
        let target : Located = (L t e).assigned none_later in
        let old : Value = read_of P first target (span_of e) in
        let n : Value = one P first old.behind old.fragment span in
        record {
          uses = λ h. value_uses P H R first low up t (prefixed P first span step target.spot old) Int (λ w.
              let w_n : W n.behind = within_back P R first low n.behind (take_one n.behind Int).behind (take_grows P n.behind Int tt) w in
              let w_o : W old.behind = within_back P R first low old.behind (take_one old.behind Int).behind (take_grows P old.behind Int tt) w_n in
              let w_t : W target.behind = back_read P H R first low up target.spot target.behind target.fragment (span_of e) ((grow t e).spotted none_later) w_o in
              let q = g.assigned none_later h w_t in
              let g_o : GV old (T e) = subst (λ b. GV old b) q.type (read_good P R first low up target.spot target.behind target.fragment (span_of e) w_o q.spot q.right) in
              stepped_good P R first low H up span step target.spot old.operand n Int w q.spot (value_below P R first low old (T e) g_o) (one_good P R first low up old.behind old.fragment span 1 w_n g_o.right));
          assigned = λ later h w. cc;
        }
    all_good t (PlacedUnary o e span) = record { uses = λ k. unary_uses P H R first low up c t span o (L t e) (T e) ((all_good t e).uses k); assigned = λ later h w. cc }
    all_good t (PlacedCast n e span) =
        let g = all_good t e in
        let v : Value = (L t e).value in
        let k : ℕ = or_zero (class_named P n.name.0) in
        record {
          uses = λ h. value_uses P H R first low up t (gives P first v.behind v.fragment (ref k) span (λ dst. Cast dst v.operand (class_no k))) (ref k) (λ w.
              let x = (g.uses (none_of (known_class P (class_named P n.name.0) n.span) (rows_of P c at s e) h).1).value (back_gives P H R first low up v.behind v.fragment (ref k) span (λ dst. Cast dst v.operand (class_no k)) (ref_in P H n.name.0) w) in
              gives_good P R first low up v.behind v.fragment (ref k) span (λ dst. Cast dst v.operand (class_no k)) w x.right (λ dst o. going P R first low (Cast (register dst) v.operand (class_no k)) (record { on = next_only; plain = refl }) (good_cast P R first low dst v.operand (class_no k) o (value_below P R first low v (T e) x) (ref_in P H n.name.0).0) tt));
          assigned = λ later h w. cc;
        }
    all_good t (PlacedBinary a o b span) =
        let g = all_good t a in
        record {
          uses = λ h.
              let p = none_of (rows_of P c at s a) (rows_of P c at s b ++ unless (rows_of P c at s a ++ rows_of P c at s b) (equality_rows P o (is_null a || is_null b) (T a) (T b) span)) h in
              let q = none_of (rows_of P c at s b) (unless (rows_of P c at s a ++ rows_of P c at s b) (equality_rows P o (is_null a || is_null b) (T a) (T b) span)) p.1 in
              binary_uses P H R first low up c span (is_null a) (is_null b) (origin_of P c s a) (origin_of P c s b) (T a) (T b) (λ r. assigns P c s r b) (L t a) (λ u. L u b) t (ty a) (g.uses p.0) (λ u. (all_good u b).uses q.0) (λ u. grow u b) (reads t a p.0) (reads t b q.0) (origin_in a p.0 t) (origin_in b q.0 t) o;
          assigned = λ later h w. cc;
        }
    all_good t (PlacedInstanceOf e n span) =
        let g = all_good t e in
        record {
          uses = λ h.
              let k = (none_of (known_class P (class_named P n.name.0) n.span) (rows_of P c at s e) h).1 in
              condition_uses P H R first low up t span (instance_tested (or_zero (class_named P n.name.0)) (origin_of P c s e) span (L t e).value) (λ w. instance_tested_good P H R first low up (or_zero (class_named P n.name.0)) (origin_of P c s e) span (L t e).value (T e) (ref_in P H n.name.0).0 ((g.uses k).value w) (reads t e k) (origin_in e k t));
          assigned = λ later h w. cc;
        }
    all_good t (PlacedConditional q a b span) =
        let x : Condition = (L t q).condition in
        let d : BaseType = wider P (T a) (T b) in
        let dst : Taken = take_one x.behind d in
        let y : Value = (L dst.behind a).value in
        let z : Value = (L y.behind b).value in
        let g = all_good t q in
        let g_a = all_good dst.behind a in
        let g_b = all_good y.behind b in
        record {
          uses = λ h.
              let p = none_of (rows_of P c at s q) (rows_of P c at s a ++ rows_of P c at s b) h in
              let r = none_of (rows_of P c at s a) (rows_of P c at s b) p.1 in
              value_uses P H R first low up t (chosen P first span dst.number x y z) d (λ w.
              let w_y : W y.behind = within_back P R first low y.behind z.behind (grow y.behind b).value w in
              let w_d : W dst.behind = within_back P R first low dst.behind y.behind (grow dst.behind a).value w_y in
              let w_x : W x.behind = within_back P R first low x.behind dst.behind (take_grows P x.behind d (choice_in P (fits P (T a) (T b)) (T b) (T a) (ty b) (ty a))) w_d in
              chosen_good P R first low H up span d dst.number x y z (T a) (T b) (taken_open P R first low up x.behind d w_d) ((g.uses p.0).condition w_x) ((g_a.uses r.0).value w_y) ((g_b.uses r.1).value w));
          assigned = λ later h w. cc;
        }
    all_good t (PlacedAssign target o e span) =
        let g = all_good t target in
        let later : ℕ → Bool = λ r. assigns P c s r e in
        let place : Located = (L t target).assigned later in
        record {
          uses = λ h.
              let p = none_of (assigned_rows P c at s target) (rows_of P c at s e) h in
              value_uses P H R first low up t (Rattle.jn_lowering.specs.Expressions.assignment P c first span o (T target) (T e) later (span_of target) place (λ u. L u e)) (T (PlacedAssign target o e span)) (λ w.
              let w_t : W place.behind = within_back P R first low place.behind (Rattle.jn_lowering.specs.Expressions.assignment P c first span o (T target) (T e) later (span_of target) place (λ u. L u e)).behind (assignment_grows P H c there first s in' span o (T target) (T e) later (span_of target) place (λ u. L u e) place.behind (same P place.behind) ((grow t target).spotted later) (λ u. grow u e) (ty target)) w in
              let q = g.assigned later p.0 w_t in
              subst (λ z. GV (Rattle.jn_lowering.specs.Expressions.assignment P c first span o (T target) (T e) later (span_of target) place (λ u. L u e)) (cond (is_simple o) (cond z (T target) (T e)) (Rattle.jn_lowering.specs.Bases.binary_type (compound_of o) (T target) (T e)))) q.local
              (assignment_good P H R first low up c span o (T target) (T e) later (span_of target) place (λ u. L u e) (ty target) ((grow t target).spotted later) (λ u. grow u e) (λ u. (all_good u e).uses p.1) (λ w'. q.right) (λ w'. q.spot) q.type w));
          assigned = λ later h w. cc;
        }

    pub operands_good : (t : Temporaries) (es : PlacedTrees) → rows_of_all P c at s es ≡ [] → W (Os t es).behind → GoodOperands P R first low (Os t es) (count es)
    operands_good t NoPlacedTrees h w = no_operands_good P R first low t
    operands_good t (MorePlacedTrees e es) h w =
        let p = none_of (rows_of P c at s e) (rows_of_all P c at s es) h in
        let v : Value = kept P first (λ r. assigns_any P c s r es) (T e) (L t e).value in
        let w_v : W v.behind = within_back P R first low v.behind (Os v.behind es).behind (grow_all v.behind es) w in
        with_operand_good P R first low v (T e) (Os v.behind es) (count es) (kept_good P R first low up (λ r. assigns_any P c s r es) (T e) (L t e).value w_v (((all_good t e).uses p.0).value (back_kept P H R first low up (λ r. assigns_any P c s r es) (T e) (L t e).value (ty e) w_v))) (operands_good v.behind es p.1 w)
