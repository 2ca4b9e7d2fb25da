-- Bare programs break the same rules at the same points, at the same constructors and pairs.
use Rattle.std.proofs.Common.{◌≡◌, ℕ, ◌+◌, Bool, true, false, not, cond, ◌&&◌, ◌||◌, List, [], ◌∷◌, ◌++◌, length, Option, Some, None, refl, sym, ap, ◌∙◌}
use Rattle.std.specs.Prelude.{eqb, flat_map, option_map, slice_index_or}
use Rattle.std.proofs.lemmas.List.{length-map, map-append}
use Rattle.jn_base.specs.declared.place.Span.{Span}
use Rattle.jn_base.specs.declared.place.Row.{Row}
use Rattle.jn_base.specs.declared.code.Code.{Code}
use Rattle.jn_base.specs.declared.code.Code.TheVariants.{Deref, Field as FieldCode, FieldInit, Arg, ArgInit, RecvInit, Return as ReturnCode, ReturnInit, Local, LocalInit, Elem, ElemInit, CtorFields, OvrParam, OvrReceiver, OvrResult}
use Rattle.jn_quals.specs.Qualifier.{Qualifier}
use Rattle.jn_quals.specs.Order.{within}
use Rattle.jn_points.specs.declared.point.Operand.{Operand}
use Rattle.jn_points.specs.declared.point.BaseType.{BaseType}
use Rattle.jn_points.specs.declared.point.BaseType.TheVariants.{Array, Int, Bool as BoolBase, Void, Null as NullBase, Ref}
use Rattle.jn_points.specs.declared.point.Elem.TheVariants.{Ref as RefElem, Int as IntElem, Bool as BoolElem}
use Rattle.jn_points.specs.declared.point.StrOperation.{StrOperation}
use Rattle.jn_points.specs.declared.point.StrOperation.TheVariants.{Length, IsEmpty, Equals}
use Rattle.jn_points.specs.declared.point.Point.{Point}
use Rattle.jn_points.specs.declared.point.PointKind.{PointKind}
use Rattle.jn_points.specs.declared.point.PointKind.TheVariants.{Const, Move, Unary, Binary, Concat, SameRef, FieldRead, FieldWrite, StaticRead, StaticWrite, ElemRead, ElemWrite, ArrayLen, NewArray, ArrayOf, New, CtorCall, Call, StrOp, Print, Cast, TestInst, TestNull, Branch, Goto, Return}
use Rattle.jn_points.specs.declared.program.Method.{Method}
use Rattle.jn_points.specs.declared.program.Program.{Program}
use Rattle.jn_points.specs.Lookup.{points_of, slots_of, dereferences, monotonic, body_at, reg_base, method_at, method_in}
use Rattle.jn_points.specs.Members.{some_of, below, is_pair}
use Rattle.jn_sigs.specs.Signature.{slot_quals, result_of, receiver_of, field_qual}
use Rattle.jn_env.specs.Environment.{Env}
use Rattle.jn_env.specs.Order.{Table, env_in, qual_at}
use Rattle.jn_env.specs.Keys.{is_on, own_keys}
use Rattle.jn_transfer.specs.Transfer.{elem_qual}
use Rattle.jn_transfer.specs.Rules.{row_if, lacks_null, lacks_init, pass_rows, arg_rows, bound_rows, return_rows, receiver_rows, equals_rows, elem_rows, elems_rows, new_array_rows, deref_rows, override_rows, some_outside, writes_null, write_rows, kind_rows, rows_at, rows_from, is_unset, unset_at, unset_from, ctor_rows, body_rows, bodies_rows, pair_rows, pairs_rows, rows}
use Rattle.jn_places_law.specs.Bare.{bare, bare_body, bare_method, bare_kind, bare_operand, bare_operands, bare_optional, bare_points, bare_point, no_span, codes_of}
use Rattle.jn_places_law.proofs.Lookups.{points_is, reg_base_is, method_at_is, method_in_is, slots_at_is, monotonic_is, is_pair_is, some_same}
use Rattle.jn_places_law.proofs.Flow.{own_keys_is, field_qual_is, result_bare, receiver_bare}

-- two lists of rows have the same codes
abbrev Same : List Row → List Row → Type 0
Same xs ys = codes_of xs ≡ codes_of ys

both : (xs ys us vs : List Row) → Same xs us → Same ys vs → Same (xs ++ ys) (us ++ vs)
both xs ys us vs a b = map-append (λ (r : Row). r.code) xs ys ∙ ap (λ x. x ++ codes_of ys) a ∙ ap (λ x. codes_of us ++ x) b ∙ sym (map-append (λ (r : Row). r.code) us vs)

if_same : (b : Bool) (x y : Span) (code : Code) → Same (row_if b x code) (row_if b y code)
if_same false x y code = refl
if_same true x y code = refl

pass_same : (code init : Code) (e : Env) (a : Operand) (q : Qualifier) → Same (pass_rows code init e (bare_operand a) q) (pass_rows code init e a q)
pass_same code init e a q = both _ _ _ _ (if_same (lacks_null (qual_at e a.reg.0) q) no_span a.span code) (if_same (lacks_init (qual_at e a.reg.0) q) no_span a.span init)

args_same : (e : Env) (qs : List Qualifier) (args : List Operand) → Same (arg_rows e qs (bare_operands args)) (arg_rows e qs args)
args_same e [] args = refl
args_same e (q ∷ qs) [] = refl
args_same e (q ∷ qs) (a ∷ args) = both _ _ _ _ (pass_same Arg ArgInit e a q) (args_same e qs args)

bound_same : (e : Env) (a : Operand) (q : Option Qualifier) → Same (bound_rows e (bare_operand a) q) (bound_rows e a q)
bound_same e a None = refl
bound_same e a (Some q) = pass_same Local LocalInit e a q

return_same : (e : Env) (a : Option Operand) (q : Qualifier) → Same (return_rows e (bare_optional a) q) (return_rows e a q)
return_same e None q = refl
return_same e (Some a) q = pass_same ReturnCode ReturnInit e a q

receiver_same : (e : Env) (a : Option Operand) (q : Qualifier) → Same (receiver_rows e (bare_optional a) q) (receiver_rows e a q)
receiver_same e None q = refl
receiver_same e (Some a) q = if_same (lacks_init (qual_at e a.reg.0) q) no_span a.span RecvInit

equals_same : (e : Env) (op : StrOperation) (a : Option Operand) → Same (equals_rows e op (bare_optional a)) (equals_rows e op a)
equals_same e Length None = refl
equals_same e Length (Some a) = refl
equals_same e IsEmpty None = refl
equals_same e IsEmpty (Some a) = refl
equals_same e Equals None = refl
equals_same e Equals (Some a) = if_same (qual_at e a.reg.0).free no_span a.span ArgInit

elem_same : (e : Env) (base : BaseType) (a : Operand) → Same (elem_rows e base (bare_operand a)) (elem_rows e base a)
elem_same e base a = both _ _ _ _ (if_same (lacks_null (qual_at e a.reg.0) (elem_qual base)) no_span a.span Elem) (if_same (qual_at e a.reg.0).free no_span a.span ElemInit)

elems_same : (e : Env) (base : BaseType) (xs : List Operand) → Same (elems_rows e base (bare_operands xs)) (elems_rows e base xs)
elems_same e base [] = refl
elems_same e base (a ∷ xs) = both _ _ _ _ (elem_same e base a) (elems_same e base xs)

new_array_same : (x y : Span) (base : BaseType) → Same (new_array_rows x base) (new_array_rows y base)
new_array_same x y (Array (RefElem c) false) = refl
new_array_same x y (Array (RefElem c) true) = refl
new_array_same x y (Array IntElem n) = refl
new_array_same x y (Array BoolElem n) = refl
new_array_same x y Int = refl
new_array_same x y BoolBase = refl
new_array_same x y Void = refl
new_array_same x y NullBase = refl
new_array_same x y (Ref c) = refl

deref_same : (e : Env) (a : Option Operand) → Same (deref_rows e (bare_optional a)) (deref_rows e a)
deref_same e None = refl
deref_same e (Some a) = if_same (qual_at e a.reg.0).null no_span a.span Deref

dereferences_is : (k : PointKind) → dereferences (bare_kind k) ≡ bare_optional (dereferences k)
dereferences_is (Const dst value) = refl
dereferences_is (Move dst from bound) = refl
dereferences_is (Unary dst negate of) = refl
dereferences_is (Binary dst op l r) = refl
dereferences_is (Concat dst l r) = refl
dereferences_is (SameRef dst eq l r) = refl
dereferences_is (FieldRead dst r f) = refl
dereferences_is (FieldWrite r f v) = refl
dereferences_is (StaticRead dst f) = refl
dereferences_is (StaticWrite f v) = refl
dereferences_is (ElemRead dst r i) = refl
dereferences_is (ElemWrite r i v) = refl
dereferences_is (ArrayLen dst r) = refl
dereferences_is (NewArray dst base n) = refl
dereferences_is (ArrayOf dst base xs) = refl
dereferences_is (New dst m args) = refl
dereferences_is (CtorCall m args own) = refl
dereferences_is (Call dst m r direct args) = refl
dereferences_is (StrOp dst op of other) = refl
dereferences_is (Print of) = refl
dereferences_is (Cast dst of c) = refl
dereferences_is (TestInst of c og at_yes at_no) = refl
dereferences_is (TestNull of og at_null at_value) = refl
dereferences_is (Branch of at_yes at_no) = refl
dereferences_is (Goto to) = refl
dereferences_is (Return v) = refl

three_same : (a b c : Bool) (x y : Span) → Same (row_if a x OvrParam ++ row_if b x OvrReceiver ++ row_if c x OvrResult) (row_if a y OvrParam ++ row_if b y OvrReceiver ++ row_if c y OvrResult)
three_same true true true x y = refl
three_same true true false x y = refl
three_same true false true x y = refl
three_same true false false x y = refl
three_same false true true x y = refl
three_same false true false x y = refl
three_same false false true x y = refl
three_same false false false x y = refl

override_same : (s : List Qualifier) (over under : Option Method) → Same (override_rows s (option_map bare_method over) (option_map bare_method under)) (override_rows s over under)
override_same s None under = refl
override_same s (Some over) None = three_same (some_outside (slot_quals s (slots_of None)) (slot_quals s over.param_slots)) (not (within (receiver_of s None) (receiver_of s (Some over)))) (not (within (result_of s (Some over)) (result_of s None))) no_span over.span
override_same s (Some over) (Some under) = three_same (some_outside (slot_quals s under.param_slots) (slot_quals s over.param_slots)) (not (within (receiver_of s (Some under)) (receiver_of s (Some over)))) (not (within (result_of s (Some over)) (result_of s (Some under)))) no_span over.span

module _ (P : Program) (s : List Qualifier) where
  writes_null_is : (q : Qualifier) (f : ℕ) → writes_null (bare P) s q f ≡ writes_null P s q f
  writes_null_is q f =
      ap (λ (x : Qualifier). q.null && (not x.null || monotonic (bare P) f)) (field_qual_is P s f)
      ∙ ap (λ x. q.null && (not (field_qual P s f).null || x)) (monotonic_is P f)

  write_same : (e : Env) (r : Operand) (f : ℕ) (v : Operand) → Same (write_rows (bare P) s e (bare_operand r) f (bare_operand v)) (write_rows P s e r f v)
  write_same e r f v = both _ _ _ _
      (ap (λ b. codes_of (row_if b no_span FieldCode)) (writes_null_is (qual_at e v.reg.0) f) ∙ if_same (writes_null P s (qual_at e v.reg.0) f) no_span v.span FieldCode)
      (if_same ((qual_at e v.reg.0).free && (qual_at e r.reg.0).committed) no_span v.span FieldInit)

  called_same : (e : Env) (m : ℕ) (args : List Operand) → Same (arg_rows e (slot_quals s (slots_of (method_at (bare P) m))) (bare_operands args)) (arg_rows e (slot_quals s (slots_of (method_at P m))) args)
  called_same e m args = ap (λ x. codes_of (arg_rows e (slot_quals s x) (bare_operands args))) (slots_at_is P m) ∙ args_same e (slot_quals s (slots_of (method_at P m))) args

  kind_same : (b : ℕ) (e : Env) (span : Span) (k : PointKind) → Same (kind_rows (bare P) s b e no_span (bare_kind k)) (kind_rows P s b e span k)
  kind_same b e span (Const dst value) = refl
  kind_same b e span (Move dst from bound) = bound_same e from bound
  kind_same b e span (Unary dst negate of) = refl
  kind_same b e span (Binary dst op l r) = refl
  kind_same b e span (Concat dst l r) = refl
  kind_same b e span (SameRef dst eq l r) = refl
  kind_same b e span (FieldRead dst r f) = refl
  kind_same b e span (FieldWrite r f v) = write_same e r f.0 v
  kind_same b e span (StaticRead dst f) = refl
  kind_same b e span (StaticWrite f v) = refl
  kind_same b e span (ElemRead dst r i) = refl
  kind_same b e span (ElemWrite r i v) = ap (λ t. codes_of (elem_rows e t (bare_operand v))) (reg_base_is P b r.reg.0) ∙ elem_same e (reg_base P b r.reg.0) v
  kind_same b e span (ArrayLen dst r) = refl
  kind_same b e span (NewArray dst base n) = new_array_same no_span span base
  kind_same b e span (ArrayOf dst base xs) = elems_same e base xs
  kind_same b e span (New dst m args) = called_same e m.0 args
  kind_same b e span (CtorCall m args own) = called_same e m.0 args
  kind_same b e span (Call dst m r direct args) = both _ _ _ _ (called_same e m.0 args) (ap (λ q. codes_of (receiver_rows e (bare_optional r) q)) (ap (receiver_of s) (method_at_is P m.0) ∙ receiver_bare s (method_at P m.0)) ∙ receiver_same e r (receiver_of s (method_at P m.0)))
  kind_same b e span (StrOp dst op of other) = equals_same e op other
  kind_same b e span (Print of) = refl
  kind_same b e span (Cast dst of c) = refl
  kind_same b e span (TestInst of c og at_yes at_no) = refl
  kind_same b e span (TestNull of og at_null at_value) = refl
  kind_same b e span (Branch of at_yes at_no) = refl
  kind_same b e span (Goto to) = refl
  kind_same b e span (Return v) = ap (λ q. codes_of (return_rows e (bare_optional v) q)) (ap (result_of s) (method_in_is P b) ∙ result_bare s (method_in P b)) ∙ return_same e v (result_of s (method_in P b))

  -- at each point
  pub point_same : (b : ℕ) (pt : Point) (e : Option Env) → Same (rows_at (bare P) s b (bare_point pt) e) (rows_at P s b pt e)
  point_same b pt None = refl
  point_same b pt (Some e) = both _ _ _ _ (ap (λ a. codes_of (deref_rows e a)) (dereferences_is pt.kind) ∙ deref_same e (dereferences pt.kind)) (kind_same b e pt.span pt.kind)

  points_same : (b : ℕ) (pts : List Point) (p : ℕ) (t : Table) → Same (rows_from (bare P) s b (bare_points pts) p t) (rows_from P s b pts p t)
  points_same b [] p t = refl
  points_same b (pt ∷ pts) p t = both _ _ _ _ (point_same b pt (env_in t p)) (points_same b pts (p + 1) t)

  unset_is : (b : ℕ) (e : Env) → is_unset (bare P) s b e ≡ is_unset P s b e
  unset_is b e =
      ap (λ ks. some_of (λ (f : ℕ). not (field_qual (bare P) s f).null && not (is_on (λ k. eqb k f) ks e.assigned)) ks) (own_keys_is P b)
      ∙ some_same (λ (f : ℕ). not (field_qual (bare P) s f).null && not (is_on (λ k. eqb k f) (own_keys P b) e.assigned)) (λ (f : ℕ). not (field_qual P s f).null && not (is_on (λ k. eqb k f) (own_keys P b) e.assigned)) (own_keys P b)
      (λ f. ap (λ (q : Qualifier). not q.null && not (is_on (λ k. eqb k f) (own_keys P b) e.assigned)) (field_qual_is P s f))

  unset_at_is : (b : ℕ) (k : PointKind) (e : Option Env) → unset_at (bare P) s b (bare_kind k) e ≡ unset_at P s b k e
  unset_at_is b (Return v) None = refl
  unset_at_is b (Return v) (Some e) = unset_is b e
  unset_at_is b (Const dst value) e = refl
  unset_at_is b (Move dst from bound) e = refl
  unset_at_is b (Unary dst negate of) e = refl
  unset_at_is b (Binary dst op l r) e = refl
  unset_at_is b (Concat dst l r) e = refl
  unset_at_is b (SameRef dst eq l r) e = refl
  unset_at_is b (FieldRead dst r f) e = refl
  unset_at_is b (FieldWrite r f v) e = refl
  unset_at_is b (StaticRead dst f) e = refl
  unset_at_is b (StaticWrite f v) e = refl
  unset_at_is b (ElemRead dst r i) e = refl
  unset_at_is b (ElemWrite r i v) e = refl
  unset_at_is b (ArrayLen dst r) e = refl
  unset_at_is b (NewArray dst base n) e = refl
  unset_at_is b (ArrayOf dst base xs) e = refl
  unset_at_is b (New dst m args) e = refl
  unset_at_is b (CtorCall m args own) e = refl
  unset_at_is b (Call dst m r direct args) e = refl
  unset_at_is b (StrOp dst op of other) e = refl
  unset_at_is b (Print of) e = refl
  unset_at_is b (Cast dst of c) e = refl
  unset_at_is b (TestInst of c og at_yes at_no) e = refl
  unset_at_is b (TestNull of og at_null at_value) e = refl
  unset_at_is b (Branch of at_yes at_no) e = refl
  unset_at_is b (Goto to) e = refl

  unset_from_is : (b : ℕ) (pts : List Point) (p : ℕ) (t : Table) → unset_from (bare P) s b (bare_points pts) p t ≡ unset_from P s b pts p t
  unset_from_is b [] p t = refl
  unset_from_is b (pt ∷ pts) p t = ap (λ x. x || unset_from (bare P) s b (bare_points pts) (p + 1) t) (unset_at_is b pt.kind (env_in t p)) ∙ ap (λ x. unset_at P s b pt.kind (env_in t p) || x) (unset_from_is b pts (p + 1) t)

  ctor_of_method : (b : ℕ) (m : Option Method) (t : Table) → Same (ctor_rows (bare P) s b (option_map bare_method m) t) (ctor_rows P s b m t)
  ctor_of_method b None t = refl
  ctor_of_method b (Some m) t =
      ap (λ pts. codes_of (row_if (m.ctor && unset_from (bare P) s b pts 0 t) no_span CtorFields)) (points_is P b)
      ∙ ap (λ x. codes_of (row_if (m.ctor && x) no_span CtorFields)) (unset_from_is b (points_of (body_at P b)) 0 t)
      ∙ if_same (m.ctor && unset_from P s b (points_of (body_at P b)) 0 t) no_span m.span CtorFields

  -- at each constructor
  pub ctor_same : (b : ℕ) (t : Table) → Same (ctor_rows (bare P) s b (method_in (bare P) b) t) (ctor_rows P s b (method_in P b) t)
  ctor_same b t = ap (λ m. codes_of (ctor_rows (bare P) s b m t)) (method_in_is P b) ∙ ctor_of_method b (method_in P b) t

  body_same : (b : ℕ) (t : Table) → Same (body_rows (bare P) s b t) (body_rows P s b t)
  body_same b t = both _ _ _ _ (ap (λ pts. codes_of (rows_from (bare P) s b pts 0 t)) (points_is P b) ∙ points_same b (points_of (body_at P b)) 0 t) (ctor_same b t)

  bodies_same : (bs : List ℕ) (tables : List (List (Option Env))) → Same (bodies_rows (bare P) s bs tables) (bodies_rows P s bs tables)
  bodies_same [] tables = refl
  bodies_same (b ∷ bs) tables = both _ _ _ _ (body_same b (slice_index_or tables b [])) (bodies_same bs tables)

  cond_same : (c : Bool) (xs ys : List Row) → Same xs ys → Same (cond c xs []) (cond c ys [])
  cond_same true xs ys h = h
  cond_same false xs ys h = refl

  -- at each pair
  pub pair_same : (m k : ℕ) → Same (pair_rows (bare P) s m k) (pair_rows P s m k)
  pair_same m k =
      ap (λ c. codes_of (cond c (override_rows s (method_at (bare P) m) (method_at (bare P) k)) [])) (is_pair_is P m k)
      ∙ cond_same (is_pair P m k) (override_rows s (method_at (bare P) m) (method_at (bare P) k)) (override_rows s (method_at P m) (method_at P k))
      (ap (λ x. codes_of (override_rows s x (method_at (bare P) k))) (method_at_is P m) ∙ ap (λ x. codes_of (override_rows s (option_map bare_method (method_at P m)) x)) (method_at_is P k) ∙ override_same s (method_at P m) (method_at P k))

  flat_rows : (f g : ℕ → List Row) (xs : List ℕ) → ((x : ℕ) → Same (f x) (g x)) → Same (flat_map f xs) (flat_map g xs)
  flat_rows f g [] h = refl
  flat_rows f g (x ∷ xs) h = both _ _ _ _ (h x) (flat_rows f g xs h)

  pairs_same : Same (pairs_rows (bare P) s) (pairs_rows P s)
  pairs_same =
      ap (λ n. codes_of (flat_map (λ (m : ℕ). flat_map (pair_rows (bare P) s m) (below n)) (below n))) (length-map P.methods bare_method)
      ∙ flat_rows (λ (m : ℕ). flat_map (pair_rows (bare P) s m) (below (length P.methods))) (λ (m : ℕ). flat_map (pair_rows P s m) (below (length P.methods))) (below (length P.methods))
      (λ m. flat_rows (pair_rows (bare P) s m) (pair_rows P s m) (below (length P.methods)) (pair_same m))

  pub rows_same : (tables : List (List (Option Env))) → Same (rows (bare P) s tables) (rows P s tables)
  rows_same tables = both _ _ _ _
      (ap (λ n. codes_of (bodies_rows (bare P) s (below n) tables)) (length-map P.bodies bare_body) ∙ bodies_same (below (length P.bodies)) tables)
      pairs_same
