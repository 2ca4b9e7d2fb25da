-- What breaks no rule under a table breaks none under a table within it.
use Rattle.std.proofs.Common.{◌≡◌, ℕ, ◌+◌, Bool, true, false, not, ◌&&◌, ◌||◌, List, [], ◌∷◌, ◌++◌, Option, Some, None, refl, sym, subst}
use Rattle.std.specs.Prelude.{eqb, slice_index_or}
use Rattle.jn_base.specs.declared.place.Span.{Span}
use Rattle.jn_base.specs.declared.code.Code.{Code}
use Rattle.jn_quals.specs.Qualifier.{Qualifier}
use Rattle.jn_quals.proofs.Order.{Included, included}
use Rattle.jn_points.specs.declared.point.Operand.{Operand}
use Rattle.jn_points.specs.declared.point.BaseType.{BaseType}
use Rattle.jn_points.specs.declared.point.StrOperation.{StrOperation}
use Rattle.jn_points.specs.declared.point.StrOperation.TheVariants.{Length, IsEmpty, Equals}
use Rattle.jn_points.specs.declared.point.Point.{Point}
use Rattle.jn_points.specs.declared.point.PointKind.{PointKind}
use Rattle.jn_points.specs.declared.point.PointKind.TheVariants.{Const, Move, Unary, Binary, Concat, SameRef, FieldRead, FieldWrite, StaticRead, StaticWrite, ElemRead, ElemWrite, ArrayLen, NewArray, ArrayOf, New, CtorCall, Call, StrOp, Print, Cast, TestInst, TestNull, Branch, Goto, Return}
use Rattle.jn_points.specs.declared.program.Method.{Method}
use Rattle.jn_points.specs.declared.program.Program.{Program}
use Rattle.jn_points.specs.Lookup.{points_of, slots_of, dereferences, body_at, reg_base, method_at, method_in, monotonic}
use Rattle.jn_points.specs.Members.{some_of}
use Rattle.jn_sigs.specs.Signature.{slot_quals, result_of, receiver_of, field_qual}
use Rattle.jn_env.specs.Environment.{Env}
use Rattle.jn_env.specs.Order.{Table, EnvWithin, SlotWithin, TableWithin, env_in, qual_at}
use Rattle.jn_env.specs.Keys.{is_on, own_keys}
use Rattle.jn_env.proofs.BitOrder.{is_on_above}
use Rattle.jn_env.proofs.Order.{env_qual, table_at}
use Rattle.jn_transfer.specs.Transfer.{elem_qual}
use Rattle.jn_transfer.specs.Rules.{row_if, lacks_null, lacks_init, pass_rows, arg_rows, bound_rows, return_rows, receiver_rows, equals_rows, elem_rows, elems_rows, deref_rows, writes_null, write_rows, kind_rows, rows_at, rows_from, is_unset, unset_at, unset_from, ctor_rows, body_rows, bodies_rows}

pub no_left : {A : Type 0} (xs ys : List A) → xs ++ ys ≡ [] → xs ≡ []
no_left [] ys h = refl
no_left (x ∷ xs) ys h = cc

pub no_right : {A : Type 0} (xs ys : List A) → xs ++ ys ≡ [] → ys ≡ []
no_right [] ys h = h
no_right (x ∷ xs) ys h = cc

pub none_both : {A : Type 0} (xs ys : List A) → xs ≡ [] → ys ≡ [] → xs ++ ys ≡ []
none_both [] ys h k = k
none_both (x ∷ xs) ys h k = cc

-- two lists of rows, each empty where another one is
both_below : {A : Type 0} (xs ys us vs : List A) → (us ≡ [] → xs ≡ []) → (vs ≡ [] → ys ≡ []) → us ++ vs ≡ [] → xs ++ ys ≡ []
both_below xs ys us vs f g h = none_both xs ys (f (no_left us vs h)) (g (no_right us vs h))

and_keeps : (a b x : Bool) → (a ≡ true → b ≡ true) → (a && x) ≡ true → (b && x) ≡ true
and_keeps true b x f h = subst (λ z. (z && x) ≡ true) (sym (f refl)) h
and_keeps false b x f h = cc

both_keep : (a b u v : Bool) → (a ≡ true → b ≡ true) → (u ≡ true → v ≡ true) → (a && u) ≡ true → (b && v) ≡ true
both_keep true b true v f g h = subst (λ z. (z && v) ≡ true) (sym (f refl)) (g refl)
both_keep true b false v f g h = cc
both_keep false b u v f g h = cc

or_keeps : (a b u v : Bool) → (a ≡ true → b ≡ true) → (u ≡ true → v ≡ true) → (a || u) ≡ true → (b || v) ≡ true
or_keeps true b u v f g h = subst (λ z. (z || v) ≡ true) (sym (f refl)) refl
or_keeps false true u v f g h = refl
or_keeps false false u v f g h = g h

row_below : (p q : Bool) (span : Span) (code : Code) → (p ≡ true → q ≡ true) → row_if q span code ≡ [] → row_if p span code ≡ []
row_below false q span code f h = refl
row_below true q span code f h = absurd (let e : row_if true span code ≡ [] = subst (λ z. row_if z span code ≡ []) (f refl) h in cc)

null_below : (p q slot : Qualifier) → Included p q → lacks_null p slot ≡ true → lacks_null q slot ≡ true
null_below p q slot i h = and_keeps p.null q.null (not slot.null) i.null h

init_below : (p q slot : Qualifier) → Included p q → lacks_init p slot ≡ true → lacks_init q slot ≡ true
init_below p q slot i h =
    or_keeps (p.committed && not slot.committed) (q.committed && not slot.committed) (p.free && not slot.free) (q.free && not slot.free)
    (and_keeps p.committed q.committed (not slot.committed) i.committed)
    (and_keeps p.free q.free (not slot.free) i.free)
    h

some_keeps : (test other : ℕ → Bool) (xs : List ℕ) → ((x : ℕ) → test x ≡ true → other x ≡ true) → some_of test xs ≡ true → some_of other xs ≡ true
some_keeps test other [] f h = h
some_keeps test other (x ∷ xs) f h = or_keeps (test x) (other x) (some_of test xs) (some_of other xs) (f x) (some_keeps test other xs f) h

not_keeps : (a b : Bool) → (b ≡ true → a ≡ true) → not a ≡ true → not b ≡ true
not_keeps a false f h = refl
not_keeps true true f h = h
not_keeps false true f h = absurd (let e = f refl in cc)

module _ (e f : Env) (w : EnvWithin e f) where
  less : (r : ℕ) → Included (qual_at e r) (qual_at f r)
  less r = included (qual_at e r) (qual_at f r) (env_qual e f r w)

  pass_below : (code init : Code) (a : Operand) (slot : Qualifier) → pass_rows code init f a slot ≡ [] → pass_rows code init e a slot ≡ []
  pass_below code init a slot =
      let p = qual_at e a.reg.0 in
      let q = qual_at f a.reg.0 in
      both_below (row_if (lacks_null p slot) a.span code) (row_if (lacks_init p slot) a.span init) (row_if (lacks_null q slot) a.span code) (row_if (lacks_init q slot) a.span init)
      (row_below (lacks_null p slot) (lacks_null q slot) a.span code (null_below p q slot (less a.reg.0)))
      (row_below (lacks_init p slot) (lacks_init q slot) a.span init (init_below p q slot (less a.reg.0)))

  args_below : (qs : List Qualifier) (args : List Operand) → arg_rows f qs args ≡ [] → arg_rows e qs args ≡ []
  args_below [] args h = refl
  args_below (q ∷ qs) [] h = refl
  args_below (q ∷ qs) (a ∷ args) h = both_below (pass_rows _ _ e a q) (arg_rows e qs args) (pass_rows _ _ f a q) (arg_rows f qs args) (pass_below _ _ a q) (args_below qs args) h

  bound_below : (a : Operand) (bound : Option Qualifier) → bound_rows f a bound ≡ [] → bound_rows e a bound ≡ []
  bound_below a None h = refl
  bound_below a (Some q) h = pass_below _ _ a q h

  return_below : (v : Option Operand) (q : Qualifier) → return_rows f v q ≡ [] → return_rows e v q ≡ []
  return_below None q h = refl
  return_below (Some a) q h = pass_below _ _ a q h

  receiver_below : (r : Option Operand) (q : Qualifier) → receiver_rows f r q ≡ [] → receiver_rows e r q ≡ []
  receiver_below None q h = refl
  receiver_below (Some a) q h = row_below (lacks_init (qual_at e a.reg.0) q) (lacks_init (qual_at f a.reg.0) q) a.span _ (init_below (qual_at e a.reg.0) (qual_at f a.reg.0) q (less a.reg.0)) h

  equals_below : (op : StrOperation) (other : Option Operand) → equals_rows f op other ≡ [] → equals_rows e op other ≡ []
  equals_below Equals (Some a) h = row_below (qual_at e a.reg.0).free (qual_at f a.reg.0).free a.span _ (less a.reg.0).free h
  equals_below Equals None h = refl
  equals_below Length other h = refl
  equals_below IsEmpty other h = refl

  elem_below : (base : BaseType) (a : Operand) → elem_rows f base a ≡ [] → elem_rows e base a ≡ []
  elem_below base a =
      let p = qual_at e a.reg.0 in
      let q = qual_at f a.reg.0 in
      both_below (row_if (lacks_null p (elem_qual base)) a.span _) (row_if p.free a.span _) (row_if (lacks_null q (elem_qual base)) a.span _) (row_if q.free a.span _)
      (row_below (lacks_null p (elem_qual base)) (lacks_null q (elem_qual base)) a.span _ (null_below p q (elem_qual base) (less a.reg.0)))
      (row_below p.free q.free a.span _ (less a.reg.0).free)

  elems_below : (base : BaseType) (xs : List Operand) → elems_rows f base xs ≡ [] → elems_rows e base xs ≡ []
  elems_below base [] h = refl
  elems_below base (a ∷ xs) h = both_below (elem_rows e base a) (elems_rows e base xs) (elem_rows f base a) (elems_rows f base xs) (elem_below base a) (elems_below base xs) h

  deref_below : (r : Option Operand) → deref_rows f r ≡ [] → deref_rows e r ≡ []
  deref_below None h = refl
  deref_below (Some a) h = row_below (qual_at e a.reg.0).null (qual_at f a.reg.0).null a.span _ (less a.reg.0).null h

  module _ (P : Program) (s : List Qualifier) where
    write_below : (r v : Operand) (g : ℕ) → write_rows P s f r g v ≡ [] → write_rows P s e r g v ≡ []
    write_below r v g =
        let p = qual_at e v.reg.0 in
        let q = qual_at f v.reg.0 in
        let slot = field_qual P s g in
        let x = (qual_at e r.reg.0).committed in
        let y = (qual_at f r.reg.0).committed in
        both_below (row_if (writes_null P s p g) v.span _) (row_if (p.free && x) v.span _) (row_if (writes_null P s q g) v.span _) (row_if (q.free && y) v.span _)
        (row_below (writes_null P s p g) (writes_null P s q g) v.span _ (and_keeps p.null q.null (not slot.null || monotonic P g) (less v.reg.0).null))
        (row_below (p.free && x) (q.free && y) v.span _ (both_keep p.free q.free x y (less v.reg.0).free (less r.reg.0).committed))

    kind_below : (b : ℕ) (span : Span) (k : PointKind) → kind_rows P s b f span k ≡ [] → kind_rows P s b e span k ≡ []
    kind_below b span (Const dst v) h = refl
    kind_below b span (Move dst from bound) h = bound_below from bound h
    kind_below b span (Unary dst neg of) h = refl
    kind_below b span (Binary dst op l r) h = refl
    kind_below b span (Concat dst l r) h = refl
    kind_below b span (SameRef dst eq l r) h = refl
    kind_below b span (FieldRead dst r g) h = refl
    kind_below b span (FieldWrite r g v) h = write_below r v g.0 h
    kind_below b span (StaticRead dst g) h = refl
    kind_below b span (StaticWrite g v) h = refl
    kind_below b span (ElemRead dst r i) h = refl
    kind_below b span (ElemWrite r i v) h = elem_below (reg_base P b r.reg.0) v h
    kind_below b span (ArrayLen dst r) h = refl
    kind_below b span (NewArray dst base n) h = h
    kind_below b span (ArrayOf dst base xs) h = elems_below base xs h
    kind_below b span (New dst m args) h = args_below (slot_quals s (slots_of (method_at P m.0))) args h
    kind_below b span (CtorCall m args own) h = args_below (slot_quals s (slots_of (method_at P m.0))) args h
    kind_below b span (Call dst m r direct args) h =
        let qs = slot_quals s (slots_of (method_at P m.0)) in
        let q = receiver_of s (method_at P m.0) in
        both_below (arg_rows e qs args) (receiver_rows e r q) (arg_rows f qs args) (receiver_rows f r q) (args_below qs args) (receiver_below r q) h
    kind_below b span (StrOp dst op of other) h = equals_below op other h
    kind_below b span (Print of) h = refl
    kind_below b span (Cast dst of c) h = refl
    kind_below b span (TestInst of c og at_yes at_no) h = refl
    kind_below b span (TestNull of og at_null at_value) h = refl
    kind_below b span (Branch of at_yes at_no) h = refl
    kind_below b span (Goto to) h = refl
    kind_below b span (Return v) h = return_below v (result_of s (method_in P b)) h

    -- a field that is unassigned in the lesser environment is so in the greater one
    unset_below : (b : ℕ) → is_unset P s b e ≡ true → is_unset P s b f ≡ true
    unset_below b =
        some_keeps (λ g. not (field_qual P s g).null && not (is_on (λ k. eqb k g) (own_keys P b) e.assigned)) (λ g. not (field_qual P s g).null && not (is_on (λ k. eqb k g) (own_keys P b) f.assigned)) (own_keys P b)
        (λ g. both_keep (not (field_qual P s g).null) (not (field_qual P s g).null) (not (is_on (λ k. eqb k g) (own_keys P b) e.assigned)) (not (is_on (λ k. eqb k g) (own_keys P b) f.assigned)) (λ h. h)
        (not_keeps (is_on (λ k. eqb k g) (own_keys P b) e.assigned) (is_on (λ k. eqb k g) (own_keys P b) f.assigned) (is_on_above (λ k. eqb k g) (own_keys P b) e.assigned f.assigned w.assigned)))

module _ (P : Program) (s : List Qualifier) (b : ℕ) where
  pub point_below : (pt : Point) (o u : Option Env) → SlotWithin o u → rows_at P s b pt u ≡ [] → rows_at P s b pt o ≡ []
  point_below pt None u w h = refl
  point_below pt (Some e) None w h = absurd w
  point_below pt (Some e) (Some f) w h = both_below (deref_rows e (dereferences pt.kind)) (kind_rows P s b e pt.span pt.kind) (deref_rows f (dereferences pt.kind)) (kind_rows P s b f pt.span pt.kind) (deref_below e f w (dereferences pt.kind)) (kind_below e f w P s b pt.span pt.kind) h

  unset_at_below : (k : PointKind) (o u : Option Env) → SlotWithin o u → unset_at P s b k o ≡ true → unset_at P s b k u ≡ true
  unset_at_below (Return v) (Some e) (Some f) w h = unset_below e f w P s b h
  unset_at_below (Return v) (Some e) None w h = absurd w
  unset_at_below (Return v) None u w h = cc
  unset_at_below k o u w h = cc

  module _ (t u : Table) (w : TableWithin t u) where
    points_below : (pts : List Point) (p : ℕ) → rows_from P s b pts p u ≡ [] → rows_from P s b pts p t ≡ []
    points_below [] p h = refl
    points_below (pt ∷ pts) p h =
        both_below (rows_at P s b pt (env_in t p)) (rows_from P s b pts (p + 1) t) (rows_at P s b pt (env_in u p)) (rows_from P s b pts (p + 1) u)
        (point_below pt (env_in t p) (env_in u p) (table_at t u p w))
        (points_below pts (p + 1))
        h

    ends_below : (pts : List Point) (p : ℕ) → unset_from P s b pts p t ≡ true → unset_from P s b pts p u ≡ true
    ends_below [] p h = h
    ends_below (pt ∷ pts) p h =
        or_keeps (unset_at P s b pt.kind (env_in t p)) (unset_at P s b pt.kind (env_in u p)) (unset_from P s b pts (p + 1) t) (unset_from P s b pts (p + 1) u)
        (unset_at_below pt.kind (env_in t p) (env_in u p) (table_at t u p w))
        (ends_below pts (p + 1))
        h

    ctor_below : (m : Option Method) → ctor_rows P s b m u ≡ [] → ctor_rows P s b m t ≡ []
    ctor_below None h = refl
    ctor_below (Some m) h =
        let pts = points_of (body_at P b) in
        row_below (m.ctor && unset_from P s b pts 0 t) (m.ctor && unset_from P s b pts 0 u) m.span _
        (both_keep m.ctor m.ctor (unset_from P s b pts 0 t) (unset_from P s b pts 0 u) (λ k. k) (ends_below pts 0))
        h

    pub body_below : body_rows P s b u ≡ [] → body_rows P s b t ≡ []
    body_below =
        let pts = points_of (body_at P b) in
        both_below (rows_from P s b pts 0 t) (ctor_rows P s b (method_in P b) t) (rows_from P s b pts 0 u) (ctor_rows P s b (method_in P b) u)
        (points_below pts 0)
        (ctor_below (method_in P b))

pub bodies_below : (P : Program) (s : List Qualifier) (ts us : List (List (Option Env))) → ((b : ℕ) → TableWithin (slice_index_or ts b []) (slice_index_or us b [])) → (bs : List ℕ) → bodies_rows P s bs us ≡ [] → bodies_rows P s bs ts ≡ []
bodies_below P s ts us w [] h = refl
bodies_below P s ts us w (b ∷ bs) h =
    both_below (body_rows P s b (slice_index_or ts b [])) (bodies_rows P s bs ts) (body_rows P s b (slice_index_or us b [])) (bodies_rows P s bs us)
    (body_below P s b (slice_index_or ts b []) (slice_index_or us b []) (w b))
    (bodies_below P s ts us w bs)
    h
