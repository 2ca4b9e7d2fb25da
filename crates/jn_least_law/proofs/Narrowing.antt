-- Under tables of which all that is sent is within a signature, what breaks no rule under another one with the same written slots breaks none under it.
use Rattle.std.proofs.Common.{◌≡◌, ℕ, suc, ◌+◌, Bool, true, false, ◌&&◌, List, [], ◌∷◌, Option, Some, None, refl, subst, arith}
use Rattle.std.specs.Prelude.{slice_get, slice_index_or}
use Rattle.jn_base.specs.declared.place.Span.{Span}
use Rattle.jn_quals.specs.Qualifier.{Qualifier}
use Rattle.jn_quals.specs.Order.{no_qual}
use Rattle.jn_points.specs.declared.point.Point.{Point}
use Rattle.jn_points.specs.declared.point.PointKind.{PointKind}
use Rattle.jn_points.specs.declared.point.PointKind.TheVariants.{Const, Move, Unary, Binary, Concat, SameRef, FieldRead, FieldWrite, StaticRead, StaticWrite, ElemRead, ElemWrite, ArrayLen, NewArray, ArrayOf, New, CtorCall, Call, StrOp, Print, Cast, TestInst, TestNull, Branch, Goto, Return}
use Rattle.jn_points.specs.declared.program.Method.{Method}
use Rattle.jn_points.specs.declared.program.Program.{Program}
use Rattle.jn_points.specs.Lookup.{body_at, dereferences, method_at, method_in, points_of, slots_of}
use Rattle.jn_sigs.specs.Signature.{receiver_of, slot_quals}
use Rattle.jn_env.specs.Environment.{Env}
use Rattle.jn_env.specs.Keys.{own_keys}
use Rattle.jn_env.specs.Order.{Table, env_in}
use Rattle.jn_transfer.specs.Contributions.{Closed, arg_sends, is_inferred, kind_sends, receiver_sends, receiver_slot_of, result_slot_of, return_sends, unset_sends}
use Rattle.jn_transfer.specs.Rules.{arg_rows, bodies_rows, body_rows, ctor_rows, deref_rows, kind_rows, receiver_rows, rows_at, rows_from, unset_at, unset_from}
use Rattle.jn_cert_law.proofs.Shrink.{no_left, no_right, none_both}
use Rattle.jn_least_law.proofs.Slots.{Taken, args, none_row, or_keeps, receiver, result, row_none, taken_left, taken_right, unset, write}

module _ (P : Program) (s t : List Qualifier) (same : (n : ℕ) → is_inferred (slice_get P.slots n) ≡ false → slice_index_or s n no_qual ≡ slice_index_or t n no_qual) (b : ℕ) where
  kind_none : (e : Env) (span : Span) (k : PointKind) → Taken P s t same (kind_sends P b e k) → kind_rows P s b e span k ≡ [] → kind_rows P t b e span k ≡ []
  kind_none e span (Const dst v) h none = none
  kind_none e span (Move dst from bound) h none = none
  kind_none e span (Unary dst neg of) h none = none
  kind_none e span (Binary dst op l r) h none = none
  kind_none e span (Concat dst l r) h none = none
  kind_none e span (SameRef dst eq l r) h none = none
  kind_none e span (FieldRead dst r g) h none = none
  kind_none e span (FieldWrite r g v) h none = write P s t same e r v g.0 h none
  kind_none e span (StaticRead dst g) h none = none
  kind_none e span (StaticWrite g v) h none = none
  kind_none e span (ElemRead dst r i) h none = none
  kind_none e span (ElemWrite r i v) h none = none
  kind_none e span (ArrayLen dst r) h none = none
  kind_none e span (NewArray dst base n) h none = none
  kind_none e span (ArrayOf dst base xs) h none = none
  kind_none e span (New dst m xs) h none = args P s t same e (slots_of (method_at P m.0)) xs h none
  kind_none e span (CtorCall m xs own) h none = args P s t same e (slots_of (method_at P m.0)) xs h none
  kind_none e span (Call dst m r direct xs) h none =
      let slots = slots_of (method_at P m.0) in
      let first = arg_sends P e slots xs in
      let last = receiver_sends P e (receiver_slot_of (method_at P m.0)) r in
      none_both (arg_rows e (slot_quals t slots) xs) (receiver_rows e r (receiver_of t (method_at P m.0)))
      (args P s t same e slots xs (taken_left P s t same first last h) (no_left (arg_rows e (slot_quals s slots) xs) (receiver_rows e r (receiver_of s (method_at P m.0))) none))
      (receiver P s t same e (method_at P m.0) r (taken_right P s t same first last h) (no_right (arg_rows e (slot_quals s slots) xs) (receiver_rows e r (receiver_of s (method_at P m.0))) none))
  kind_none e span (StrOp dst op of other) h none = none
  kind_none e span (Print of) h none = none
  kind_none e span (Cast dst of c) h none = none
  kind_none e span (TestInst of c og at_yes at_no) h none = none
  kind_none e span (TestNull of og at_null at_value) h none = none
  kind_none e span (Branch of at_yes at_no) h none = none
  kind_none e span (Goto to) h none = none
  kind_none e span (Return v) h none = result P s t same e (method_in P b) v (taken_left P s t same (return_sends P e (result_slot_of (method_in P b)) v) (unset_sends P (own_keys P b) (own_keys P b) e.assigned) h) none

  -- what a reached point sends
  abbrev TakenAt : Point → Option Env → Type 0
  TakenAt pt o = (e : Env) → o ≡ Some e → Taken P s t same (kind_sends P b e pt.kind)

  point_none : (pt : Point) (o : Option Env) → TakenAt pt o → rows_at P s b pt o ≡ [] → rows_at P t b pt o ≡ []
  point_none pt None h none = none
  point_none pt (Some e) h none =
      let first = deref_rows e (dereferences pt.kind) in
      none_both first (kind_rows P t b e pt.span pt.kind) (no_left first (kind_rows P s b e pt.span pt.kind) none)
      (kind_none e pt.span pt.kind (h e refl) (no_right first (kind_rows P s b e pt.span pt.kind) none))

  unset_none : (k : PointKind) (o : Option Env) → ((e : Env) → o ≡ Some e → Taken P s t same (kind_sends P b e k)) → unset_at P t b k o ≡ true → unset_at P s b k o ≡ true
  unset_none (Return v) (Some e) h some = unset P s t same e (own_keys P b) (own_keys P b) (taken_right P s t same (return_sends P e (result_slot_of (method_in P b)) v) (unset_sends P (own_keys P b) (own_keys P b) e.assigned) (h e refl)) some
  unset_none (Return v) None h some = some
  unset_none k o h some = some

  module _ (T : Table) where
    -- what the points from p on send
    abbrev pub TakenFrom : List Point → ℕ → Type 0
    TakenFrom points p = (k : ℕ) (pt : Point) → slice_get points k ≡ Some pt → TakenAt pt (env_in T (p + k))

    taken_here : (pt : Point) (points : List Point) (p : ℕ) → TakenFrom (pt ∷ points) p → TakenAt pt (env_in T p)
    taken_here pt points p h = let here : p + 0 ≡ p = omega arith in subst (λ n. TakenAt pt (env_in T n)) here (h 0 pt refl)

    taken_later : (pt : Point) (points : List Point) (p : ℕ) → TakenFrom (pt ∷ points) p → TakenFrom points (p + 1)
    taken_later pt points p h k next is = let there : p + suc k ≡ (p + 1) + k = omega arith in subst (λ n. TakenAt next (env_in T n)) there (h (suc k) next is)

    points_none : (points : List Point) (p : ℕ) → TakenFrom points p → rows_from P s b points p T ≡ [] → rows_from P t b points p T ≡ []
    points_none [] p h none = refl
    points_none (pt ∷ points) p h none =
        let first = rows_at P s b pt (env_in T p) in
        let rest = rows_from P s b points (p + 1) T in
        none_both (rows_at P t b pt (env_in T p)) (rows_from P t b points (p + 1) T)
        (point_none pt (env_in T p) (taken_here pt points p h) (no_left first rest none))
        (points_none points (p + 1) (taken_later pt points p h) (no_right first rest none))

    ends_none : (points : List Point) (p : ℕ) → TakenFrom points p → unset_from P t b points p T ≡ true → unset_from P s b points p T ≡ true
    ends_none [] p h some = some
    ends_none (pt ∷ points) p h some = or_keeps (unset_at P t b pt.kind (env_in T p)) (unset_at P s b pt.kind (env_in T p)) (unset_from P t b points (p + 1) T) (unset_from P s b points (p + 1) T) (unset_none pt.kind (env_in T p) (taken_here pt points p h)) (ends_none points (p + 1) (taken_later pt points p h)) some

    ctor_none : (m : Option Method) → TakenFrom (points_of (body_at P b)) 0 → ctor_rows P s b m T ≡ [] → ctor_rows P t b m T ≡ []
    ctor_none None h none = none
    ctor_none (Some m) h none = row_none (m.ctor && unset_from P t b points 0 T) m.span _ (by m.ctor (unset_from P t b points 0 T) (unset_from P s b points 0 T) (ends_none points 0 h) (none_row (m.ctor && unset_from P s b points 0 T) m.span _ none))
      where
        points : List Point
        points = points_of (body_at P b)

        by : (c x y : Bool) → (x ≡ true → y ≡ true) → (c && y) ≡ false → (c && x) ≡ false
        by false x y f e = refl
        by true true y f e = absurd (let yes = f refl in cc)
        by true false y f e = refl

    pub body_none : TakenFrom (points_of (body_at P b)) 0 → body_rows P s b T ≡ [] → body_rows P t b T ≡ []
    body_none h none =
        let points = points_of (body_at P b) in
        none_both (rows_from P t b points 0 T) (ctor_rows P t b (method_in P b) T)
        (points_none points 0 h (no_left (rows_from P s b points 0 T) (ctor_rows P s b (method_in P b) T) none))
        (ctor_none (method_in P b) h (no_right (rows_from P s b points 0 T) (ctor_rows P s b (method_in P b) T) none))

module _ (P : Program) (s t : List Qualifier) (same : (n : ℕ) → is_inferred (slice_get P.slots n) ≡ false → slice_index_or s n no_qual ≡ slice_index_or t n no_qual) (tables : List Table) (closed : Closed P t tables) where
  pub bodies_none : (bs : List ℕ) → bodies_rows P s bs tables ≡ [] → bodies_rows P t bs tables ≡ []
  bodies_none [] none = refl
  bodies_none (b ∷ bs) none =
      let T = slice_index_or tables b [] in
      none_both (body_rows P t b T) (bodies_rows P t bs tables)
      (body_none P s t same b T (λ k pt is e reached. let here : 0 + k ≡ k = omega arith in closed b k pt e is (subst (λ n. env_in T n ≡ Some e) here reached)) (no_left (body_rows P s b T) (bodies_rows P s bs tables) none))
      (bodies_none bs (no_right (body_rows P s b T) (bodies_rows P s bs tables) none))
