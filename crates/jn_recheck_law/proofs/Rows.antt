-- A reusable body has the rows that it had.
use Rattle.std.proofs.Common.{◌≡◌, ℕ, ◌+◌, Bool, not, ◌&&◌, ◌||◌, eqb, List, [], ◌∷◌, ◌++◌, Option, Some, None, refl, ap, ◌∙◌}
use Rattle.jn_base.specs.declared.place.Row.{Row}
use Rattle.jn_base.specs.declared.place.Span.{Span}
use Rattle.jn_base.specs.declared.code.Code.TheVariants.{CtorFields, Field as FieldOf, FieldInit as FieldInitOf}
use Rattle.jn_quals.specs.Qualifier.{Qualifier}
use Rattle.jn_points.specs.declared.point.BaseType.{BaseType}
use Rattle.jn_points.specs.declared.point.Literal.TheVariants.{Int, Truth, Str, Null}
use Rattle.jn_points.specs.declared.point.Point.{Point}
use Rattle.jn_points.specs.declared.point.PointKind.{PointKind}
use Rattle.jn_points.specs.declared.point.PointKind.TheVariants.{Const, Move, Unary, Binary, Concat, SameRef, FieldRead, FieldWrite, StaticRead, StaticWrite, ElemRead, ElemWrite, ArrayLen, NewArray, ArrayOf, New, CtorCall, Call, StrOp, Print, Cast, TestInst, TestNull, Branch, Goto, Return}
use Rattle.jn_points.specs.declared.program.Method.{Method}
use Rattle.jn_points.specs.declared.program.Program.{Program}
use Rattle.jn_points.specs.Lookup.{body_at, ctor_of, dereferences, method_at, method_in, points_of, slots_of}
use Rattle.jn_points.specs.Members.{some_of}
use Rattle.jn_sigs.specs.Signature.{field_qual, slot_quals}
use Rattle.jn_env.specs.Environment.{Env}
use Rattle.jn_env.specs.Keys.{is_on, own_keys}
use Rattle.jn_env.specs.Order.{Table, env_in, qual_at}
use Rattle.jn_transfer.specs.Rules.{arg_rows, body_rows, ctor_rows, deref_rows, elem_rows, is_unset, kind_rows, receiver_rows, return_rows, row_if, rows_at, rows_from, unset_at, unset_from}
use Rattle.jn_recheck_law.specs.Alike.{AllAlike, SameDeclarations, SamePoint, bare_kind}
use Rattle.jn_recheck_law.specs.Slots.{Agree}
use Rattle.jn_recheck_law.specs.RuleReads.{field_slots, fields_slots, kind_slots, method_slots, points_slots, rule_reads}
use Rattle.jn_recheck_law.specs.Reusable.{ActAlike, SameBodies, span_of}
use Rattle.jn_recheck_law.proofs.Seeing as see
use Rattle.jn_recheck_law.proofs.Agreed as agreed
use Rattle.jn_recheck_law.proofs.RuleSlots.{method_agrees, own_agree, points_agree}

abbrev span_or : Span → Option Span → Span
span_or x None = x
span_or x (Some y) = y

module _ (names more : List (List ℕ)) (P Q : Program) (s t : List Qualifier) (d : SameDeclarations names more P Q) (b : ℕ) (same : SameBodies names more (body_at P b) (body_at Q b)) (h : Agree s t (rule_reads Q b)) where
  acting : ActAlike (body_at P b) (body_at Q b)
  acting = see.acts names more (body_at P b) (body_at Q b) same

  params : (m : ℕ) → Agree s t (method_slots (method_at Q m)) → slot_quals s (slots_of (method_at P m)) ≡ slot_quals t (slots_of (method_at Q m))
  params m a = agreed.params_same names more P Q s t d m (agreed.agree_params s t (method_at Q m) a)

  kind_same : (k : PointKind) (e : Env) (span : Span) → Agree s t (kind_slots Q k) → kind_rows P s b e span k ≡ kind_rows Q t b e span k
  kind_same (FieldWrite r f v) e span a =
      let q = agreed.field_qual_same names more P Q s t d f.0 a in
      let m = see.monotonic_seen names more P Q d f.0 in
      (λ i. row_if ((qual_at e v.reg.0).null && (not (q i).null || m i)) v.span FieldOf ++ row_if ((qual_at e v.reg.0).free && (qual_at e r.reg.0).committed) v.span FieldInitOf)
  kind_same (ElemWrite r i v) e span a = ap (λ (base : BaseType). elem_rows e base v) (see.base_seen names more P Q d b acting r.reg.0)
  kind_same (New dst m args) e span a = ap (λ (qs : List Qualifier). arg_rows e qs args) (params m.0 a)
  kind_same (CtorCall m args own) e span a = ap (λ (qs : List Qualifier). arg_rows e qs args) (params m.0 a)
  kind_same (Call dst m r direct args) e span a =
      let qs = params m.0 a in
      let q = agreed.receiver_same names more P Q s t d m.0 (agreed.agree_receiver s t (method_at Q m.0) a) in
      (λ i. arg_rows e (qs i) args ++ receiver_rows e r (q i))
  kind_same (Return v) e span a = ap (return_rows e v) (agreed.given_result names more P Q s t d b acting (agreed.agree_result s t (method_in Q b) (method_agrees Q s t b h)))
  kind_same (Const dst value) e span a = refl
  kind_same (Move dst from bound) e span a = refl
  kind_same (Unary dst neg of) e span a = refl
  kind_same (Binary dst op l r) e span a = refl
  kind_same (Concat dst l r) e span a = refl
  kind_same (SameRef dst eq l r) e span a = refl
  kind_same (FieldRead dst r f) e span a = refl
  kind_same (StaticRead dst f) e span a = refl
  kind_same (StaticWrite f v) e span a = refl
  kind_same (ElemRead dst r i) e span a = refl
  kind_same (ArrayLen dst r) e span a = refl
  kind_same (NewArray dst base n) e span a = refl
  kind_same (ArrayOf dst base xs) e span a = refl
  kind_same (StrOp dst op of other) e span a = refl
  kind_same (Print of) e span a = refl
  kind_same (Cast dst of c) e span a = refl
  kind_same (TestInst of c og at_yes at_no) e span a = refl
  kind_same (TestNull of og at_null at_value) e span a = refl
  kind_same (Branch of at_yes at_no) e span a = refl
  kind_same (Goto to) e span a = refl

  kind_blind : (e : Env) (span : Span) (k : PointKind) → (deref_rows e (dereferences k) ++ kind_rows P s b e span k) ≡ (deref_rows e (dereferences (bare_kind k)) ++ kind_rows P s b e span (bare_kind k))
  kind_blind e span (Const dst (Int n)) = refl
  kind_blind e span (Const dst (Truth n)) = refl
  kind_blind e span (Const dst (Str n)) = refl
  kind_blind e span (Const dst Null) = refl
  kind_blind e span k = refl

  at_same : (x y : Point) (o : Option Env) → x.span ≡ y.span → bare_kind x.kind ≡ bare_kind y.kind → Agree s t (kind_slots Q y.kind) → rows_at P s b x o ≡ rows_at Q t b y o
  at_same x y None sp k a = refl
  at_same x y (Some e) sp k a =
      ap (λ (span : Span). deref_rows e (dereferences x.kind) ++ kind_rows P s b e span x.kind) sp
      ∙ see.by_kind (λ kind. deref_rows e (dereferences kind) ++ kind_rows P s b e y.span kind) (kind_blind e y.span) x.kind y.kind k
      ∙ ap (λ (rows : List Row). deref_rows e (dereferences y.kind) ++ rows) (kind_same y.kind e y.span a)

  from_same : (i : ℕ) (xs ys : List Point) (p : ℕ) (T : Table) → AllAlike (SamePoint names more) i xs ys → Agree s t (points_slots Q ys) → rows_from P s b xs p T ≡ rows_from Q t b ys p T
  from_same i [] [] p T al a = refl
  from_same i [] (y ∷ ys) p T al a = absurd al
  from_same i (x ∷ xs) [] p T al a = absurd al
  from_same i (x ∷ xs) (y ∷ ys) p T al a =
      let one = at_same x y (env_in T p) al.0.span al.0.kind (agreed.agree_left s t (kind_slots Q y.kind) (points_slots Q ys) a) in
      let rest = from_same (i + 1) xs ys (p + 1) T al.1 (agreed.agree_right s t (kind_slots Q y.kind) (points_slots Q ys) a) in
      (λ j. one j ++ rest j)

  -- the fields that a constructor has to assign
  some_unset : (on : ℕ → Bool) (fs : List ℕ) → Agree s t (fields_slots Q fs) → some_of (λ f. not (field_qual P s f).null && not (on f)) fs ≡ some_of (λ f. not (field_qual Q t f).null && not (on f)) fs
  some_unset on [] a = refl
  some_unset on (f ∷ fs) a =
      let q = agreed.field_qual_same names more P Q s t d f (agreed.agree_left s t (field_slots Q f) (fields_slots Q fs) a) in
      let rest = some_unset on fs (agreed.agree_right s t (field_slots Q f) (fields_slots Q fs) a) in
      (λ i. (not (q i).null && not (on f)) || rest i)

  unset_same : (e : Env) → is_unset P s b e ≡ is_unset Q t b e
  unset_same e =
      ap (λ (keys : List ℕ). some_of (λ f. not (field_qual P s f).null && not (is_on (λ k. eqb k f) keys e.assigned)) keys) (see.own_seen names more P Q d b acting)
      ∙ some_unset (λ f. is_on (λ k. eqb k f) (own_keys Q b) e.assigned) (own_keys Q b) (own_agree Q s t b h)

  unset_blind : (o : Option Env) (k : PointKind) → unset_at P s b k o ≡ unset_at P s b (bare_kind k) o
  unset_blind o (Const dst (Int n)) = refl
  unset_blind o (Const dst (Truth n)) = refl
  unset_blind o (Const dst (Str n)) = refl
  unset_blind o (Const dst Null) = refl
  unset_blind o k = refl

  unset_at_same : (o : Option Env) (k : PointKind) → unset_at P s b k o ≡ unset_at Q t b k o
  unset_at_same None (Return v) = refl
  unset_at_same (Some e) (Return v) = unset_same e
  unset_at_same o (Const dst value) = refl
  unset_at_same o k = refl

  unset_from_same : (i : ℕ) (xs ys : List Point) (p : ℕ) (T : Table) → AllAlike (SamePoint names more) i xs ys → unset_from P s b xs p T ≡ unset_from Q t b ys p T
  unset_from_same i [] [] p T al = refl
  unset_from_same i [] (y ∷ ys) p T al = absurd al
  unset_from_same i (x ∷ xs) [] p T al = absurd al
  unset_from_same i (x ∷ xs) (y ∷ ys) p T al =
      let one = see.by_kind (λ kind. unset_at P s b kind (env_in T p)) (unset_blind (env_in T p)) x.kind y.kind al.0.kind ∙ unset_at_same (env_in T p) y.kind in
      let rest = unset_from_same (i + 1) xs ys (p + 1) T al.1 in
      (λ j. one j || rest j)

  ctor_same : (o p : Option Method) (T : Table) → ctor_of o ≡ ctor_of p → span_of o ≡ span_of p → unset_from P s b (points_of (body_at P b)) 0 T ≡ unset_from Q t b (points_of (body_at Q b)) 0 T → ctor_rows P s b o T ≡ ctor_rows Q t b p T
  ctor_same None None T c e u = refl
  ctor_same None (Some y) T c e u = absurd cc
  ctor_same (Some x) None T c e u = absurd cc
  ctor_same (Some x) (Some y) T c e u =
      let sp = ap (span_or x.span) e in
      (λ i. row_if (c i && u i) (sp i) CtorFields)

  pub rows_same : (T : Table) → span_of (method_in P b) ≡ span_of (method_in Q b) → body_rows P s b T ≡ body_rows Q t b T
  rows_same T span =
      let one = from_same 0 (points_of (body_at P b)) (points_of (body_at Q b)) 0 T (see.placed_alike names more (body_at P b) (body_at Q b) same) (points_agree Q s t b h) in
      let unset = unset_from_same 0 (points_of (body_at P b)) (points_of (body_at Q b)) 0 T (see.placed_alike names more (body_at P b) (body_at Q b) same) in
      let rest = ctor_same (method_in P b) (method_in Q b) T (see.ctor_seen names more P Q d b acting) span unset in
      (λ i. one i ++ rest i)
