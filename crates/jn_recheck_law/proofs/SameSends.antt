-- A body that does the same sends the same under a table.
use Rattle.std.proofs.Common.{◌≡◌, ℕ, ◌+◌, Bool, cond, eqb, List, [], ◌∷◌, ◌++◌, Option, Some, None, refl, ap, ◌∙◌}
use Rattle.std.specs.Prelude.{slice_get}
use Rattle.jn_base.specs.declared.number.SlotNo.{SlotNo}
use Rattle.jn_quals.specs.Qualifier.{Qualifier}
use Rattle.jn_quals.specs.Order.{null_only, settle, without_null}
use Rattle.jn_points.specs.declared.point.Literal.TheVariants.{Int, Truth, Str, Null}
use Rattle.jn_points.specs.declared.point.Operand.{Operand}
use Rattle.jn_points.specs.declared.point.Point.{Point}
use Rattle.jn_points.specs.declared.point.PointKind.{PointKind}
use Rattle.jn_points.specs.declared.point.PointKind.TheVariants.{Const, Move, Unary, Binary, Concat, SameRef, FieldRead, FieldWrite, StaticRead, StaticWrite, ElemRead, ElemWrite, ArrayLen, NewArray, ArrayOf, New, CtorCall, Call, StrOp, Print, Cast, TestInst, TestNull, Branch, Goto, Return}
use Rattle.jn_points.specs.declared.program.Program.{Program}
use Rattle.jn_points.specs.Lookup.{body_at, field_info, method_at, method_in, points_of, slots_of}
use Rattle.jn_env.specs.Environment.{Env}
use Rattle.jn_env.specs.Keys.{is_on, own_keys}
use Rattle.jn_env.specs.Order.{Table, env_in, qual_at}
use Rattle.jn_transfer.specs.Contributions.{arg_sends, field_slot_of, is_inferred, kind_sends, receiver_sends, receiver_slot_of, result_slot_of, return_sends, sends, unset_sends}
use Rattle.jn_contrib.specs.Sends.{body_sends, point_sends, sends_from}
use Rattle.jn_recheck_law.specs.Alike.{AllAlike, SameDeclarations, SameKind, SameSlot, acting_kind, bare_kind}
use Rattle.jn_recheck_law.specs.Reusable.{ActAlike}
use Rattle.jn_places_law.specs.Bare.{bare_kind as placeless, bare_operands, bare_optional}
use Rattle.jn_recheck_law.proofs.Seeing as see

module _ (names more : List (List ℕ)) (P Q : Program) (d : SameDeclarations names more P Q) where
  inferred_same : (n : ℕ) → is_inferred (slice_get P.slots n) ≡ is_inferred (slice_get Q.slots n)
  inferred_same n = see.alike_seen (SameSlot names more) is_inferred (λ i x y r. r.inferred) 0 P.slots Q.slots d.slots n

  pub send_same : (x : Option SlotNo) (q : Qualifier) → sends P x q ≡ sends Q x q
  send_same None q = refl
  send_same (Some n) q = ap (λ (b : Bool). cond b ((n.0, q) ∷ []) []) (inferred_same n.0)

  args_same : (e : Env) (xs : List (Option SlotNo)) (args : List Operand) → arg_sends P e xs args ≡ arg_sends Q e xs args
  args_same e [] args = refl
  args_same e (x ∷ xs) [] = refl
  args_same e (x ∷ xs) (a ∷ args) =
      let one = send_same x (qual_at e a.reg.0) in
      let rest = args_same e xs args in
      (λ i. one i ++ rest i)

  receivers_same : (e : Env) (slot : Option SlotNo) (r : Option Operand) → receiver_sends P e slot r ≡ receiver_sends Q e slot r
  receivers_same e slot None = refl
  receivers_same e slot (Some r) = send_same slot (without_null (qual_at e r.reg.0))

  returns_same : (e : Env) (slot : Option SlotNo) (v : Option Operand) → return_sends P e slot v ≡ return_sends Q e slot v
  returns_same e slot None = refl
  returns_same e slot (Some v) = send_same slot (qual_at e v.reg.0)

  unset_same : (fs keys : List ℕ) (bits : List Bool) → unset_sends P fs keys bits ≡ unset_sends Q fs keys bits
  unset_same [] keys bits = refl
  unset_same (f ∷ fs) keys bits =
      let one = send_same (field_slot_of (field_info P f)) null_only ∙ ap (λ (x : Option SlotNo). sends Q x null_only) (see.field_slot_seen names more P Q d f) in
      let rest = unset_same fs keys bits in
      (λ i. cond (is_on (λ k. eqb k f) keys bits) [] (one i) ++ rest i)

  module _ (b : ℕ) (same : ActAlike (body_at P b) (body_at Q b)) where
    call_args : (e : Env) (m : ℕ) (args : List Operand) → arg_sends P e (slots_of (method_at P m)) args ≡ arg_sends Q e (slots_of (method_at Q m)) args
    call_args e m args = args_same e (slots_of (method_at P m)) args ∙ ap (λ (xs : List (Option SlotNo)). arg_sends Q e xs args) (see.slots_seen names more P Q d m)

    kinds_same : (e : Env) (k : PointKind) → kind_sends P b e k ≡ kind_sends Q b e k
    kinds_same e (FieldWrite r f v) = send_same (field_slot_of (field_info P f.0)) (settle (qual_at e v.reg.0)) ∙ ap (λ (x : Option SlotNo). sends Q x (settle (qual_at e v.reg.0))) (see.field_slot_seen names more P Q d f.0)
    kinds_same e (New dst m args) = call_args e m.0 args
    kinds_same e (CtorCall m args own) = call_args e m.0 args
    kinds_same e (Call dst m r direct args) =
        let one = call_args e m.0 args in
        let rest = receivers_same e (receiver_slot_of (method_at P m.0)) r ∙ ap (λ (x : Option SlotNo). receiver_sends Q e x r) (see.receiver_slot_seen names more P Q d m.0) in
        (λ i. one i ++ rest i)
    kinds_same e (Return v) =
        let one = returns_same e (result_slot_of (method_in P b)) v ∙ ap (λ (x : Option SlotNo). return_sends Q e x v) (see.given_result_seen names more P Q d b same) in
        let rest = unset_same (own_keys P b) (own_keys P b) e.assigned ∙ ap (λ (keys : List ℕ). unset_sends Q keys keys e.assigned) (see.own_seen names more P Q d b same) in
        (λ i. one i ++ rest i)
    kinds_same e (Const dst value) = refl
    kinds_same e (Move dst from bound) = refl
    kinds_same e (Unary dst neg of) = refl
    kinds_same e (Binary dst op l r) = refl
    kinds_same e (Concat dst l r) = refl
    kinds_same e (SameRef dst eq l r) = refl
    kinds_same e (FieldRead dst r f) = refl
    kinds_same e (StaticRead dst f) = refl
    kinds_same e (StaticWrite f v) = refl
    kinds_same e (ElemRead dst r i) = refl
    kinds_same e (ElemWrite r i v) = refl
    kinds_same e (ArrayLen dst r) = refl
    kinds_same e (NewArray dst base n) = refl
    kinds_same e (ArrayOf dst base xs) = refl
    kinds_same e (StrOp dst op of other) = refl
    kinds_same e (Print of) = refl
    kinds_same e (Cast dst of c) = refl
    kinds_same e (TestInst of c og at_yes at_no) = refl
    kinds_same e (TestNull of og at_null at_value) = refl
    kinds_same e (Branch of at_yes at_no) = refl
    kinds_same e (Goto to) = refl

    kind_blind : (e : Env) (k : PointKind) → kind_sends P b e k ≡ kind_sends P b e (bare_kind k)
    kind_blind e (Const dst (Int n)) = refl
    kind_blind e (Const dst (Truth n)) = refl
    kind_blind e (Const dst (Str n)) = refl
    kind_blind e (Const dst Null) = refl
    kind_blind e k = refl

    args_placed : (e : Env) (xs : List (Option SlotNo)) (args : List Operand) → arg_sends P e xs args ≡ arg_sends P e xs (bare_operands args)
    args_placed e [] args = refl
    args_placed e (x ∷ xs) [] = refl
    args_placed e (x ∷ xs) (a ∷ args) =
        let rest = args_placed e xs args in
        (λ i. sends P x (qual_at e a.reg.0) ++ rest i)

    receivers_placed : (e : Env) (slot : Option SlotNo) (r : Option Operand) → receiver_sends P e slot r ≡ receiver_sends P e slot (bare_optional r)
    receivers_placed e slot None = refl
    receivers_placed e slot (Some r) = refl

    returns_placed : (e : Env) (slot : Option SlotNo) (v : Option Operand) → return_sends P e slot v ≡ return_sends P e slot (bare_optional v)
    returns_placed e slot None = refl
    returns_placed e slot (Some v) = refl

    kinds_placed : (e : Env) (k : PointKind) → kind_sends P b e k ≡ kind_sends P b e (placeless k)
    kinds_placed e (New dst m args) = args_placed e (slots_of (method_at P m.0)) args
    kinds_placed e (CtorCall m args own) = args_placed e (slots_of (method_at P m.0)) args
    kinds_placed e (Call dst m r direct args) =
        let one = args_placed e (slots_of (method_at P m.0)) args in
        let rest = receivers_placed e (receiver_slot_of (method_at P m.0)) r in
        (λ i. one i ++ rest i)
    kinds_placed e (Return v) =
        let one = returns_placed e (result_slot_of (method_in P b)) v in
        (λ i. one i ++ unset_sends P (own_keys P b) (own_keys P b) e.assigned)
    kinds_placed e k = refl

    point_same : (x y : Point) (o : Option Env) → acting_kind x.kind ≡ acting_kind y.kind → point_sends P b x o ≡ point_sends Q b y o
    point_same x y None k = refl
    point_same x y (Some e) k = see.by_act (kind_sends P b e) (kind_blind e) (kinds_placed e) x.kind y.kind k ∙ kinds_same e y.kind

    from_same : (i : ℕ) (xs ys : List Point) (p : ℕ) (T : Table) → AllAlike SameKind i xs ys → sends_from P b xs p T ≡ sends_from Q b ys p T
    from_same i [] [] p T al = refl
    from_same i [] (y ∷ ys) p T al = absurd al
    from_same i (x ∷ xs) [] p T al = absurd al
    from_same i (x ∷ xs) (y ∷ ys) p T al =
        let one = point_same x y (env_in T p) al.0.kind in
        let rest = from_same (i + 1) xs ys (p + 1) T al.1 in
        (λ j. one j ++ rest j)

    pub sends_kept : (T : Table) → body_sends P b T ≡ body_sends Q b T
    sends_kept T = from_same 0 (points_of (body_at P b)) (points_of (body_at Q b)) 0 T (see.points_alike names more P Q d b same)
