-- What holds of all that a body's points send, where it holds of what goes to fields, parameters, receivers and results.
use Rattle.std.proofs.Common.{◌≡◌, inl, inr, ℕ, Bool, true, false, cond, List, [], ◌∷◌, ◌++◌, Option, refl, sym, subst}
use Rattle.std.specs.Prelude.{eqb}
use Rattle.jn_quals.specs.Qualifier.{Qualifier}
use Rattle.jn_quals.specs.Order.{null_only, settle}
use Rattle.jn_points.specs.declared.point.Operand.{Operand}
use Rattle.jn_points.specs.declared.point.PointKind.{PointKind}
use Rattle.jn_points.specs.declared.point.PointKind.TheVariants.{Const, Move, Unary, Binary, Concat, SameRef, FieldRead, FieldWrite, StaticRead, StaticWrite, ElemRead, ElemWrite, ArrayLen, NewArray, ArrayOf, New, CtorCall, Call, StrOp, Print, Cast, TestInst, TestNull, Branch, Goto, Return}
use Rattle.jn_points.specs.declared.program.Program.{Program}
use Rattle.jn_points.specs.Lookup.{field_info, method_at, method_in, slots_of}
use Rattle.jn_env.specs.Environment.{Env}
use Rattle.jn_env.specs.Order.{qual_at}
use Rattle.jn_env.specs.Keys.{is_on, own_keys}
use Rattle.jn_transfer.specs.Contributions.{IsSent, arg_sends, field_slot_of, kind_sends, receiver_sends, receiver_slot_of, result_slot_of, return_sends, sends, unset_sends}

-- what holds of each item
abbrev pub Each : {A : Type 0} → (A → Type 0) → List A → Type 0
Each F [] = Unit {0}
Each F (x ∷ xs) = F x × Each F xs

pub each_append : {A : Type 0} (F : A → Type 0) (xs ys : List A) → Each F xs → Each F ys → Each F (xs ++ ys)
each_append F [] ys a b = b
each_append F (x ∷ xs) ys a b = (a.0, each_append F xs ys a.1 b)

pub each_sent : (F : ℕ × Qualifier → Type 0) (xs : List (ℕ × Qualifier)) (x : ℕ × Qualifier) → Each F xs → IsSent x xs → F x
each_sent F [] x h m = absurd m
each_sent F (y ∷ xs) x h (inl e) = subst F (sym e) h.0
each_sent F (y ∷ xs) x h (inr m) = each_sent F xs x h.1 m

module _ (P : Program) (F : ℕ × Qualifier → Type 0) where
  -- to a field goes nothing that is free
  pub record HoldsOfSends : Type 0 where
    pub fields : (f : ℕ) (q : Qualifier) → q.free ≡ false → Each F (sends P (field_slot_of (field_info P f)) q)
    pub parameters : (m : ℕ) (e : Env) (args : List Operand) → Each F (arg_sends P e (slots_of (method_at P m)) args)
    pub receivers : (m : ℕ) (e : Env) (r : Option Operand) → Each F (receiver_sends P e (receiver_slot_of (method_at P m)) r)
    pub results : (b : ℕ) (e : Env) (v : Option Operand) → Each F (return_sends P e (result_slot_of (method_in P b)) v)

  module _ (h : HoldsOfSends) where
    unless_set : (t : Bool) (f : ℕ) → Each F (cond t [] (sends P (field_slot_of (field_info P f)) null_only))
    unless_set true f = tt
    unless_set false f = h.fields f null_only refl

    unset : (fs keys : List ℕ) (bits : List Bool) → Each F (unset_sends P fs keys bits)
    unset [] keys bits = tt
    unset (f ∷ fs) keys bits = each_append F (cond (is_on (λ k. eqb k f) keys bits) [] (sends P (field_slot_of (field_info P f)) null_only)) (unset_sends P fs keys bits) (unless_set (is_on (λ k. eqb k f) keys bits) f) (unset fs keys bits)

    pub points_send : (b : ℕ) (e : Env) (k : PointKind) → Each F (kind_sends P b e k)
    points_send b e (FieldWrite r f v) = h.fields f.0 (settle (qual_at e v.reg.0)) refl
    points_send b e (New dst m args) = h.parameters m.0 e args
    points_send b e (CtorCall m args own) = h.parameters m.0 e args
    points_send b e (Call dst m r direct args) = each_append F (arg_sends P e (slots_of (method_at P m.0)) args) (receiver_sends P e (receiver_slot_of (method_at P m.0)) r) (h.parameters m.0 e args) (h.receivers m.0 e r)
    points_send b e (Return v) = each_append F (return_sends P e (result_slot_of (method_in P b)) v) (unset_sends P (own_keys P b) (own_keys P b) e.assigned) (h.results b e v) (unset (own_keys P b) (own_keys P b) e.assigned)
    points_send b e (Const dst value) = tt
    points_send b e (Move dst from bound) = tt
    points_send b e (Unary dst negate of) = tt
    points_send b e (Binary dst op l r) = tt
    points_send b e (Concat dst l r) = tt
    points_send b e (SameRef dst eq l r) = tt
    points_send b e (FieldRead dst r f) = tt
    points_send b e (StaticRead dst f) = tt
    points_send b e (StaticWrite f v) = tt
    points_send b e (ElemRead dst r i) = tt
    points_send b e (ElemWrite r i v) = tt
    points_send b e (ArrayLen dst r) = tt
    points_send b e (NewArray dst base n) = tt
    points_send b e (ArrayOf dst base xs) = tt
    points_send b e (StrOp dst op of other) = tt
    points_send b e (Print of) = tt
    points_send b e (Cast dst of c) = tt
    points_send b e (TestInst of c og at_yes at_no) = tt
    points_send b e (TestNull of og at_null at_value) = tt
    points_send b e (Branch of at_yes at_no) = tt
    points_send b e (Goto to) = tt
