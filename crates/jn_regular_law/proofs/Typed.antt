-- Points of a regular program without rows of base typing have the base types that soundness asks.
use Rattle.std.proofs.Common.{◌≡◌, ℕ, Bool, true, false, not, List, [], ◌∷◌, ◌++◌, length, Option, Some, None, inl, refl, sym, ap, ◌∙◌, subst, cond, arith}
use Rattle.std.specs.List.{Contains}
use Rattle.std.proofs.lemmas.List.Elements.{Contains-append_left, Contains-append_right, Contains-push}
use Rattle.std.proofs.lemmas.Bool.{and_parts}
use Rattle.jn_base.specs.declared.place.Row.{Row}
use Rattle.jn_base.specs.declared.code.Code.TheVariants.{J7, J10}
use Rattle.jn_points.specs.declared.point.Operand.{Operand}
use Rattle.jn_points.specs.declared.point.StrOperation.{StrOperation}
use Rattle.jn_points.specs.declared.point.StrOperation.TheVariants.{Length}
use Rattle.jn_points.specs.declared.point.Literal.TheVariants.{Int as IntOf, Truth, Str, Null}
use Rattle.jn_points.specs.declared.point.BaseType.{BaseType}
use Rattle.jn_points.specs.declared.point.BaseType.TheVariants.{Int, Bool as BoolBase, Void, Null as NullBase, Ref, Array}
use Rattle.jn_points.specs.declared.point.Point.{Point}
use Rattle.jn_points.specs.declared.point.PointKind.{PointKind}
use Rattle.jn_points.specs.declared.point.PointKind.TheVariants.{Const, Move, Unary, Binary, Concat, SameRef, FieldRead, FieldWrite, StaticRead, ElemRead, ElemWrite, ArrayLen, NewArray, ArrayOf, New, CtorCall, Call, StrOp, Cast, Return}
use Rattle.jn_points.specs.declared.program.Field.{Field}
use Rattle.jn_points.specs.declared.program.Program.{Program}
use Rattle.jn_points.specs.Lookup.{elem_base, is_ref_base, class_of, params_of, result_base_of, field_info, field_base, field_base_of, owner, point_at, reg_base, method_at, method_in}
use Rattle.jn_points.specs.Members.{fits}
use Rattle.jn_points.specs.BaseRows.{Want, Within, Elements, Valued, NoBaseRows, is_primitive, is_void, string_base, suits, suits_otherwise, operand_rows, all_rows, argument_rows, optional_rows, returned, type_rows}
use Rattle.jn_points.specs.BaseTyping.{AllTyped, ArgsTyped, PointTyped, ReturnTyped, ThisTyped}
use Rattle.jn_points.specs.Regular.{NamesFields, NamesMethods, RegularField, Typed, is_sum, operation_base, static_field}
use Rattle.jn_soundness.proofs.Fits.{fits_self}

abbrev pub NoRows : List Row → Type 0
NoRows xs = (row : Row) → Contains xs row → ⊥

pub none_left : (xs ys : List Row) → NoRows (xs ++ ys) → NoRows xs
none_left xs ys n row h = n row (Contains-append_left xs ys row h)

pub none_right : (xs ys : List Row) → NoRows (xs ++ ys) → NoRows ys
none_right xs ys n row h = n row (Contains-append_right xs ys row h)

sum_plain : (t : Bool) → is_ref_base (cond t Int BoolBase) ≡ false
sum_plain true = refl
sum_plain false = refl

operation_plain : (op : StrOperation) → is_ref_base (operation_base op) ≡ false
operation_plain Length = refl
operation_plain op = refl

pub primitive_plain : (t : BaseType) → is_primitive t ≡ true → is_ref_base t ≡ false
primitive_plain Int h = refl
primitive_plain BoolBase h = refl
primitive_plain Void h = refl
primitive_plain NullBase h = cc
primitive_plain (Ref c) h = cc
primitive_plain (Array e m) h = cc

module _ (P : Program) where
  fits_to : (a b : BaseType) → b ≡ a → fits P a b ≡ true
  fits_to a b e = subst (λ z. fits P a z ≡ true) (sym e) (fits_self P a)

  -- operands without a row are of the type that is wanted
  pub suited : (b : ℕ) (w : Want) (a : Operand) → NoRows (operand_rows P b w a) → suits P w (reg_base P b a.reg.0) ≡ true
  suited b w a n = by (suits P w (reg_base P b a.reg.0)) n
    where
      row : Row
      row = record { span = a.span; code = cond (suits_otherwise P w (reg_base P b a.reg.0)) J10 J7 }

      by : (t : Bool) → NoRows (cond t [] (row ∷ [])) → t ≡ true
      by true n = refl
      by false n = absurd (n row (Contains-push [] row))

  within : (b : ℕ) (t : BaseType) (a : Operand) → NoRows (operand_rows P b (Within t) a) → fits P (reg_base P b a.reg.0) t ≡ true
  within b t a n = (and_parts (not (is_void (reg_base P b a.reg.0))) (fits P (reg_base P b a.reg.0) t) (suited b (Within t) a n)).1

  args_typed : (b : ℕ) (ts : List BaseType) (args : List Operand) → length args ≡ length ts → NoRows (argument_rows P b ts args) → ArgsTyped P b ts args
  args_typed b ts [] l n = tt
  args_typed b [] (a ∷ args) l n = cc
  args_typed b (t ∷ ts) (a ∷ args) l n = (within b t a (none_left (operand_rows P b (Within t) a) (argument_rows P b ts args) n), args_typed b ts args (omega (l, arith)) (none_right (operand_rows P b (Within t) a) (argument_rows P b ts args) n))

  all_typed : (b : ℕ) (t : BaseType) (args : List Operand) → NoRows (all_rows P b (Within t) args) → AllTyped P b t args
  all_typed b t [] n = tt
  all_typed b t (a ∷ args) n = (within b t a (none_left (operand_rows P b (Within t) a) (all_rows P b (Within t) args) n), all_typed b t args (none_right (operand_rows P b (Within t) a) (all_rows P b (Within t) args) n))

  this_typed : (b m : ℕ) (r : Option Operand) → NoRows (optional_rows P b (Within (Ref (record { 0 = class_of (method_at P m) }))) r) → ThisTyped P b m r
  this_typed b m None n = tt
  this_typed b m (Some r) n = within b (Ref (record { 0 = class_of (method_at P m) })) r n

  return_typed : (b : ℕ) (v : Option Operand) → NoRows (optional_rows P b (returned P b) v) → ReturnTyped P b v
  return_typed b None n = tt
  return_typed b (Some v) n = λ valued. within b (result_base_of (method_in P b)) v (subst (λ t. NoRows (operand_rows P b (cond t Valued (Within (result_base_of (method_in P b)))) v)) valued n)

  static_plain : ((f : ℕ) (x : Field) → field_info P f ≡ Some x → RegularField P f x) → (f : ℕ) → static_field P (field_info P f) ≡ true → is_ref_base (field_base P f) ≡ false
  static_plain R f s = by (field_info P f) refl s
    where
      by : (o : Option Field) → field_info P f ≡ o → static_field P o ≡ true → is_ref_base (field_base_of o) ≡ false
      by None e s = cc
      by (Some x) e s = primitive_plain x.base ((R f x e).static s).0

  -- `this` fits the constructor that a constructor calls
  abbrev pub ThisFits : ℕ → PointKind → Type 0
  ThisFits b (CtorCall m args own) = fits P (reg_base P b 0) (Ref (record { 0 = class_of (method_at P m.0) })) ≡ true
  ThisFits b kind = Unit {0}

  module _ (R : (f : ℕ) (x : Field) → field_info P f ≡ Some x → RegularField P f x) (b : ℕ) where
    pub kind_typed : (k : PointKind) → Typed P b k → NamesFields P k → NamesMethods P k → ThisFits b k → NoRows (type_rows P b k) → PointTyped P b k
    kind_typed (Const dst (IntOf i)) t f m c n = ap is_ref_base t
    kind_typed (Const dst (Truth v)) t f m c n = ap is_ref_base t
    kind_typed (Const dst (Str v)) t f m c n = fits_to string_base (reg_base P b dst.0) t
    kind_typed (Const dst Null) t f m c n = ap is_ref_base t
    kind_typed (Move dst from bound) t f m c n = within b (reg_base P b dst.0) from n
    kind_typed (Unary dst neg of) t f m c n = ap is_ref_base t
    kind_typed (Binary dst op l r) t f m c n = ap is_ref_base t ∙ sum_plain (is_sum op)
    kind_typed (Concat dst l r) t f m c n = fits_to string_base (reg_base P b dst.0) t
    kind_typed (SameRef dst eq l r) t f m c n = ap is_ref_base t
    kind_typed (FieldRead dst r x) t f m c n = fits_to (field_base P x.0) (reg_base P b dst.0) t
    kind_typed (FieldWrite r x v) t f m c n = within b (field_base P x.0) v (none_right (operand_rows P b (Within (Ref (record { 0 = owner P x.0 }))) r) (operand_rows P b (Within (field_base P x.0)) v) n)
    kind_typed (StaticRead dst x) t f m c n = ap is_ref_base t ∙ static_plain R x.0 f
    kind_typed (ElemRead dst r i) t f m c n = (suited b Elements r (none_left (operand_rows P b Elements r) (operand_rows P b (Within Int) i) n), fits_to (elem_base (reg_base P b r.reg.0)) (reg_base P b dst.0) t)
    kind_typed (ElemWrite r i v) t f m c n =
        let front = operand_rows P b Elements r ++ operand_rows P b (Within Int) i in
        let last = operand_rows P b (Within (elem_base (reg_base P b r.reg.0))) v in
        (suited b Elements r (none_left (operand_rows P b Elements r) (operand_rows P b (Within Int) i) (none_left front last n)), within b (elem_base (reg_base P b r.reg.0)) v (none_right front last n))
    kind_typed (ArrayLen dst r) t f m c n = ap is_ref_base t
    kind_typed (NewArray dst base count) t f m c n = (t.0, fits_to base (reg_base P b dst.0) t.1)
    kind_typed (ArrayOf dst base xs) t f m c n = (t.0, fits_to base (reg_base P b dst.0) t.1, all_typed b (elem_base base) xs n)
    kind_typed (New dst k args) t f m c n = (fits_to (Ref (record { 0 = class_of (method_at P k.0) })) (reg_base P b dst.0) t, args_typed b (params_of (method_at P k.0)) args m.2 n)
    kind_typed (CtorCall k args own) t f m c n = (c, args_typed b (params_of (method_at P k.0)) args m.1 n)
    kind_typed (Call None k r direct args) t f m c n =
        let front = optional_rows P b (Within (Ref (record { 0 = class_of (method_at P k.0) }))) r in
        let last = argument_rows P b (params_of (method_at P k.0)) args in
        (this_typed b k.0 r (none_left front last n), tt, args_typed b (params_of (method_at P k.0)) args m.1 (none_right front last n))
    kind_typed (Call (Some dst) k r direct args) t f m c n =
        let front = optional_rows P b (Within (Ref (record { 0 = class_of (method_at P k.0) }))) r in
        let last = argument_rows P b (params_of (method_at P k.0)) args in
        (this_typed b k.0 r (none_left front last n), (t.0, fits_to (result_base_of (method_at P k.0)) (reg_base P b dst.0) t.1), args_typed b (params_of (method_at P k.0)) args m.1 (none_right front last n))
    kind_typed (StrOp dst op of other) t f m c n = ap is_ref_base t ∙ operation_plain op
    kind_typed (Cast dst of k) t f m c n = fits_to (Ref k) (reg_base P b dst.0) t
    kind_typed (Return v) t f m c n = return_typed b v n
    kind_typed k t f m c n = tt

  pub no_type_rows : NoBaseRows P → (b p : ℕ) (pt : Point) → point_at P b p ≡ Some pt → NoRows (type_rows P b pt.kind)
  no_type_rows none b p pt is row h = none row (inl (record { b = b; p = p; pt = pt; there = is; broken = h }))
