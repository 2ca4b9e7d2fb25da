-- Base typing: the base types that the registers of a point have (JLS 8, 15 and 5.2), and what overriding pairs agree in.
use Rattle.std.specs.Prelude.{ℕ, suc, ◌≡◌, true, false, cond, eqb, List, [], ◌∷◌, Option, Some, None}
use Rattle.jn_base.specs.declared.number.RegNo.{RegNo}
use Rattle.jn_base.specs.declared.number.ClassNo.{ClassNo}
use Rattle.jn_points.specs.declared.point.Operand.{Operand}
use Rattle.jn_points.specs.declared.point.BaseType.{BaseType}
use Rattle.jn_points.specs.declared.point.BaseType.TheVariants.{Ref, Array}
use Rattle.jn_points.specs.declared.point.Elem.TheVariants.{Ref as RefElem}
use Rattle.jn_points.specs.declared.point.Literal.{Literal}
use Rattle.jn_points.specs.declared.point.Literal.TheVariants.{Null, Str}
use Rattle.jn_points.specs.declared.point.Point.{Point}
use Rattle.jn_points.specs.declared.point.PointKind.{PointKind}
use Rattle.jn_points.specs.declared.point.PointKind.TheVariants.{Const, Move, Unary, Binary, Concat, SameRef, FieldRead, FieldWrite, StaticRead, ElemRead, ElemWrite, ArrayLen, NewArray, ArrayOf, New, CtorCall, Call, StrOp, Cast, Return}
use Rattle.jn_points.specs.declared.program.Class.{Class}
use Rattle.jn_points.specs.declared.program.Method.{Method}
use Rattle.jn_points.specs.declared.program.Program.{Program}
use Rattle.jn_points.specs.Lookup.{elem_base, is_array, is_ref_base, class_of, body_of, ctor_of, static_of, params_of, result_base_of, class_info, point_at, reg_base, field_base, method_at, method_in}
use Rattle.jn_points.specs.Members.{some_of, sub, fits, is_pair}
use Rattle.jn_points.specs.BaseRows.{is_void}

-- subtypes are an order, with nothing but Object above Object and nothing but String within String (JLS 8, 4.10.2)
pub record Ordered (P : Program) : Type 0 where
  pub trans : (a b c : ℕ) → sub P a b ≡ true → sub P b c ≡ true → sub P a c ≡ true
  pub object : (c : ℕ) → sub P 0 c ≡ true → c ≡ 0
  pub string : (c : ℕ) → sub P c 1 ≡ true → c ≡ 1

module _ (P : Program) where
  -- each argument is of its parameter's type or one within it, and there are no more arguments than parameters
  abbrev pub ArgsTyped : ℕ → List BaseType → List Operand → Type 0
  ArgsTyped b ts [] = Unit {0}
  ArgsTyped b [] (a ∷ args) = ⊥
  ArgsTyped b (t ∷ ts) (a ∷ args) = (fits P (reg_base P b a.reg.0) t ≡ true) × ArgsTyped b ts args

  -- each operand is of the type or of one within it, as the elements of an array are
  abbrev pub AllTyped : ℕ → BaseType → List Operand → Type 0
  AllTyped b t [] = Unit {0}
  AllTyped b t (a ∷ args) = (fits P (reg_base P b a.reg.0) t ≡ true) × AllTyped b t args

  -- the register has no reference type
  abbrev pub PlainReg : ℕ → ℕ → Type 0
  PlainReg b r = is_ref_base (reg_base P b r) ≡ false

  -- a literal's register can hold it: null where it is of reference type, a text where String is within it, others where it is plain
  abbrev pub ConstTyped : ℕ → ℕ → Literal → Type 0
  ConstTyped b r Null = is_ref_base (reg_base P b r) ≡ true
  ConstTyped b r (Str n) = fits P (Ref (record { 0 = 1 })) (reg_base P b r) ≡ true
  ConstTyped b r l = PlainReg b r

  -- a receiver is of the class that declares the method or of one within it; where there is none, nothing is asked
  abbrev pub ThisTyped : ℕ → ℕ → Option Operand → Type 0
  ThisTyped b m None = Unit {0}
  ThisTyped b m (Some r) = fits P (reg_base P b r.reg.0) (Ref (record { 0 = class_of (method_at P m) })) ≡ true

  -- a point that takes a method's result names one that has a result
  abbrev pub ResultTyped : ℕ → ℕ → Option RegNo → Type 0
  ResultTyped b m None = Unit {0}
  ResultTyped b m (Some dst) = (is_void (result_base_of (method_at P m)) ≡ false) × (fits P (result_base_of (method_at P m)) (reg_base P b dst.0) ≡ true)

  -- what a method with result gives is within it; nobody takes what a void one gives
  abbrev pub ReturnTyped : ℕ → Option Operand → Type 0
  ReturnTyped b None = Unit {0}
  ReturnTyped b (Some v) = is_void (result_base_of (method_in P b)) ≡ false → fits P (reg_base P b v.reg.0) (result_base_of (method_in P b)) ≡ true

  -- the registers of a point of body b have the base types that its row wants
  abbrev pub PointTyped : ℕ → PointKind → Type 0
  PointTyped b (Const dst l) = ConstTyped b dst.0 l
  PointTyped b (Move dst from bound) = fits P (reg_base P b from.reg.0) (reg_base P b dst.0) ≡ true
  PointTyped b (Unary dst neg of) = PlainReg b dst.0
  PointTyped b (Binary dst op l r) = PlainReg b dst.0
  PointTyped b (Concat dst l r) = fits P (Ref (record { 0 = 1 })) (reg_base P b dst.0) ≡ true
  PointTyped b (SameRef dst eq l r) = PlainReg b dst.0
  PointTyped b (FieldRead dst r f) = fits P (field_base P f.0) (reg_base P b dst.0) ≡ true
  PointTyped b (FieldWrite r f s) = fits P (reg_base P b s.reg.0) (field_base P f.0) ≡ true
  PointTyped b (StaticRead dst f) = PlainReg b dst.0
  PointTyped b (ElemRead dst r i) = (is_array (reg_base P b r.reg.0) ≡ true) × (fits P (elem_base (reg_base P b r.reg.0)) (reg_base P b dst.0) ≡ true)
  PointTyped b (ElemWrite r i s) = (is_array (reg_base P b r.reg.0) ≡ true) × (fits P (reg_base P b s.reg.0) (elem_base (reg_base P b r.reg.0)) ≡ true)
  PointTyped b (ArrayLen dst r) = PlainReg b dst.0
  PointTyped b (NewArray dst base n) = (is_array base ≡ true) × (fits P base (reg_base P b dst.0) ≡ true)
  PointTyped b (ArrayOf dst base xs) = (is_array base ≡ true) × (fits P base (reg_base P b dst.0) ≡ true) × AllTyped b (elem_base base) xs
  PointTyped b (New dst m args) = (fits P (Ref (record { 0 = class_of (method_at P m.0) })) (reg_base P b dst.0) ≡ true) × ArgsTyped b (params_of (method_at P m.0)) args
  PointTyped b (CtorCall m args own) = (fits P (reg_base P b 0) (Ref (record { 0 = class_of (method_at P m.0) })) ≡ true) × ArgsTyped b (params_of (method_at P m.0)) args
  PointTyped b (Call dst m r direct args) = ThisTyped b m.0 r × ResultTyped b m.0 dst × ArgsTyped b (params_of (method_at P m.0)) args
  PointTyped b (StrOp dst op of other) = PlainReg b dst.0
  PointTyped b (Cast dst of c) = fits P (Ref c) (reg_base P b dst.0) ≡ true
  PointTyped b (Return v) = ReturnTyped b v
  PointTyped b k = Unit {0}

  -- the registers from a place on take values of the types
  abbrev pub StartsWith : (ℕ → BaseType) → List BaseType → Type 0
  StartsWith base [] = Unit {0}
  StartsWith base (t ∷ ts) = (fits P t (base 0) ≡ true) × StartsWith (λ r. base (suc r)) ts

  -- what a body of the method is given
  abbrev pub given_bases : ℕ → List BaseType
  given_bases m = cond (static_of (method_at P m)) (params_of (method_at P m)) (Ref (record { 0 = class_of (method_at P m) }) ∷ params_of (method_at P m))

  -- what an overriding pair agrees in (JLS 8, 8.4.8)
  pub record PairTyped (m k : ℕ) : Type 0 where
    pub params : params_of (method_at P m) ≡ params_of (method_at P k)
    pub result : fits P (result_base_of (method_at P m)) (result_base_of (method_at P k)) ≡ true
    pub both : static_of (method_at P k) ≡ false → static_of (method_at P m) ≡ false

  -- points, entries and overriding pairs are of their base types, and a class's parent is among its supertypes
  pub record BaseTyped : Type 0 where
    pub ordered : Ordered P
    pub parents : (c : ℕ) (x : Class) (p : ClassNo) → class_info P c ≡ Some x → x.parent ≡ Some p → some_of (λ s. eqb s.0 p.0) x.supers ≡ true
    pub points : (b p : ℕ) (pt : Point) → point_at P b p ≡ Some pt → PointTyped b pt.kind
    pub starts : (m b : ℕ) → body_of (method_at P m) ≡ Some b → StartsWith (reg_base P b) (given_bases m)
    pub ctor_reg : (m b : ℕ) → body_of (method_at P m) ≡ Some b → ctor_of (method_at P m) ≡ true → reg_base P b 0 ≡ Ref (record { 0 = class_of (method_at P m) })
    pub pairs : (m k : ℕ) → is_pair P m k ≡ true → PairTyped m k
    pub mains : (m : ℕ) (x : Method) → method_at P m ≡ Some x → x.is_main ≡ true → x.params ≡ Array (RefElem (record { 0 = 1 })) false ∷ []
