-- The rows J7 of a point are those of its operands whose types don't fit.
use Rattle.std.proofs.Common.{◌≡◌, ℕ, Bool, true, false, cond, ◌||◌, List, [], ◌∷◌, ◌++◌, Option, Some, None, refl, sym, ap, ◌∙◌, map}
use Rattle.std.specs.Prelude.{filter}
use Rattle.std.proofs.lemmas.List.{map-append}
use Rattle.std.proofs.lemmas.List.Elements.{filter-append}
use Rattle.jn_base.specs.declared.code.Code.TheVariants.{J7, J10}
use Rattle.jn_base.specs.declared.place.Row.{Row}
use Rattle.jn_base.specs.declared.place.Span.{Span}
use Rattle.jn_points.specs.declared.point.BaseType.{BaseType}
use Rattle.jn_points.specs.declared.point.BaseType.TheVariants.{Int, Bool as BoolBase, Ref}
use Rattle.jn_points.specs.declared.point.Operand.{Operand}
use Rattle.jn_points.specs.declared.point.Operator.{Operator}
use Rattle.jn_points.specs.declared.point.Operator.TheVariants.{Equal, NotEqual}
use Rattle.jn_points.specs.declared.point.PointKind.{PointKind}
use Rattle.jn_points.specs.declared.point.PointKind.TheVariants.{Const, Move, Unary, Binary, Concat, SameRef, FieldRead, FieldWrite, StaticRead, StaticWrite, ElemRead, ElemWrite, ArrayLen, NewArray, ArrayOf, New, CtorCall, Call, StrOp, Print, Cast, TestInst, TestNull, Branch, Goto, Return}
use Rattle.jn_points.specs.declared.program.Program.{Program}
use Rattle.jn_points.specs.Lookup.{elem_base, class_of, params_of, result_base_of, reg_base, field_base, owner, method_at, method_in}
use Rattle.jn_points.specs.BaseRows as rules
use Rattle.jn_points.specs.BaseRows.{all_rows, argument_rows, binary_rows, is_void, operand_rows, optional_rows, string_base, suits, suits_otherwise, type_rows}
use Rattle.jn_type_notes.specs.declared.mismatch.Mismatch.{Mismatch}
use Rattle.jn_basecheck.specs.declared.types.Want.{Want}
use Rattle.jn_basecheck.specs.declared.types.Want.TheVariants.{Within, Primitive, Same as SameAs, Reference, Elements, Joinable, Printable, Valued}
use Rattle.jn_basecheck.specs.Wanted.{meant}
use Rattle.jn_type_notes.specs.Mismatched.{all_found, arguments_found, binary_found, is_type_row, kind_found, operand_found, optional_found, returned, row_of}

abbrev pub Same : List Row → List Mismatch → Type 0
Same rows ms = filter is_type_row rows ≡ map row_of ms

both : (rows more : List Row) (ms ns : List Mismatch) → Same rows ms → Same more ns → Same (rows ++ more) (ms ++ ns)
both rows more ms ns g h = filter-append is_type_row rows more ∙ ap (λ xs. xs ++ filter is_type_row more) g ∙ ap (λ xs. map row_of ms ++ xs) h ∙ sym (map-append row_of ms ns)

by : (s o : Bool) (span : Span) (t : BaseType) (w : Want) → Same (cond s [] (record { span = span; code = cond o J10 J7 } ∷ [])) (cond (s || o) [] (record { span = span; found = t; want = w } ∷ []))
by true o span t w = refl
by false true span t w = refl
by false false span t w = refl

module _ (P : Program) (b : ℕ) where
  one : (w : Want) (a : Operand) → Same (operand_rows P b (meant w) a) (operand_found P b w a)
  one w a = by (suits P (meant w) (reg_base P b a.reg.0)) (suits_otherwise P (meant w) (reg_base P b a.reg.0)) a.span (reg_base P b a.reg.0) w

  two : (v w : Want) (x y : Operand) → Same (operand_rows P b (meant v) x ++ operand_rows P b (meant w) y) (operand_found P b v x ++ operand_found P b w y)
  two v w x y = both (operand_rows P b (meant v) x) (operand_rows P b (meant w) y) (operand_found P b v x) (operand_found P b w y) (one v x) (one w y)

  all_same : (w : Want) (xs : List Operand) → Same (all_rows P b (meant w) xs) (all_found P b w xs)
  all_same w [] = refl
  all_same w (x ∷ xs) = both (operand_rows P b (meant w) x) (all_rows P b (meant w) xs) (operand_found P b w x) (all_found P b w xs) (one w x) (all_same w xs)

  arguments_same : (ts : List BaseType) (xs : List Operand) → Same (argument_rows P b ts xs) (arguments_found P b ts xs)
  arguments_same [] [] = refl
  arguments_same (t ∷ ts) [] = refl
  arguments_same [] (x ∷ xs) = refl
  arguments_same (t ∷ ts) (x ∷ xs) = both (operand_rows P b (rules.Within t) x) (argument_rows P b ts xs) (operand_found P b (Within t) x) (arguments_found P b ts xs) (one (Within t) x) (arguments_same ts xs)

  optional_same : (w : Want) (o : Option Operand) → Same (optional_rows P b (meant w) o) (optional_found P b w o)
  optional_same w None = refl
  optional_same w (Some x) = one w x

  binary_same : (op : Operator) (l r : Operand) → Same (binary_rows P b op l r) (binary_found P b op l r)
  binary_same Equal l r = two Primitive (SameAs (reg_base P b l.reg.0)) l r
  binary_same NotEqual l r = two Primitive (SameAs (reg_base P b l.reg.0)) l r
  binary_same op l r = two (Within Int) (Within Int) l r

  meant_returned : meant (returned P b) ≡ rules.returned P b
  meant_returned = go (is_void (result_base_of (method_in P b)))
    where
      go : (v : Bool) → meant (cond v Valued (Within (result_base_of (method_in P b)))) ≡ cond v rules.Valued (rules.Within (result_base_of (method_in P b)))
      go true = refl
      go false = refl

  pub kind_same : (k : PointKind) → Same (type_rows P b k) (kind_found P b k)
  kind_same (Move dst from bound) = one (Within (reg_base P b dst.0)) from
  kind_same (Unary dst negate of) = one (Within Int) of
  kind_same (Binary dst op l r) = binary_same op l r
  kind_same (Concat dst l r) = two Joinable Joinable l r
  kind_same (SameRef dst equal l r) = two Reference Reference l r
  kind_same (FieldRead dst object field) = one (Within (Ref (record { 0 = owner P field.0 }))) object
  kind_same (FieldWrite object field value) = two (Within (Ref (record { 0 = owner P field.0 }))) (Within (field_base P field.0)) object value
  kind_same (StaticWrite field value) = one (Within (field_base P field.0)) value
  kind_same (ElemRead dst array index) = two Elements (Within Int) array index
  kind_same (ElemWrite array index value) =
      let w : Want = Within (elem_base (reg_base P b array.reg.0)) in
      both (operand_rows P b rules.Elements array ++ operand_rows P b (rules.Within Int) index) (operand_rows P b (meant w) value) (operand_found P b Elements array ++ operand_found P b (Within Int) index) (operand_found P b w value) (two Elements (Within Int) array index) (one w value)
  kind_same (ArrayLen dst array) = one Elements array
  kind_same (NewArray dst base count) = one (Within Int) count
  kind_same (ArrayOf dst base values) = all_same (Within (elem_base base)) values
  kind_same (New dst ctor args) = arguments_same (params_of (method_at P ctor.0)) args
  kind_same (CtorCall ctor args own) = arguments_same (params_of (method_at P ctor.0)) args
  kind_same (Call dst method receiver direct args) =
      let w : Want = Within (Ref (record { 0 = class_of (method_at P method.0) })) in
      both (optional_rows P b (meant w) receiver) (argument_rows P b (params_of (method_at P method.0)) args) (optional_found P b w receiver) (arguments_found P b (params_of (method_at P method.0)) args) (optional_same w receiver) (arguments_same (params_of (method_at P method.0)) args)
  kind_same (StrOp dst op of other) = both (operand_rows P b (rules.Within string_base) of) (optional_rows P b rules.Reference other) (operand_found P b (Within string_base) of) (optional_found P b Reference other) (one (Within string_base) of) (optional_same Reference other)
  kind_same (Print of) = one Printable of
  kind_same (Cast dst of class) = one Reference of
  kind_same (TestInst of class origin at_yes at_no) = one Reference of
  kind_same (TestNull of origin at_null at_value) = one Reference of
  kind_same (Branch of at_yes at_no) = one (Within BoolBase) of
  kind_same (Return value) = ap (λ (w : rules.Want). filter is_type_row (optional_rows P b w value)) (sym meant_returned) ∙ optional_same (returned P b) value
  kind_same (Const dst value) = refl
  kind_same (StaticRead dst field) = refl
  kind_same (Goto to') = refl
