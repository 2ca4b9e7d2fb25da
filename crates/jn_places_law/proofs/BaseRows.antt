-- Programs that differ in places have rows J7 to J10 of the same codes, at the same points of the same bodies.
use Rattle.std.proofs.Common.{◌≡◌, inl, inr, ℕ, zero, suc, ◌<◌, ◌≤◌, Bool, true, false, cond, not, ◌&&◌, List, [], ◌∷◌, ◌++◌, length, Option, Some, None, refl, sym, ap, ◌∙◌, subst, arith}
use Rattle.std.specs.Prelude.{option_map, slice_get, slice_index_or}
use Rattle.std.specs.List.{Contains}
use Rattle.std.proofs.Math.Path.{fun_ext}
use Rattle.jn_base.specs.declared.code.Code.{Code}
use Rattle.jn_base.specs.declared.code.Code.TheVariants.{J7, J8, J9, J10}
use Rattle.jn_base.specs.declared.place.Row.{Row}
use Rattle.jn_points.specs.declared.point.BaseType.{BaseType}
use Rattle.jn_points.specs.declared.point.BaseType.TheVariants.{Int, Bool as BoolBase, Ref}
use Rattle.jn_points.specs.declared.point.Operand.{Operand}
use Rattle.jn_points.specs.declared.point.Operator.{Operator}
use Rattle.jn_points.specs.declared.point.Operator.TheVariants.{Equal, NotEqual}
use Rattle.jn_points.specs.declared.point.Point.{Point}
use Rattle.jn_points.specs.declared.point.PointKind.{PointKind}
use Rattle.jn_points.specs.declared.point.PointKind.TheVariants.{Const, Move, Unary, Binary, Concat, SameRef, FieldRead, FieldWrite, StaticRead, StaticWrite, ElemRead, ElemWrite, ArrayLen, NewArray, ArrayOf, New, CtorCall, Call, StrOp, Print, Cast, TestInst, TestNull, Branch, Goto, Return}
use Rattle.jn_points.specs.declared.program.Method.{Method}
use Rattle.jn_points.specs.declared.program.Program.{Program}
use Rattle.jn_points.specs.Edges.{edges_of}
use Rattle.jn_points.specs.Lookup.{class_of, elem_base, field_base, method_at, method_in, owner, params_of, point_at, points_of, body_at, reg_base, result_base_of}
use Rattle.jn_points.specs.Members.{type_within}
use Rattle.jn_points.specs.Operands.{operand_if, operands}
use Rattle.jn_points.specs.Paths.{Avoids, Path}
use Rattle.jn_points.specs.Shaped.{LeadsTo, writes}
use Rattle.jn_points.specs.BaseRows.{Want, Within, Primitive, Same as SameAs, Reference, Elements, Joinable, Printable, Valued, IsBaseRow, NoBaseRows, all_rows, argument_rows, binary_rows, given, given_count, is_void, name_of, operand_rows, optional_rows, other_nullity, result_rows, returned, rows_with, string_base, suits, type_rows}
use Rattle.jn_places_law.specs.Bare.{Alike, bare, bare_kind, bare_method, bare_operand, bare_operands, bare_optional, bare_point, bare_points, codes_of}
use Rattle.jn_places_law.proofs.Forms.{field_base_is}
use Rattle.jn_places_law.proofs.Lookups.{class_bare, method_at_is, method_in_is, owner_is, points_is, reg_base_is, sub_is}
use Rattle.jn_places_law.proofs.Bodies.{params_bare}
use Rattle.jn_places_law.proofs.Meanings.{result_bare}
use Rattle.jn_places_law.proofs.RowForms.{Same, both}

-- ---- a row among others of the same codes

abbrev Partner : List Row → Row → Type 0
Partner ys x = (y : Row) × Contains ys y × (y.code ≡ x.code)

partner : (xs ys : List Row) → Same xs ys → (x : Row) (k : ℕ) → k < length xs → slice_index_or xs k x ≡ x → Partner ys x
partner [] ys h x k lt e = absurd (omega (arith, lt))
partner (a ∷ xs) [] h x k lt e = absurd (let f : ◌≡◌ {A = List Code} (a.code ∷ codes_of xs) [] = h in cc)
partner (a ∷ xs) (b ∷ ys) h x zero lt e =
    let first : a.code ≡ b.code = (let f : ◌≡◌ {A = List Code} (a.code ∷ codes_of xs) (b.code ∷ codes_of ys) = h in cc) in
    (b, (0, omega arith, refl), sym first ∙ ap (λ (r : Row). r.code) e)
partner (a ∷ xs) (b ∷ ys) h x (suc k) lt e =
    let more : Same xs ys = (let f : ◌≡◌ {A = List Code} (a.code ∷ codes_of xs) (b.code ∷ codes_of ys) = h in cc) in
    let y = partner xs ys more x k (omega (arith, lt)) e in
    let inside = y.1.1 in
    (y.0, (suc y.1.0, omega (arith, inside), y.1.2), y.2)

has_partner : (xs ys : List Row) (x : Row) → Same xs ys → Contains xs x → Partner ys x
has_partner xs ys x h c = partner xs ys h x c.0 c.1 c.2

-- ---- points without places

edges_bare : (k : PointKind) (p : ℕ) → edges_of (bare_kind k) p ≡ edges_of k p
edges_bare (Const dst value) p = refl
edges_bare (Move dst from bound) p = refl
edges_bare (Unary dst negate of) p = refl
edges_bare (Binary dst op l r) p = refl
edges_bare (Concat dst l r) p = refl
edges_bare (SameRef dst eq l r) p = refl
edges_bare (FieldRead dst r f) p = refl
edges_bare (FieldWrite r f v) p = refl
edges_bare (StaticRead dst f) p = refl
edges_bare (StaticWrite f v) p = refl
edges_bare (ElemRead dst r i) p = refl
edges_bare (ElemWrite r i v) p = refl
edges_bare (ArrayLen dst r) p = refl
edges_bare (NewArray dst base n) p = refl
edges_bare (ArrayOf dst base xs) p = refl
edges_bare (New dst m args) p = refl
edges_bare (CtorCall m args own) p = refl
edges_bare (Call dst m r direct args) p = refl
edges_bare (StrOp dst op of other) p = refl
edges_bare (Print of) p = refl
edges_bare (Cast dst of c) p = refl
edges_bare (TestInst of c og at_yes at_no) p = refl
edges_bare (TestNull of og at_null at_value) p = refl
edges_bare (Branch of at_yes at_no) p = refl
edges_bare (Goto to) p = refl
edges_bare (Return v) p = refl

writes_bare : (k : PointKind) → writes (bare_kind k) ≡ writes k
writes_bare (Const dst value) = refl
writes_bare (Move dst from bound) = refl
writes_bare (Unary dst negate of) = refl
writes_bare (Binary dst op l r) = refl
writes_bare (Concat dst l r) = refl
writes_bare (SameRef dst eq l r) = refl
writes_bare (FieldRead dst r f) = refl
writes_bare (FieldWrite r f v) = refl
writes_bare (StaticRead dst f) = refl
writes_bare (StaticWrite f v) = refl
writes_bare (ElemRead dst r i) = refl
writes_bare (ElemWrite r i v) = refl
writes_bare (ArrayLen dst r) = refl
writes_bare (NewArray dst base n) = refl
writes_bare (ArrayOf dst base xs) = refl
writes_bare (New dst m args) = refl
writes_bare (CtorCall m args own) = refl
writes_bare (Call None m r direct args) = refl
writes_bare (Call (Some dst) m r direct args) = refl
writes_bare (StrOp dst op of other) = refl
writes_bare (Print of) = refl
writes_bare (Cast dst of c) = refl
writes_bare (TestInst of c og at_yes at_no) = refl
writes_bare (TestNull of og at_null at_value) = refl
writes_bare (Branch of at_yes at_no) = refl
writes_bare (Goto to) = refl
writes_bare (Return v) = refl

optional_bare : (o : Option Operand) (args : List Operand) → operand_if (bare_optional o) ++ bare_operands args ≡ bare_operands (operand_if o ++ args)
optional_bare None args = refl
optional_bare (Some a) args = refl

one_bare : (o : Option Operand) → operand_if (bare_optional o) ≡ bare_operands (operand_if o)
one_bare None = refl
one_bare (Some a) = refl

operands_bare : (k : PointKind) → operands (bare_kind k) ≡ bare_operands (operands k)
operands_bare (Const dst value) = refl
operands_bare (Move dst from bound) = refl
operands_bare (Unary dst negate of) = refl
operands_bare (Binary dst op l r) = refl
operands_bare (Concat dst l r) = refl
operands_bare (SameRef dst eq l r) = refl
operands_bare (FieldRead dst r f) = refl
operands_bare (FieldWrite r f v) = refl
operands_bare (StaticRead dst f) = refl
operands_bare (StaticWrite f v) = refl
operands_bare (ElemRead dst r i) = refl
operands_bare (ElemWrite r i v) = refl
operands_bare (ArrayLen dst r) = refl
operands_bare (NewArray dst base n) = refl
operands_bare (ArrayOf dst base xs) = refl
operands_bare (New dst m args) = refl
operands_bare (CtorCall m args own) = refl
operands_bare (Call dst m r direct args) = optional_bare r args
operands_bare (StrOp dst op of other) = ap (λ z. bare_operand of ∷ z) (one_bare other)
operands_bare (Print of) = refl
operands_bare (Cast dst of c) = refl
operands_bare (TestInst of c og at_yes at_no) = refl
operands_bare (TestNull of og at_null at_value) = refl
operands_bare (Branch of at_yes at_no) = refl
operands_bare (Goto to) = refl
operands_bare (Return v) = one_bare v

-- an operand that is read, and one of a point that differs in places

kept_operand : (xs : List Operand) (a : Operand) (k : ℕ) → k < length xs → slice_index_or xs k a ≡ a → Contains (bare_operands xs) (bare_operand a)
kept_operand [] a k lt e = absurd (omega (arith, lt))
kept_operand (x ∷ xs) a zero lt e = (0, omega arith, ap bare_operand e)
kept_operand (x ∷ xs) a (suc k) lt e = let r = kept_operand xs a k (omega (arith, lt)) e in let inside = r.1 in (suc r.0, omega (arith, inside), r.2)

found_operand : (xs : List Operand) (a : Operand) (k : ℕ) → k < length (bare_operands xs) → slice_index_or (bare_operands xs) k a ≡ a → (o : Operand) × Contains xs o × (bare_operand o ≡ a)
found_operand [] a k lt e = absurd (omega (arith, lt))
found_operand (x ∷ xs) a zero lt e = (x, (0, omega arith, refl), e)
found_operand (x ∷ xs) a (suc k) lt e = let r = found_operand xs a k (omega (arith, lt)) e in let inside = r.1.1 in (r.0, (suc r.1.0, omega (arith, inside), r.1.2), r.2)

module _ (P : Program) where
  params_is : (m : ℕ) → params_of (method_at (bare P) m) ≡ params_of (method_at P m)
  params_is m = ap params_of (method_at_is P m) ∙ params_bare (method_at P m)

  class_is : (m : ℕ) → class_of (method_at (bare P) m) ≡ class_of (method_at P m)
  class_is m = ap class_of (method_at_is P m) ∙ class_bare (method_at P m)

  result_in_is : (b : ℕ) → result_base_of (method_in (bare P) b) ≡ result_base_of (method_in P b)
  result_in_is b = ap result_base_of (method_in_is P b) ∙ result_bare (method_in P b)

  point_is : (b p : ℕ) → point_at (bare P) b p ≡ option_map bare_point (point_at P b p)
  point_is b p = ap (λ pts. slice_get pts p) (points_is P b) ∙ at (points_of (body_at P b)) p
    where
      at : (pts : List Point) (p : ℕ) → slice_get (bare_points pts) p ≡ option_map bare_point (slice_get pts p)
      at [] p = refl
      at (pt ∷ pts) zero = refl
      at (pt ∷ pts) (suc p) = at pts p

  -- ---- rows at operands

  suits_is : (w : Want) (t : BaseType) → suits (bare P) w t ≡ suits P w t
  suits_is (Within base) t = ap (λ (r : ℕ → ℕ → Bool). not (is_void t) && type_within r t base) (fun_ext (λ c. fun_ext (sub_is P c)))
  suits_is Primitive t = refl
  suits_is (SameAs base) t = refl
  suits_is Reference t = refl
  suits_is Elements t = refl
  suits_is Joinable t = refl
  suits_is Printable t = refl
  suits_is Valued t = refl

  -- an operand's rows, by whether it suits
  abbrev by_suiting : Operand → Bool → Bool → List Row
  by_suiting a x y = cond x [] (record { span = a.span; code = cond (not x && y) J10 J7 } ∷ [])

  one_by : (a : Operand) (x y : Bool) → Same (by_suiting a x y) (by_suiting (bare_operand a) x y)
  one_by a true y = refl
  one_by a false y = refl

  module _ (b : ℕ) where
    one : (w v : Want) (a : Operand) → w ≡ v → Same (operand_rows P b w a) (operand_rows (bare P) b v (bare_operand a))
    one w v a e =
        let t : BaseType = reg_base P b a.reg.0 in
        one_by a (suits P w t) (suits P w (other_nullity t))
        ∙ ap (λ x. codes_of (by_suiting (bare_operand a) x (suits P w (other_nullity t)))) (sym (suits_is w t))
        ∙ ap (λ x. codes_of (by_suiting (bare_operand a) (suits (bare P) w t) x)) (sym (suits_is w (other_nullity t)))
        ∙ ap (λ z. codes_of (by_suiting (bare_operand a) (suits (bare P) w z) (suits (bare P) w (other_nullity z)))) (sym (reg_base_is P b a.reg.0))
        ∙ ap (λ z. codes_of (operand_rows (bare P) b z (bare_operand a))) e

    two : (w w' : Want) (a : Operand) (v v' : Want) (c : Operand) → w ≡ w' → v ≡ v' → Same (operand_rows P b w a ++ operand_rows P b v c) (operand_rows (bare P) b w' (bare_operand a) ++ operand_rows (bare P) b v' (bare_operand c))
    two w w' a v v' c e f = both (operand_rows P b w a) (operand_rows P b v c) (operand_rows (bare P) b w' (bare_operand a)) (operand_rows (bare P) b v' (bare_operand c)) (one w w' a e) (one v v' c f)

    all_same : (w : Want) (xs : List Operand) → Same (all_rows P b w xs) (all_rows (bare P) b w (bare_operands xs))
    all_same w [] = refl
    all_same w (a ∷ xs) = both (operand_rows P b w a) (all_rows P b w xs) (operand_rows (bare P) b w (bare_operand a)) (all_rows (bare P) b w (bare_operands xs)) (one w w a refl) (all_same w xs)

    arguments_by : (ts : List BaseType) (xs : List Operand) → Same (argument_rows P b ts xs) (argument_rows (bare P) b ts (bare_operands xs))
    arguments_by [] [] = refl
    arguments_by (t ∷ ts) [] = refl
    arguments_by [] (a ∷ xs) = refl
    arguments_by (t ∷ ts) (a ∷ xs) = both (operand_rows P b (Within t) a) (argument_rows P b ts xs) (operand_rows (bare P) b (Within t) (bare_operand a)) (argument_rows (bare P) b ts (bare_operands xs)) (one (Within t) (Within t) a refl) (arguments_by ts xs)

    arguments_same : (m : ℕ) (xs : List Operand) → Same (argument_rows P b (params_of (method_at P m)) xs) (argument_rows (bare P) b (params_of (method_at (bare P) m)) (bare_operands xs))
    arguments_same m xs = arguments_by (params_of (method_at P m)) xs ∙ ap (λ ts. codes_of (argument_rows (bare P) b ts (bare_operands xs))) (sym (params_is m))

    optional_same : (w v : Want) (o : Option Operand) → w ≡ v → Same (optional_rows P b w o) (optional_rows (bare P) b v (bare_optional o))
    optional_same w v None e = refl
    optional_same w v (Some a) e = one w v a e

    same_as : (r : ℕ) → ◌≡◌ {A = Want} (SameAs (reg_base P b r)) (SameAs (reg_base (bare P) b r))
    same_as r = ap SameAs (sym (reg_base_is P b r))

    binary_same : (op : Operator) (l r : Operand) → Same (binary_rows P b op l r) (binary_rows (bare P) b op (bare_operand l) (bare_operand r))
    binary_same Equal l r = two Primitive Primitive l (SameAs (reg_base P b l.reg.0)) (SameAs (reg_base (bare P) b l.reg.0)) r refl (same_as l.reg.0)
    binary_same NotEqual l r = two Primitive Primitive l (SameAs (reg_base P b l.reg.0)) (SameAs (reg_base (bare P) b l.reg.0)) r refl (same_as l.reg.0)
    binary_same op l r = two (Within Int) (Within Int) l (Within Int) (Within Int) r refl refl

    abbrev object_of : Program → ℕ → Want
    object_of R f = Within (Ref (record { 0 = owner R f }))

    object_same : (f : ℕ) → object_of P f ≡ object_of (bare P) f
    object_same f = ap (λ (n : ℕ). Within (Ref (record { 0 = n }))) (sym (owner_is P f))

    field_same : (f : ℕ) → ◌≡◌ {A = Want} (Within (field_base P f)) (Within (field_base (bare P) f))
    field_same f = ap Within (sym (field_base_is P 0 f))

    element_same : (r : ℕ) → ◌≡◌ {A = Want} (Within (elem_base (reg_base P b r))) (Within (elem_base (reg_base (bare P) b r)))
    element_same r = ap (λ t. Within (elem_base t)) (sym (reg_base_is P b r))

    returned_same : returned P b ≡ returned (bare P) b
    returned_same = ap (λ t. cond (is_void t) Valued (Within t)) (sym (result_in_is b))

    types_same : (k : PointKind) → Same (type_rows P b k) (type_rows (bare P) b (bare_kind k))
    types_same (Const dst value) = refl
    types_same (Move dst from bound) = one (Within (reg_base P b dst.0)) (Within (reg_base (bare P) b dst.0)) from (ap Within (sym (reg_base_is P b dst.0)))
    types_same (Unary dst negate of) = one (Within Int) (Within Int) of refl
    types_same (Binary dst op l r) = binary_same op l r
    types_same (Concat dst l r) = two Joinable Joinable l Joinable Joinable r refl refl
    types_same (SameRef dst equal l r) = two Reference Reference l Reference Reference r refl refl
    types_same (FieldRead dst object field) = one (object_of P field.0) (object_of (bare P) field.0) object (object_same field.0)
    types_same (FieldWrite object field value) = two (object_of P field.0) (object_of (bare P) field.0) object (Within (field_base P field.0)) (Within (field_base (bare P) field.0)) value (object_same field.0) (field_same field.0)
    types_same (StaticRead dst field) = refl
    types_same (StaticWrite field value) = one (Within (field_base P field.0)) (Within (field_base (bare P) field.0)) value (field_same field.0)
    types_same (ElemRead dst array index) = two Elements Elements array (Within Int) (Within Int) index refl refl
    types_same (ElemWrite array index value) =
        let w : Want = Within (elem_base (reg_base P b array.reg.0)) in
        let v : Want = Within (elem_base (reg_base (bare P) b array.reg.0)) in
        both (operand_rows P b Elements array ++ operand_rows P b (Within Int) index) (operand_rows P b w value) (operand_rows (bare P) b Elements (bare_operand array) ++ operand_rows (bare P) b (Within Int) (bare_operand index)) (operand_rows (bare P) b v (bare_operand value))
        (two Elements Elements array (Within Int) (Within Int) index refl refl) (one w v value (element_same array.reg.0))
    types_same (ArrayLen dst array) = one Elements Elements array refl
    types_same (NewArray dst base count) = one (Within Int) (Within Int) count refl
    types_same (ArrayOf dst base values) = all_same (Within (elem_base base)) values
    types_same (New dst ctor args) = arguments_same ctor.0 args
    types_same (CtorCall ctor args own) = arguments_same ctor.0 args
    types_same (Call dst method receiver direct args) =
        let w : Want = Within (Ref (record { 0 = class_of (method_at P method.0) })) in
        let v : Want = Within (Ref (record { 0 = class_of (method_at (bare P) method.0) })) in
        both (optional_rows P b w receiver) (argument_rows P b (params_of (method_at P method.0)) args) (optional_rows (bare P) b v (bare_optional receiver)) (argument_rows (bare P) b (params_of (method_at (bare P) method.0)) (bare_operands args))
        (optional_same w v receiver (ap (λ (n : ℕ). Within (Ref (record { 0 = n }))) (sym (class_is method.0)))) (arguments_same method.0 args)
    types_same (StrOp dst op of other) =
        both (operand_rows P b (Within string_base) of) (optional_rows P b Reference other) (operand_rows (bare P) b (Within string_base) (bare_operand of)) (optional_rows (bare P) b Reference (bare_optional other))
        (one (Within string_base) (Within string_base) of refl) (optional_same Reference Reference other refl)
    types_same (Print of) = one Printable Printable of refl
    types_same (Cast dst of class) = one Reference Reference of refl
    types_same (TestInst of class origin at_yes at_no) = one Reference Reference of refl
    types_same (TestNull of origin at_null at_value) = one Reference Reference of refl
    types_same (Branch of at_yes at_no) = one (Within BoolBase) (Within BoolBase) of refl
    types_same (Goto to) = refl
    types_same (Return value) = optional_same (returned P b) (returned (bare P) b) value returned_same

    -- ---- rows at returns

    named_same : (m : Option Method) → Same (rows_with P J9 (name_of P m)) (rows_with (bare P) J9 (name_of (bare P) (option_map bare_method m)))
    named_same None = refl
    named_same (Some m) = refl

    abbrev no_value : Program → Bool → Option Method → List Row
    no_value R x m = cond x [] (rows_with R J9 (name_of R m))

    no_value_same : (x : Bool) (m : Option Method) → Same (no_value P x m) (no_value (bare P) x (option_map bare_method m))
    no_value_same true m = refl
    no_value_same false m = named_same m

    abbrev a_value : Bool → Operand → List Row
    a_value x v = cond x (record { span = v.span; code = J9 } ∷ []) []

    value_same : (x : Bool) (v : Operand) → Same (a_value x v) (a_value x (bare_operand v))
    value_same true v = refl
    value_same false v = refl

    results_same : (k : PointKind) → Same (result_rows P b k) (result_rows (bare P) b (bare_kind k))
    results_same (Const dst value) = refl
    results_same (Move dst from bound) = refl
    results_same (Unary dst negate of) = refl
    results_same (Binary dst op l r) = refl
    results_same (Concat dst l r) = refl
    results_same (SameRef dst equal l r) = refl
    results_same (FieldRead dst object field) = refl
    results_same (FieldWrite object field value) = refl
    results_same (StaticRead dst field) = refl
    results_same (StaticWrite field value) = refl
    results_same (ElemRead dst array index) = refl
    results_same (ElemWrite array index value) = refl
    results_same (ArrayLen dst array) = refl
    results_same (NewArray dst base count) = refl
    results_same (ArrayOf dst base values) = refl
    results_same (New dst ctor args) = refl
    results_same (CtorCall ctor args own) = refl
    results_same (Call dst method receiver direct args) = refl
    results_same (StrOp dst op of other) = refl
    results_same (Print of) = refl
    results_same (Cast dst of class) = refl
    results_same (TestInst of class origin at_yes at_no) = refl
    results_same (TestNull of origin at_null at_value) = refl
    results_same (Branch of at_yes at_no) = refl
    results_same (Goto to) = refl
    results_same (Return None) =
        no_value_same (is_void (result_base_of (method_in P b))) (method_in P b)
        ∙ ap (λ x. codes_of (no_value (bare P) (is_void x) (option_map bare_method (method_in P b)))) (sym (result_in_is b))
        ∙ ap (λ m. codes_of (no_value (bare P) (is_void (result_base_of (method_in (bare P) b))) m)) (sym (method_in_is P b))
    results_same (Return (Some v)) =
        value_same (is_void (result_base_of (method_in P b))) v
        ∙ ap (λ x. codes_of (a_value (is_void x) (bare_operand v))) (sym (result_in_is b))

    -- ---- paths

    given_is : given (bare P) b ≡ given P b
    given_is = ap given_count (method_in_is P b) ∙ of_method (method_in P b)
      where
        of_method : (m : Option Method) → given_count (option_map bare_method m) ≡ given_count m
        of_method None = refl
        of_method (Some m) = refl

    -- a point, and the point without places
    there_bare : (p : ℕ) (pt : Point) → point_at P b p ≡ Some pt → point_at (bare P) b p ≡ Some (bare_point pt)
    there_bare p pt e = point_is b p ∙ ap (option_map bare_point) e

    abbrev Full : ℕ → Point → Type 0
    Full p pt = (full : Point) × (point_at P b p ≡ Some full) × (bare_point full ≡ pt)

    there_full : (p : ℕ) (pt : Point) → point_at (bare P) b p ≡ Some pt → Full p pt
    there_full p pt e = go (point_at P b p) refl (sym (point_is b p) ∙ e)
      where
        go : (o : Option Point) → point_at P b p ≡ o → option_map bare_point o ≡ Some pt → Full p pt
        go None f g = absurd (let k : ◌≡◌ {A = Option Point} None (Some pt) = g in cc)
        go (Some full) f g = (full, f, (let k : ◌≡◌ {A = Option Point} (Some (bare_point full)) (Some pt) = g in cc))

    path_bare : (qs : List ℕ) (p : ℕ) → Path P b qs p → Path (bare P) b qs p
    path_bare [] p h = h
    path_bare (q ∷ qs) p h = (record { pt = bare_point h.0.pt; there = there_bare q h.0.pt h.0.there; leads = subst (λ e. LeadsTo e p) (sym (edges_bare h.0.pt.kind q)) h.0.leads }, path_bare qs q h.1)

    path_full : (qs : List ℕ) (p : ℕ) → Path (bare P) b qs p → Path P b qs p
    path_full [] p h = h
    path_full (q ∷ qs) p h =
        let f = there_full q h.0.pt h.0.there in
        (record { pt = f.0; there = f.1; leads = subst (λ e. LeadsTo e p) (edges_bare f.0.kind q) (subst (λ (x : Point). LeadsTo (edges_of x.kind q) p) (sym f.2) h.0.leads) }, path_full qs q h.1)

    avoids_bare : (r : ℕ) (qs : List ℕ) → Avoids P b r qs → Avoids (bare P) b r qs
    avoids_bare r [] h = tt
    avoids_bare r (q ∷ qs) h = ((λ pt e k. let f = there_full q pt e in h.0 f.0 f.1 (sym (writes_bare f.0.kind) ∙ ap (λ (x : Point). writes x.kind) f.2 ∙ k)), avoids_bare r qs h.1)

    avoids_full : (r : ℕ) (qs : List ℕ) → Avoids (bare P) b r qs → Avoids P b r qs
    avoids_full r [] h = tt
    avoids_full r (q ∷ qs) h = ((λ pt e k. h.0 (bare_point pt) (there_bare q pt e) (writes_bare pt.kind ∙ k)), avoids_full r qs h.1)

  -- ---- rows of the program

  abbrev AsBare : Row → Type 0
  AsBare row = (other : Row) × IsBaseRow (bare P) other × (other.code ≡ row.code)

  base_bare : (row : Row) → IsBaseRow P row → AsBare row
  base_bare row (inl h) =
      let y = has_partner (type_rows P h.b h.pt.kind) (type_rows (bare P) h.b (bare_kind h.pt.kind)) row (types_same h.b h.pt.kind) h.broken in
      (y.0, inl (record { b = h.b; p = h.p; pt = bare_point h.pt; there = there_bare h.b h.p h.pt h.there; broken = y.1 }), y.2)
  base_bare row (inr (inl h)) =
      let a : Operand = bare_operand h.operand in
      let read = kept_operand (operands h.pt.kind) h.operand h.read.0 h.read.1 h.read.2 in (
        record { span = a.span; code = J8 },
        inr (inl (record {
          b = h.b;
          p = h.p;
          pt = bare_point h.pt;
          operand = a;
          there = there_bare h.b h.p h.pt h.there;
          read = subst (λ xs. Contains xs a) (sym (operands_bare h.pt.kind)) read;
          unassigned = record {
            valued = ap is_void (reg_base_is P h.b h.operand.reg.0) ∙ h.unassigned.valued;
            local = subst (λ n. n ≤ h.operand.reg.0) (sym (given_is h.b)) h.unassigned.local;
            lacks = record { past = h.unassigned.lacks.past; path = path_bare h.b h.unassigned.lacks.past h.p h.unassigned.lacks.path; avoids = avoids_bare h.b h.operand.reg.0 h.unassigned.lacks.past h.unassigned.lacks.avoids };
          };
          is = refl;
        })),
        sym (ap (λ (r : Row). r.code) h.is),
      )
  base_bare row (inr (inr h)) =
      let y = has_partner (result_rows P h.b h.pt.kind) (result_rows (bare P) h.b (bare_kind h.pt.kind)) row (results_same h.b h.pt.kind) h.broken in
      (y.0, inr (inr (record { b = h.b; p = h.p; pt = bare_point h.pt; there = there_bare h.b h.p h.pt h.there; reached = record { past = h.reached.past; path = path_bare h.b h.reached.past h.p h.reached.path }; broken = y.1 })), y.2)

  abbrev AsFull : Row → Type 0
  AsFull row = (other : Row) × IsBaseRow P other × (other.code ≡ row.code)

  base_full : (row : Row) → IsBaseRow (bare P) row → AsFull row
  base_full row (inl h) =
      let f = there_full h.b h.p h.pt h.there in
      let broken = subst (λ (x : Point). Contains (type_rows (bare P) h.b x.kind) row) (sym f.2) h.broken in
      let y = has_partner (type_rows (bare P) h.b (bare_kind f.0.kind)) (type_rows P h.b f.0.kind) row (sym (types_same h.b f.0.kind)) broken in
      (y.0, inl (record { b = h.b; p = h.p; pt = f.0; there = f.1; broken = y.1 }), y.2)
  base_full row (inr (inl h)) =
      let f = there_full h.b h.p h.pt h.there in
      let read = subst (λ xs. Contains xs h.operand) (operands_bare f.0.kind) (subst (λ (x : Point). Contains (operands x.kind) h.operand) (sym f.2) h.read) in
      let a = found_operand (operands f.0.kind) h.operand read.0 read.1 read.2 in
      let same : a.0.reg.0 ≡ h.operand.reg.0 = ap (λ (x : Operand). x.reg.0) a.2 in (
        record { span = a.0.span; code = J8 },
        inr (inl (record {
          b = h.b;
          p = h.p;
          pt = f.0;
          operand = a.0;
          there = f.1;
          read = a.1;
          unassigned = record {
            valued = ap (λ r. is_void (reg_base P h.b r)) same ∙ ap is_void (sym (reg_base_is P h.b h.operand.reg.0)) ∙ h.unassigned.valued;
            local = subst (λ n. given P h.b ≤ n) (sym same) (subst (λ n. n ≤ h.operand.reg.0) (given_is h.b) h.unassigned.local);
            lacks = record { past = h.unassigned.lacks.past; path = path_full h.b h.unassigned.lacks.past h.p h.unassigned.lacks.path; avoids = subst (λ r. Avoids P h.b r h.unassigned.lacks.past) (sym same) (avoids_full h.b h.operand.reg.0 h.unassigned.lacks.past h.unassigned.lacks.avoids) };
          };
          is = refl;
        })),
        sym (ap (λ (r : Row). r.code) h.is),
      )
  base_full row (inr (inr h)) =
      let f = there_full h.b h.p h.pt h.there in
      let broken = subst (λ (x : Point). Contains (result_rows (bare P) h.b x.kind) row) (sym f.2) h.broken in
      let y = has_partner (result_rows (bare P) h.b (bare_kind f.0.kind)) (result_rows P h.b f.0.kind) row (sym (results_same h.b f.0.kind)) broken in
      (y.0, inr (inr (record { b = h.b; p = h.p; pt = f.0; there = f.1; reached = record { past = h.reached.past; path = path_full h.b h.reached.past h.p h.reached.path }; broken = y.1 })), y.2)

pub base_alike : (P Q : Program) (row : Row) → Alike P Q → IsBaseRow P row → (other : Row) × IsBaseRow Q other × (other.code ≡ row.code)
base_alike P Q row h r =
    let x = base_bare P row r in
    let y = base_full Q x.0 (subst (λ Z. IsBaseRow Z x.0) h x.1) in
    (y.0, y.1, y.2 ∙ x.2)

pub typed_alike : (P Q : Program) → Alike P Q → NoBaseRows P → NoBaseRows Q
typed_alike P Q h none row r = let x = base_alike Q P row (sym h) r in none x.0 x.1
