-- The operands of a program whose types don't fit, where they stand: the type that is found, and what is wanted (JLS 8, 5.1 to 5.3 and 15).
use Rattle.std.specs.Prelude.{ℕ, suc, Bool, true, false, cond, ◌||◌, List, [], ◌∷◌, ◌++◌, flat_map, Option, Some, None}
use Rattle.jn_base.specs.declared.code.Code.{Code}
use Rattle.jn_base.specs.declared.code.Code.TheVariants.{J7}
use Rattle.jn_base.specs.declared.place.Row.{Row}
use Rattle.jn_points.specs.declared.point.Operand.{Operand}
use Rattle.jn_points.specs.declared.point.Operator.{Operator}
use Rattle.jn_points.specs.declared.point.Operator.TheVariants.{Equal, NotEqual}
use Rattle.jn_points.specs.declared.point.BaseType.{BaseType}
use Rattle.jn_points.specs.declared.point.BaseType.TheVariants.{Int, Bool as BoolBase, Ref}
use Rattle.jn_points.specs.declared.point.Point.{Point}
use Rattle.jn_points.specs.declared.point.PointKind.{PointKind}
use Rattle.jn_points.specs.declared.point.PointKind.TheVariants.{Move, Unary, Binary, Concat, SameRef, FieldRead, FieldWrite, StaticWrite, ElemRead, ElemWrite, ArrayLen, NewArray, ArrayOf, New, CtorCall, Call, StrOp, Print, Cast, TestInst, TestNull, Branch, Return}
use Rattle.jn_points.specs.declared.program.Body.{Body}
use Rattle.jn_points.specs.declared.program.Program.{Program}
use Rattle.jn_points.specs.Lookup.{elem_base, class_of, params_of, result_base_of, reg_base, field_base, owner, method_at, method_in}
use Rattle.jn_points.specs.BaseRows.{is_void, string_base, suits, suits_otherwise}
use Rattle.jn_basecheck.specs.Wanted.{meant}
use Rattle.jn_type_notes.specs.declared.mismatch.Mismatch.{Mismatch}
use Rattle.jn_basecheck.specs.declared.types.Want.{Want}
use Rattle.jn_basecheck.specs.declared.types.Want.TheVariants.{Within, Primitive, Same, Reference, Elements, Joinable, Printable, Valued}

-- a row J7
abbrev pub is_of_types : Code → Bool
is_of_types J7 = true
is_of_types code = false

-- a row J7, as a test on rows
abbrev pub is_type_row : Row → Bool
is_type_row row = is_of_types row.code

-- the row of an operand whose type doesn't fit
abbrev pub row_of : Mismatch → Row
row_of m = record { span = m.span; code = J7 }

module _ (P : Program) where
  -- the type fits, or all of it but element nullity does
  abbrev pub fits_or_otherwise : Want → BaseType → Bool
  fits_or_otherwise w t = suits P (meant w) t || suits_otherwise P (meant w) t

  module _ (b : ℕ) where
    -- an operand of body b, where it isn't so
    abbrev pub operand_found : Want → Operand → List Mismatch
    operand_found w a = cond (fits_or_otherwise w (reg_base P b a.reg.0)) [] (record { span = a.span; found = reg_base P b a.reg.0; want = w } ∷ [])

    -- operands that are all wanted to be the same
    abbrev pub all_found : Want → List Operand → List Mismatch
    all_found w [] = []
    all_found w (a ∷ as') = operand_found w a ++ all_found w as'

    -- each argument, within its parameter
    abbrev pub arguments_found : List BaseType → List Operand → List Mismatch
    arguments_found ts [] = []
    arguments_found [] (a ∷ as') = []
    arguments_found (t ∷ ts) (a ∷ as') = operand_found (Within t) a ++ arguments_found ts as'

    -- an operand that may be missing
    abbrev pub optional_found : Want → Option Operand → List Mismatch
    optional_found w None = []
    optional_found w (Some a) = operand_found w a

    -- the sides of an operator
    abbrev pub binary_found : Operator → Operand → Operand → List Mismatch
    binary_found Equal l r = operand_found Primitive l ++ operand_found (Same (reg_base P b l.reg.0)) r
    binary_found NotEqual l r = operand_found Primitive l ++ operand_found (Same (reg_base P b l.reg.0)) r
    binary_found op l r = operand_found (Within Int) l ++ operand_found (Within Int) r

    -- what a return wants
    abbrev pub returned : Want
    returned = cond (is_void (result_base_of (method_in P b))) Valued (Within (result_base_of (method_in P b)))

    -- the operands of a point
    abbrev pub kind_found : PointKind → List Mismatch
    kind_found (Move dst from bound) = operand_found (Within (reg_base P b dst.0)) from
    kind_found (Unary dst negate of) = operand_found (Within Int) of
    kind_found (Binary dst op l r) = binary_found op l r
    kind_found (Concat dst l r) = operand_found Joinable l ++ operand_found Joinable r
    kind_found (SameRef dst equal l r) = operand_found Reference l ++ operand_found Reference r
    kind_found (FieldRead dst object field) = operand_found (Within (Ref (record { 0 = owner P field.0 }))) object
    kind_found (FieldWrite object field value) = operand_found (Within (Ref (record { 0 = owner P field.0 }))) object ++ operand_found (Within (field_base P field.0)) value
    kind_found (StaticWrite field value) = operand_found (Within (field_base P field.0)) value
    kind_found (ElemRead dst array index) = operand_found Elements array ++ operand_found (Within Int) index
    kind_found (ElemWrite array index value) = operand_found Elements array ++ operand_found (Within Int) index ++ operand_found (Within (elem_base (reg_base P b array.reg.0))) value
    kind_found (ArrayLen dst array) = operand_found Elements array
    kind_found (NewArray dst base count) = operand_found (Within Int) count
    kind_found (ArrayOf dst base values) = all_found (Within (elem_base base)) values
    kind_found (New dst ctor args) = arguments_found (params_of (method_at P ctor.0)) args
    kind_found (CtorCall ctor args own) = arguments_found (params_of (method_at P ctor.0)) args
    kind_found (Call dst method receiver direct args) = optional_found (Within (Ref (record { 0 = class_of (method_at P method.0) }))) receiver ++ arguments_found (params_of (method_at P method.0)) args
    kind_found (StrOp dst op of other) = operand_found (Within string_base) of ++ optional_found Reference other
    kind_found (Print of) = operand_found Printable of
    kind_found (Cast dst of class) = operand_found Reference of
    kind_found (TestInst of class origin at_yes at_no) = operand_found Reference of
    kind_found (TestNull of origin at_null at_value) = operand_found Reference of
    kind_found (Branch of at_yes at_no) = operand_found (Within BoolBase) of
    kind_found (Return value) = optional_found returned value
    kind_found kind = []

    -- those of points, one after the other
    abbrev pub points_found : List Point → List Mismatch
    points_found points = flat_map (λ (pt : Point). kind_found pt.kind) points

  -- those of bodies, numbered from b on
  abbrev pub bodies_found : ℕ → List Body → List Mismatch
  bodies_found b [] = []
  bodies_found b (x ∷ xs) = points_found b x.points ++ bodies_found (suc b) xs

  -- those of the program
  abbrev pub program_found : List Mismatch
  program_found = bodies_found 0 P.bodies
