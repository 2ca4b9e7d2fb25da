-- What a point reads and names, each in its own order.
use Rattle.std.specs.Prelude.{ℕ, List, [], ◌∷◌, ◌++◌, Option, Some, None}
use Rattle.jn_points.specs.declared.point.Operand.{Operand}
use Rattle.jn_points.specs.declared.point.Origin.{Origin}
use Rattle.jn_points.specs.declared.point.BaseType.{BaseType}
use Rattle.jn_points.specs.declared.point.BaseType.TheVariants.{Ref, Array}
use Rattle.jn_points.specs.declared.point.Elem.TheVariants.{Ref as RefElem}
use Rattle.jn_points.specs.declared.point.PointKind.{PointKind}
use Rattle.jn_points.specs.declared.point.PointKind.TheVariants.{Move, Unary, Binary, Concat, SameRef, FieldRead, FieldWrite, StaticRead, StaticWrite, ElemRead, ElemWrite, ArrayLen, NewArray, ArrayOf, New, CtorCall, Call, StrOp, Print, Cast, TestInst, TestNull, Branch, Return}

-- an operand that may be missing, as a list of at most one
abbrev pub operand_if : Option Operand → List Operand
operand_if None = []
operand_if (Some a) = a ∷ []

-- the operands of a point, in the order in which they are evaluated (JLS 8, 15.7)
abbrev pub operands : PointKind → List Operand
operands (Move dst from bound) = from ∷ []
operands (Unary dst negate of) = of ∷ []
operands (Binary dst op l r) = l ∷ r ∷ []
operands (Concat dst l r) = l ∷ r ∷ []
operands (SameRef dst equal l r) = l ∷ r ∷ []
operands (FieldRead dst object field) = object ∷ []
operands (FieldWrite object field value) = object ∷ value ∷ []
operands (StaticWrite field value) = value ∷ []
operands (ElemRead dst array index) = array ∷ index ∷ []
operands (ElemWrite array index value) = array ∷ index ∷ value ∷ []
operands (ArrayLen dst array) = array ∷ []
operands (NewArray dst base count) = count ∷ []
operands (ArrayOf dst base values) = values
operands (New dst ctor args) = args
operands (CtorCall ctor args own) = args
operands (Call dst method receiver direct args) = operand_if receiver ++ args
operands (StrOp dst op of other) = of ∷ operand_if other
operands (Print of) = of ∷ []
operands (Cast dst of class) = of ∷ []
operands (TestInst of class origin at_yes at_no) = of ∷ []
operands (TestNull of origin at_null at_value) = of ∷ []
operands (Branch of at_yes at_no) = of ∷ []
operands (Return value) = operand_if value
operands kind = []

-- the registers of operands, in their order
abbrev pub regs_in : List Operand → List ℕ
regs_in [] = []
regs_in (a ∷ as') = a.reg.0 ∷ regs_in as'

-- the register whose object has the field that a test's value was read from, none where there is no origin
abbrev pub origin_reg : Option Origin → List ℕ
origin_reg None = []
origin_reg (Some og) = og.reg.0 ∷ []

-- the field that a test's value was read from, none where there is no origin
abbrev pub origin_field : Option Origin → List ℕ
origin_field None = []
origin_field (Some og) = og.field.0 ∷ []

-- the field read that a test's value comes from, None where there is none or the point is no test
abbrev pub origin_in : PointKind → Option Origin
origin_in (TestInst of class origin at_yes at_no) = origin
origin_in (TestNull of origin at_null at_value) = origin
origin_in kind = None

-- the fields that a point names
abbrev pub fields_named : PointKind → List ℕ
fields_named (FieldRead dst object field) = field.0 ∷ []
fields_named (FieldWrite object field value) = field.0 ∷ []
fields_named (StaticRead dst field) = field.0 ∷ []
fields_named (StaticWrite field value) = field.0 ∷ []
fields_named kind = origin_field (origin_in kind)

-- the methods and constructors that a point names
abbrev pub methods_named : PointKind → List ℕ
methods_named (New dst ctor args) = ctor.0 ∷ []
methods_named (CtorCall ctor args own) = ctor.0 ∷ []
methods_named (Call dst method receiver direct args) = method.0 ∷ []
methods_named kind = []

-- the class that a type names, perhaps as that of an array's elements; none in other types
abbrev pub classes_of_base : BaseType → List ℕ
classes_of_base (Ref c) = c.0 ∷ []
classes_of_base (Array (RefElem c) nullable) = c.0 ∷ []
classes_of_base base = []

-- the classes that a point names
abbrev pub classes_named : PointKind → List ℕ
classes_named (NewArray dst base count) = classes_of_base base
classes_named (ArrayOf dst base values) = classes_of_base base
classes_named (Cast dst of class) = class.0 ∷ []
classes_named (TestInst of class origin at_yes at_no) = class.0 ∷ []
classes_named kind = []
