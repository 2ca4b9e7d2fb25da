-- What stands where in a program's lists.
use Rattle.std.specs.Prelude.{ℕ, Bool, true, false, eqb, List, [], length, Option, Some, None, slice_get, slice_index_or}
use Rattle.jn_base.specs.declared.number.BodyNo.{BodyNo}
use Rattle.jn_base.specs.declared.number.ClassNo.{ClassNo}
use Rattle.jn_base.specs.declared.number.SlotNo.{SlotNo}
use Rattle.jn_points.specs.declared.point.BaseType.{BaseType}
use Rattle.jn_points.specs.declared.point.BaseType.TheVariants.{Int, Bool as BoolOf, Ref, Array, Void, Null as NullBase}
use Rattle.jn_points.specs.declared.point.Elem.TheVariants.{Int as IntElem, Bool as BoolElem, Ref as RefElem}
use Rattle.jn_points.specs.declared.point.Operand.{Operand}
use Rattle.jn_points.specs.declared.point.Point.{Point}
use Rattle.jn_points.specs.declared.point.PointKind.{PointKind}
use Rattle.jn_points.specs.declared.point.PointKind.TheVariants.{FieldRead, FieldWrite, ElemRead, ElemWrite, ArrayLen, Call, StrOp}
use Rattle.jn_points.specs.declared.program.Class.{Class}
use Rattle.jn_points.specs.declared.program.Field.{Field}
use Rattle.jn_points.specs.declared.program.Method.{Method}
use Rattle.jn_points.specs.declared.program.Body.{Body}
use Rattle.jn_points.specs.declared.program.Program.{Program}

-- String and arrays: their values are always initialized
abbrev pub is_flat : BaseType → Bool
is_flat (Ref c) = eqb c.0 1
is_flat (Array e nullable) = true
is_flat b = false

-- reference types (JLS 8, 4.3), the type of null among them
abbrev pub is_ref_base : BaseType → Bool
is_ref_base (Ref c) = true
is_ref_base (Array e nullable) = true
is_ref_base NullBase = true
is_ref_base b = false

-- the type of an array's elements
abbrev pub elem_base : BaseType → BaseType
elem_base (Array IntElem nullable) = Int
elem_base (Array BoolElem nullable) = BoolOf
elem_base (Array (RefElem c) nullable) = Ref c
elem_base b = Int

-- whether a type is an array's (JLS 8, 10.1)
abbrev pub is_array : BaseType → Bool
is_array (Array e nullable) = true
is_array b = false

-- the register that a point dereferences (JLS 8, 15.11.1, 15.12.4.4, 15.13.1 and 15.26.1)
abbrev pub dereferences : PointKind → Option Operand
dereferences (FieldRead dst object field) = Some object
dereferences (FieldWrite object field value) = Some object
dereferences (ElemRead dst array index) = Some array
dereferences (ElemWrite array index value) = Some array
dereferences (ArrayLen dst array) = Some array
dereferences (StrOp dst op of other) = Some of
dereferences (Call dst method receiver direct args) = receiver
dereferences kind = None

-- the points of a body in their order, none where there is no body
abbrev pub points_of : Option Body → List Point
points_of None = []
points_of (Some b) = b.points

-- how many registers a body has; `this`, parameters and locals stand first
abbrev pub regs_of : Option Body → ℕ
regs_of None = 0
regs_of (Some b) = length b.regs

-- how many of a body's registers, from the first on, are `this`, parameters or locals
abbrev pub locals_of : Option Body → ℕ
locals_of None = 0
locals_of (Some b) = b.locals

-- the type of a body's register, void where there is none
abbrev pub base_in : Option Body → ℕ → BaseType
base_in None r = Void
base_in (Some b) r = slice_index_or b.regs r Void

-- the class that declares a field
abbrev pub owner_of : Option Field → ℕ
owner_of None = 0
owner_of (Some f) = f.owner.0

-- the declared type of a field, void where there is none
abbrev pub field_base_of : Option Field → BaseType
field_base_of None = Void
field_base_of (Some f) = f.base

-- whether a slot is there, that is a number at which signatures have a qualifier
abbrev pub has_slot : Option SlotNo → Bool
has_slot None = false
has_slot (Some n) = true

-- whether a field has a slot, as those of reference type have in regular programs
abbrev pub ref_of : Option Field → Bool
ref_of None = false
ref_of (Some f) = has_slot f.slot

-- whether a field is monotonic: it may start null, and takes no null (Checker Framework manual)
abbrev pub monotonic_of : Option Field → Bool
monotonic_of None = false
monotonic_of (Some f) = f.is_monotonic

-- whether a field is of String or array type, so that what it holds is always initialized
abbrev pub flat_of : Option Field → Bool
flat_of None = false
flat_of (Some f) = is_flat f.base

-- the class that declares a method
abbrev pub class_of : Option Method → ℕ
class_of None = 0
class_of (Some m) = m.owner.0

-- the number of a body as a plain one
abbrev pub body_no : Option BodyNo → Option ℕ
body_no None = None
body_no (Some b) = Some b.0

-- the number of a method's body, None where it has none, as abstract methods
abbrev pub body_of : Option Method → Option ℕ
body_of None = None
body_of (Some m) = body_no m.body

-- whether it is a constructor; false where there is nothing
abbrev pub ctor_of : Option Method → Bool
ctor_of None = false
ctor_of (Some m) = m.ctor

-- whether a method is static (JLS 8, 8.4.3.2); true where there is none
abbrev pub static_of : Option Method → Bool
static_of None = true
static_of (Some m) = m.is_static

-- whether a method or constructor is private (JLS 8, 6.6); false where there is none
abbrev pub private_of : Option Method → Bool
private_of None = false
private_of (Some m) = m.is_private

-- the slot of each parameter in turn, None at one without a slot
abbrev pub slots_of : Option Method → List (Option SlotNo)
slots_of None = []
slots_of (Some m) = m.param_slots

-- the types of a method's parameters, in their order
abbrev pub params_of : Option Method → List BaseType
params_of None = []
params_of (Some m) = m.params

-- the type of what a method gives, void where there is no method
abbrev pub result_base_of : Option Method → BaseType
result_base_of None = Void
result_base_of (Some m) = m.result

-- the classes and interfaces right above a class, its parent among them (JLS 8, 8.1.4 and 8.1.5)
abbrev pub supers_of : Option Class → List ClassNo
supers_of None = []
supers_of (Some c) = c.supers

-- the class that a class extends (JLS 8, 8.1.4), None where there is none
abbrev pub parent_of : Option Class → Option ClassNo
parent_of None = None
parent_of (Some c) = c.parent

-- whether it is an interface and no class; false where there is neither
abbrev pub interface_of : Option Class → Bool
interface_of None = false
interface_of (Some c) = c.interface

module _ (P : Program) where
  -- the class or interface of a number, None where the program has none
  abbrev pub class_info : ℕ → Option Class
  class_info c = slice_get P.classes c

  -- the body of a number, None where the program has none
  abbrev pub body_at : ℕ → Option Body
  body_at b = slice_get P.bodies b

  -- the point of a number in body b, None where the body has none
  abbrev pub point_at : ℕ → ℕ → Option Point
  point_at b p = slice_get (points_of (body_at b)) p

  -- the type of register r of body b, void where there is none
  abbrev pub reg_base : ℕ → ℕ → BaseType
  reg_base b r = base_in (body_at b) r

  -- how many of a body's registers are parameters or locals
  abbrev pub locals : ℕ → ℕ
  locals b = locals_of (body_at b)

  -- the field of a number, None where the program has none
  abbrev pub field_info : ℕ → Option Field
  field_info f = slice_get P.fields f

  -- the class that declares the field of a number
  abbrev pub owner : ℕ → ℕ
  owner f = owner_of (field_info f)

  -- the declared type of the field of a number
  abbrev pub field_base : ℕ → BaseType
  field_base f = field_base_of (field_info f)

  -- a field of reference type
  abbrev pub ref_field : ℕ → Bool
  ref_field f = ref_of (field_info f)

  -- a field that takes no null, so that a fact on it survives calls
  abbrev pub monotonic : ℕ → Bool
  monotonic f = monotonic_of (field_info f)

  -- a field of String or array type
  abbrev pub flat_field : ℕ → Bool
  flat_field f = flat_of (field_info f)

  -- the method or constructor of a number, None where the program has none
  abbrev pub method_at : ℕ → Option Method
  method_at m = slice_get P.methods m

  -- the method or constructor that a body belongs to
  abbrev pub method_of_body : Option Body → Option Method
  method_of_body None = None
  method_of_body (Some b) = method_at b.method.0

  -- the method of a body
  abbrev pub method_in : ℕ → Option Method
  method_in b = method_of_body (body_at b)
