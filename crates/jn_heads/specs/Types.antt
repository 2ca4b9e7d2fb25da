-- Types and qualifiers of what is declared (JLS 8, 4.3 and 9.7.4).
use Rattle.std.specs.Prelude.{ℕ, Bool, true, false, cond, not, ◌&&◌, ◌||◌, List, [], ◌∷◌, ◌++◌, map, Option, Some, None}
use Rattle.jn_base.specs.declared.number.ClassNo.{ClassNo}
use Rattle.jn_points.specs.declared.point.BaseType.{BaseType}
use Rattle.jn_points.specs.declared.point.BaseType.TheVariants.{Int, Bool as BoolBase, Void, Ref, Array}
use Rattle.jn_points.specs.declared.point.Elem.TheVariants.{Int as IntElem, Bool as BoolElem, Ref as RefElem}
use Rattle.jn_points.specs.declared.program.SlotInfo.{SlotInfo}
use Rattle.jn_points.specs.Lookup.{is_ref_base}
use Rattle.jn_quals.specs.Qualifier.{Qualifier}
use Rattle.jn_quals.specs.Order.{no_qual}
use Rattle.jn_trees.specs.declared.expression.Identifier.{Identifier}
use Rattle.jn_trees.specs.declared.expression.Base.{Base}
use Rattle.jn_trees.specs.declared.expression.Base.TheVariants.{Class as ClassUse, Int as IntUse, Boolean as BooleanUse}
use Rattle.jn_heads.specs.declared.head.Notes.{Notes}
use Rattle.jn_heads.specs.declared.head.TypeHead.{TypeHead}
use Rattle.jn_heads.specs.declared.head.FieldHead.{FieldHead}
use Rattle.jn_heads.specs.declared.head.ParamHead.{ParamHead}
use Rattle.jn_heads.specs.declared.head.MethodHead.{MethodHead}
use Rattle.jn_heads.specs.declared.head.ClassHead.{ClassHead}
use Rattle.jn_heads.specs.Heads.{number}

-- some of the six annotations stands on the position
abbrev pub is_written : Notes → Bool
is_written n = n.non_null || n.nullable || n.initialized || n.under || n.unknown || n.monotonic

-- what is written, with the missing half by default: not null, and initialized
abbrev pub written_qual : Notes → Qualifier
written_qual n = record { null = n.nullable; committed = n.initialized || n.unknown || not n.under; free = n.under || n.unknown }

-- a field takes nullity alone; a monotonic one may start null
abbrev pub field_qual : Notes → Qualifier
field_qual n = record { null = n.nullable || n.monotonic; committed = true; free = false }

-- a receiver is never null
abbrev pub receiver_qual : Notes → Qualifier
receiver_qual n = record { null = false; committed = n.initialized || n.unknown || not n.under; free = n.under || n.unknown }

-- a position of a private member where nothing is written is inferred; any other has what is written, or the default
abbrev pub slot_of : Bool → Notes → Qualifier → SlotInfo
slot_of is_private n q = cond (is_private && not (is_written n)) (record { start = no_qual; inferred = true }) (record { start = q; inferred = false })

-- the class of this number; Object where none was found
abbrev pub class_or_object : Option ℕ → ClassNo
class_or_object None = record { 0 = 0 }
class_or_object (Some c) = record { 0 = c }

-- neither a static method nor a constructor has a receiver's position
abbrev pub has_receiver : MethodHead → Bool
has_receiver m = not (m.is_static || m.ctor)

-- the slot of a method's receiver, as a list of at most one
abbrev pub receiver_slots : MethodHead → List SlotInfo
receiver_slots m = cond (has_receiver m) (slot_of m.is_private m.receiver (receiver_qual m.receiver) ∷ []) []

module _ (hs : List ClassHead) where
  -- the class of a name; an unknown name is read as Object
  abbrev pub class_of_name : Identifier → ClassNo
  class_of_name n = class_or_object (number hs n.name)

  -- the type of a use without brackets: a class, int or boolean
  abbrev pub plain_base : Base → BaseType
  plain_base (ClassUse n) = Ref (class_of_name n)
  plain_base (IntUse s) = Int
  plain_base (BooleanUse s) = BoolBase

  -- elements of a class type may be null where that is written
  abbrev pub array_base : Base → Bool → BaseType
  array_base (ClassUse n) nullable = Array (RefElem (class_of_name n)) nullable
  array_base (IntUse s) nullable = Array IntElem false
  array_base (BooleanUse s) nullable = Array BoolElem false

  -- the type of what is declared, without its qualifier; of an array it has whether elements may be null
  abbrev pub base_of : TypeHead → BaseType
  base_of t = cond t.array (array_base t.base t.elements.nullable) (plain_base t.base)

  -- the type of what a method gives; Void for `void`, and for a constructor
  abbrev pub result_base : Option TypeHead → BaseType
  result_base None = Void
  result_base (Some t) = base_of t

  -- the types of parameters, in order
  abbrev pub param_bases : List ParamHead → List BaseType
  param_bases ps = map (λ p. base_of p.kind) ps

  -- a position of reference type has a slot
  abbrev pub is_position : TypeHead → Bool
  is_position t = is_ref_base (base_of t)

  -- the slot of a field, as a list of at most one: a field of primitive type has none
  abbrev pub field_slots : FieldHead → List SlotInfo
  field_slots f = cond (is_position f.kind) (slot_of f.is_private f.kind.notes (field_qual f.kind.notes) ∷ []) []

  -- the slot of a parameter or a result of a member that is private, or not
  abbrev pub value_slots : Bool → TypeHead → List SlotInfo
  value_slots is_private t = cond (is_position t) (slot_of is_private t.notes (written_qual t.notes) ∷ []) []

  -- the slot of what a method gives: none for `void`, for a constructor, or for a primitive type
  abbrev pub result_slots : Bool → Option TypeHead → List SlotInfo
  result_slots is_private None = []
  result_slots is_private (Some t) = value_slots is_private t

  -- the slots of parameters in order, one for each parameter of reference type
  abbrev pub params_slots : Bool → List ParamHead → List SlotInfo
  params_slots is_private [] = []
  params_slots is_private (p ∷ ps) = value_slots is_private p.kind ++ params_slots is_private ps

  -- receiver, parameters, result
  abbrev pub method_slots : MethodHead → List SlotInfo
  method_slots m = receiver_slots m ++ (params_slots m.is_private m.params ++ result_slots m.is_private m.result)

  -- the slots of a class's fields, in order
  abbrev pub fields_slots : List FieldHead → List SlotInfo
  fields_slots [] = []
  fields_slots (f ∷ fs) = field_slots f ++ fields_slots fs

  -- the slots of a class's methods and constructors, in order
  abbrev pub methods_slots : List MethodHead → List SlotInfo
  methods_slots [] = []
  methods_slots (m ∷ ms) = method_slots m ++ methods_slots ms

  -- the fields' slots, then those of each method
  abbrev pub class_slots : ClassHead → List SlotInfo
  class_slots h = fields_slots h.fields ++ methods_slots h.methods

  -- the slots of classes, one class after the other; of all classes, a slot's number is its position here
  abbrev pub slots_of_all : List ClassHead → List SlotInfo
  slots_of_all [] = []
  slots_of_all (c ∷ cs) = class_slots c ++ slots_of_all cs
