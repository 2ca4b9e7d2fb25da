-- What names mean: locals in scope, fields, methods and classes (JLS 8, 6.3 to 6.5, 15.11 and 15.12).
use Rattle.std.specs.Prelude.{ℕ, suc, zero, Bool, true, false, cond, ◌&&◌, eqb, List, [], ◌∷◌, Option, Some, None}
use Rattle.jn_base.specs.declared.number.ClassNo.{ClassNo}
use Rattle.jn_base.specs.declared.place.Row.{Row}
use Rattle.jn_quals.specs.Qualifier.{Qualifier}
use Rattle.jn_points.specs.declared.point.BaseType.{BaseType}
use Rattle.jn_points.specs.declared.point.BaseType.TheVariants.{Ref, Array}
use Rattle.jn_points.specs.declared.point.StrOperation.{StrOperation}
use Rattle.jn_points.specs.declared.point.StrOperation.TheVariants.{Length, IsEmpty, Equals}
use Rattle.jn_points.specs.declared.program.Program.{Program}
use Rattle.jn_points.specs.Lookup.{parent_of, class_info}
use Rattle.jn_points.specs.Members.{first_at, field_of, method_of}
use Rattle.jn_places.specs.Placed.{PlacedTree, PlacedTrees, NoPlacedTrees, MorePlacedTrees, PlacedName, PlacedField}
use Rattle.jn_known.specs.Known.{system_name, out_name, println_name, length_name, equals_name, is_empty_name}

-- a parameter or local: its name, register and type, what is written of its qualifier, whether nothing may be assigned to it, and the rows of its declared type: where it has some, what depends on it has them too, and no others
pub record Local : Type 0 where
  pub name : ℕ
  pub reg : ℕ
  pub base : BaseType
  pub bound : Option Qualifier
  pub fixed : Bool
  pub faults : List Row

-- those in scope, the last declared one first
abbrev pub Scope : Type 0
Scope = List Local

-- the last declared one of the name (JLS 8, 6.4.1)
abbrev pub local_in : Scope → ℕ → Option Local
local_in [] n = None
local_in (l ∷ ls) n = cond (eqb l.name n) (Some l) (local_in ls n)

-- the number, or Object's
abbrev pub or_zero : Option ℕ → ℕ
or_zero None = 0
or_zero (Some n) = n

-- how many arguments
abbrev pub count : PlacedTrees → ℕ
count NoPlacedTrees = 0
count (MorePlacedTrees t ts) = suc (count ts)

-- what an identifier means
pub data Meaning : Type 0 where
  LocalMeant : (local : Local) → Meaning
  FieldMeant : (field : ℕ) → Meaning
  ClassMeant : (class : ℕ) → Meaning
  SystemMeant : Meaning
  NothingMeant : Meaning

-- the class System
abbrev pub is_system : Meaning → Bool
is_system SystemMeant = true
is_system m = false

-- what a field access names: a class's field, an object's, or the length of an array
pub data Access : Type 0 where
  ClassField : (field : ℕ) → Access
  ObjectField : (field : ℕ) → Access
  ArrayLength : Access
  NoField : Access

-- `C.f`
abbrev pub class_access : Option ℕ → Access
class_access None = NoField
class_access (Some f) = ClassField f

-- `e.f`
abbrev pub object_access : Option ℕ → Access
object_access None = NoField
object_access (Some f) = ObjectField f

-- what a call with a dot names: println, one of String's methods, a class's method or an object's
pub data Callee : Type 0 where
  Println : Callee
  OfText : (operation : StrOperation) → Callee
  ClassMethod : (method : ℕ) → Callee
  ObjectMethod : (method : ℕ) → Callee
  NoMethod : Callee

-- `C.m(..)`
abbrev pub class_callee : Option ℕ → Callee
class_callee None = NoMethod
class_callee (Some m) = ClassMethod m

-- `e.m(..)`
abbrev pub object_callee : Option ℕ → Callee
object_callee None = NoMethod
object_callee (Some m) = ObjectMethod m

-- a String's methods
abbrev pub text_callee : ℕ → ℕ → Callee
text_callee n zero = cond (eqb n length_name) (OfText Length) (cond (eqb n is_empty_name) (OfText IsEmpty) NoMethod)
text_callee n (suc zero) = cond (eqb n equals_name) (OfText Equals) NoMethod
text_callee n arity = NoMethod

module _ (P : Program) where
  -- the first class of the name
  abbrev pub class_named : ℕ → Option ℕ
  class_named n = first_at (λ k. eqb k.name.0 n) 0 P.classes

  -- a class of the name, else System
  abbrev pub class_or_system : Option ℕ → ℕ → Meaning
  class_or_system (Some k) n = ClassMeant k
  class_or_system None n = cond (eqb n system_name) SystemMeant NothingMeant

  -- a field of the name, else a class
  abbrev pub field_or_class : Option ℕ → ℕ → Meaning
  field_or_class (Some f) n = FieldMeant f
  field_or_class None n = class_or_system (class_named n) n

  -- a member of a value (JLS 8, 15.11.1 and 10.7)
  abbrev pub access_of : BaseType → ℕ → Access
  access_of (Ref k) n = object_access (field_of P k.0 n)
  access_of (Array e nullable) n = cond (eqb n length_name) ArrayLength NoField
  access_of base n = NoField

  -- a member of what stands before the dot
  abbrev pub access_by : Meaning → BaseType → ℕ → Access
  access_by (ClassMeant k) base n = class_access (field_of P k n)
  access_by SystemMeant base n = NoField
  access_by m base n = access_of base n

  -- a method of a value (JLS 8, 15.12.1)
  abbrev pub callee_of : BaseType → ℕ → ℕ → Callee
  callee_of (Ref k) n arity = cond (eqb k.0 1) (text_callee n arity) (object_callee (method_of P k.0 n arity))
  callee_of base n arity = NoMethod

  -- a method of what stands before the dot
  abbrev pub callee_by : Meaning → BaseType → ℕ → ℕ → Callee
  callee_by (ClassMeant k) base n arity = class_callee (method_of P k n arity)
  callee_by SystemMeant base n arity = NoMethod
  callee_by m base n arity = callee_of base n arity

  -- the superclass
  abbrev pub parent_class : Option ClassNo → ℕ
  parent_class None = 0
  parent_class (Some k) = k.0

  -- in a body of class c
  module _ (c : ℕ) where
    -- a local of the name, else a field
    abbrev pub local_or_field : Option Local → ℕ → Meaning
    local_or_field (Some l) n = LocalMeant l
    local_or_field None n = field_or_class (field_of P c n) n

    -- an identifier is the local in scope of that name, else the field that the class has, else the class of that name
    abbrev pub meaning : Scope → ℕ → Meaning
    meaning s n = local_or_field (local_in s n) n

    -- what stands before a dot, where it is an identifier
    abbrev pub before_dot : Scope → PlacedTree → Meaning
    before_dot s (PlacedName n) = meaning s n.name.0
    before_dot s e = NothingMeant

    -- what a field access names (JLS 8, 15.11)
    abbrev pub access : Scope → PlacedTree → BaseType → ℕ → Access
    access s e base n = access_by (before_dot s e) base n

    -- `System.out`, where nothing else is named System
    abbrev pub is_output : Scope → PlacedTree → Bool
    is_output s (PlacedField (PlacedName n) field span) = is_system (meaning s n.name.0) && eqb field.name.0 out_name
    is_output s e = false

    -- what a call with a dot names (JLS 8, 15.12.1)
    abbrev pub callee : Scope → PlacedTree → BaseType → ℕ → ℕ → Callee
    callee s e base n arity = cond (is_output s e && eqb n println_name && eqb arity 1) Println (callee_by (before_dot s e) base n arity)

    -- the method that the superclass has
    abbrev pub super_method : ℕ → ℕ → Option ℕ
    super_method n arity = method_of P (parent_class (parent_of (class_info P c))) n arity
