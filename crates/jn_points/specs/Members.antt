-- Subtypes and members (JLS 8, 4.10, 8.2, 8.4.8 and 9.4.1), and overriding pairs. Class 0 is Object and class 1 String.
use Rattle.std.specs.Prelude.{ℕ, zero, suc, ◌+◌, Bool, true, false, cond, not, ◌&&◌, ◌||◌, eqb, List, [], ◌∷◌, ◌++◌, length, filter, flat_map, Option, Some, None, slice_get}
use Rattle.jn_base.specs.declared.number.ClassNo.{ClassNo}
use Rattle.jn_points.specs.declared.point.BaseType.{BaseType}
use Rattle.jn_points.specs.declared.point.BaseType.TheVariants.{Int, Bool as BoolBase, Void, Null as NullBase, Ref, Array}
use Rattle.jn_points.specs.declared.point.Elem.{Elem}
use Rattle.jn_points.specs.declared.point.Elem.TheVariants.{Int as IntElem, Bool as BoolElem, Ref as RefElem}
use Rattle.jn_points.specs.declared.program.Field.{Field}
use Rattle.jn_points.specs.declared.program.Method.{Method}
use Rattle.jn_points.specs.declared.program.Program.{Program}
use Rattle.jn_points.specs.Lookup.{supers_of, parent_of, interface_of, body_of, class_info, method_at}

-- the numbers below n, from the lowest on
abbrev pub below : ℕ → List ℕ
below zero = []
below (suc n) = below n ++ n ∷ []

-- some item passes
abbrev pub some_of : {A : Type 0} → (A → Bool) → List A → Bool
some_of test [] = false
some_of test (x ∷ xs) = test x || some_of test xs

-- the number of the first item that passes, counted from i
abbrev pub first_at : {A : Type 0} → (A → Bool) → ℕ → List A → Option ℕ
first_at test i [] = None
first_at test i (x ∷ xs) = cond (test x) (Some i) (first_at test (i + 1) xs)

-- the first number, or the second where the first is missing
abbrev pub first_or : Option ℕ → Option ℕ → Option ℕ
first_or None rest = rest
first_or (Some n) rest = Some n

-- the first number that is found along the classes
abbrev pub first_some : (ℕ → Option ℕ) → List ℕ → Option ℕ
first_some found [] = None
first_some found (c ∷ cs) = first_or (found c) (first_some found cs)

-- the number k where something is there, else None
abbrev pub where_some : Option ℕ → ℕ → Option ℕ
where_some None k = None
where_some (Some b) k = Some k

-- whether a number is there and is n
abbrev pub is_number : Option ℕ → ℕ → Bool
is_number None n = false
is_number (Some k) n = eqb k n

-- whether a class is there and is c
abbrev pub is_class : Option ClassNo → ClassNo → Bool
is_class None c = false
is_class (Some d) c = eqb d.0 c.0

-- a method, and no constructor, of the name and arity
abbrev pub is_named : Method → ℕ → ℕ → Bool
is_named m name arity = not m.ctor && eqb m.name.0 name && eqb (length m.params) arity

-- one element type within another
abbrev pub elem_within : (ℕ → ℕ → Bool) → Elem → Elem → Bool
elem_within sub IntElem IntElem = true
elem_within sub BoolElem BoolElem = true
elem_within sub (RefElem c) (RefElem d) = sub c.0 d.0
elem_within sub a b = false

-- whether two flags are equal
abbrev pub same_flag : Bool → Bool → Bool
same_flag true b = b
same_flag false b = not b

-- one type within another: Null within all reference types, arrays of references as their elements where element nullity is equal (JLS 8, 4.10.3)
abbrev pub type_within : (ℕ → ℕ → Bool) → BaseType → BaseType → Bool
type_within sub Int Int = true
type_within sub BoolBase BoolBase = true
type_within sub Void Void = true
type_within sub NullBase NullBase = true
type_within sub NullBase (Ref c) = true
type_within sub NullBase (Array e nullable) = true
type_within sub (Ref c) (Ref d) = sub c.0 d.0
type_within sub (Array e nullable) (Ref c) = eqb c.0 0
type_within sub (Array e m) (Array f n) = same_flag m n && elem_within sub e f
type_within sub a b = false

module _ (P : Program) where
  -- reachability along the supertypes that classes name, by at most so many steps
  abbrev pub reaches : ℕ → ℕ → ℕ → Bool
  reaches zero c d = eqb c d
  reaches (suc steps) c d = eqb c d || some_of (λ s. reaches steps s.0 d) (supers_of (class_info P c))

  -- class c is class d or one of its subtypes; each is within Object
  abbrev pub sub : ℕ → ℕ → Bool
  sub c d = eqb d 0 || reaches (length P.classes) c d

  -- one base type within another
  abbrev pub fits : BaseType → BaseType → Bool
  fits a b = type_within sub a b

  -- the interfaces that a class names, in textual order
  abbrev pub interfaces : ℕ → List ClassNo
  interfaces c = filter (λ s. not (is_class (parent_of (class_info P c)) s)) (supers_of (class_info P c))

  -- the walk from a parent on, empty where there is no parent
  abbrev pub walk_parent : (ℕ → List ℕ) → Option ClassNo → List ℕ
  walk_parent rest None = []
  walk_parent rest (Some c) = rest c.0

  -- the walk from class c up, through at most so many levels
  abbrev pub walk_by : ℕ → ℕ → List ℕ
  walk_by zero c = []
  walk_by (suc steps) c = c ∷ walk_parent (walk_by steps) (parent_of (class_info P c)) ++ flat_map (λ s. walk_by steps s.0) (interfaces c)

  -- a class, then its parent's walk, then that of each interface that it names
  abbrev pub walk : ℕ → List ℕ
  walk c = walk_by (length P.classes) c

  -- the method that class d declares for a name and arity, where a private one counts at class c alone
  abbrev pub declared_method : ℕ → ℕ → ℕ → ℕ → Option ℕ
  declared_method c name arity d = first_at (λ m. is_named m name arity && eqb m.owner.0 d && (not m.is_private || eqb d c)) 0 P.methods

  -- the method that class c has for a name and arity
  abbrev pub method_of : ℕ → ℕ → ℕ → Option ℕ
  method_of c name arity = first_some (declared_method c name arity) (walk c)

  -- the field that class d declares for a name, where a private one counts at class c alone
  abbrev pub declared_field : ℕ → ℕ → ℕ → Option ℕ
  declared_field c name d = first_at (λ f. eqb f.name.0 name && eqb f.owner.0 d && (not f.is_private || eqb d c)) 0 P.fields

  -- the field that class c has for a name
  abbrev pub field_of : ℕ → ℕ → Option ℕ
  field_of c name = first_some (declared_field c name) (walk c)

  -- the constructor that class c declares for an arity
  abbrev pub constructor_of : ℕ → ℕ → Option ℕ
  constructor_of c arity = first_at (λ m. m.ctor && eqb m.owner.0 c && eqb (length m.params) arity) 0 P.methods

  -- a method's number, but None where the method has no body
  abbrev pub with_body : Option ℕ → Option ℕ
  with_body None = None
  with_body (Some k) = where_some (body_of (method_at P k)) k

  -- the method with a body that class c has for the name and arity of a given one
  abbrev pub selected_for : ℕ → Option Method → Option ℕ
  selected_for c None = None
  selected_for c (Some m) = with_body (method_of c m.name.0 (length m.params))

  -- the method with a body that class c has for a method's name and arity (JLS 8, 15.12.4.4)
  abbrev pub dispatch : ℕ → ℕ → Option ℕ
  dispatch c m = selected_for c (method_at P m)

  -- whether objects of class c have a field: it isn't static, and class c is within the one that declares it
  abbrev pub object_has : ℕ → Option Field → Bool
  object_has c None = false
  object_has c (Some f) = not f.is_static && sub c f.owner.0

  -- objects of class c have the field
  abbrev pub has_field : ℕ → ℕ → Bool
  has_field c f = object_has c (slice_get P.fields f)

  -- whether a method is declared in an interface
  abbrev pub in_interface : Method → Bool
  in_interface m = interface_of (class_info P m.owner.0)

  -- class c, which is no interface, has or inherits method m where one of its supertypes declares k
  abbrev pub class_pair : ℕ → Method → Method → ℕ → Bool
  class_pair m over under c = not (interface_of (class_info P c)) && is_number (method_of c over.name.0 (length over.params)) m && sub c under.owner.0

  -- in some class method m meets another one, k, of a supertype, which is neither private nor static
  abbrev pub class_pairs : ℕ → ℕ → Method → Method → Bool
  class_pairs m k over under = not (eqb m k) && not under.is_private && not under.is_static && some_of (class_pair m over under) (below (length P.classes))

  -- k stands in a superinterface of m's interface
  abbrev pub interface_pairs : Method → Method → Bool
  interface_pairs over under = in_interface over && in_interface under && not (eqb over.owner.0 under.owner.0) && sub over.owner.0 under.owner.0

  -- the methods m and k have one name and arity, and meet in a class or are of an interface and its superinterface
  abbrev pub pairs_of : ℕ → ℕ → Option Method → Option Method → Bool
  pairs_of m k None under = false
  pairs_of m k (Some over) None = false
  pairs_of m k (Some over) (Some under) = not over.ctor && is_named under over.name.0 (length over.params) && (class_pairs m k over under || interface_pairs over under)

  -- method m overrides method k, or must agree with it in some class (JLS 8, 8.4.8 and 9.4.1)
  abbrev pub is_pair : ℕ → ℕ → Bool
  is_pair m k = pairs_of m k (method_at P m) (method_at P k)
