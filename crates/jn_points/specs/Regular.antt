-- Regular programs: what the lists of a program have where its files have no row of the class table and of lowering. Class 0 is Object and class 1 String.
use Rattle.std.specs.Prelude.{ℕ, ◌^◌, ◌≡◌, ◌<◌, ◌≤◌, ◌⊎◌, Bool, true, false, not, ◌||◌, cond, eqb, List, [], ◌∷◌, length, pos, Option, Some, None, slice_get}
use Rattle.jn_base.specs.declared.number.BodyNo.{BodyNo}
use Rattle.jn_base.specs.declared.number.ClassNo.{ClassNo}
use Rattle.jn_base.specs.declared.number.PointNo.{PointNo}
use Rattle.jn_base.specs.declared.number.SlotNo.{SlotNo}
use Rattle.jn_quals.specs.Order.{null_or_committed}
use Rattle.jn_points.specs.declared.point.Operand.{Operand}
use Rattle.jn_points.specs.declared.point.Operator.{Operator}
use Rattle.jn_points.specs.declared.point.Operator.TheVariants.{Add, Sub, Mul, Div, Rem}
use Rattle.jn_points.specs.declared.point.StrOperation.{StrOperation}
use Rattle.jn_points.specs.declared.point.StrOperation.TheVariants.{Length, Equals}
use Rattle.jn_points.specs.declared.point.Literal.{Literal}
use Rattle.jn_points.specs.declared.point.Literal.TheVariants.{Int as IntOf, Truth, Str, Null}
use Rattle.jn_points.specs.declared.point.BaseType.{BaseType}
use Rattle.jn_points.specs.declared.point.BaseType.TheVariants.{Int, Bool as BoolBase, Void, Null as NullBase, Ref, Array}
use Rattle.jn_points.specs.declared.point.Elem.TheVariants.{Ref as RefElem}
use Rattle.jn_points.specs.declared.point.Point.{Point}
use Rattle.jn_points.specs.declared.point.PointKind.{PointKind}
use Rattle.jn_points.specs.declared.point.PointKind.TheVariants.{Const, Unary, Binary, Concat, SameRef, FieldRead, FieldWrite, StaticRead, StaticWrite, ElemRead, ArrayLen, NewArray, ArrayOf, New, CtorCall, Call, StrOp, Cast, Return}
use Rattle.jn_points.specs.declared.program.Class.{Class}
use Rattle.jn_points.specs.declared.program.Field.{Field}
use Rattle.jn_points.specs.declared.program.Method.{Method}
use Rattle.jn_points.specs.declared.program.Body.{Body}
use Rattle.jn_points.specs.declared.program.SlotInfo.{SlotInfo}
use Rattle.jn_points.specs.declared.program.Program.{Program}
use Rattle.jn_points.specs.Edges.{edges_of}
use Rattle.jn_points.specs.Lookup.{elem_base, is_array, is_ref_base, has_slot, points_of, regs_of, locals_of, class_of, body_of, ctor_of, static_of, private_of, params_of, result_base_of, interface_of, parent_of, class_info, body_at, point_at, reg_base, field_info, field_base, method_at, method_in}
use Rattle.jn_points.specs.Members.{some_of, sub, fits, dispatch, is_pair, is_class, is_named}
use Rattle.jn_points.specs.Shaped.{FromRead, IsVirtual, LeadsTo, ReceiverMatches, SlotsMatch, test_at, writes}
use Rattle.jn_points.specs.BaseRows.{is_void, is_primitive, string_base, given_count}
use Rattle.jn_points.specs.BaseTyping.{given_bases}
use Rattle.jn_points.specs.Operands.{operands, regs_in, origin_reg, origin_in, fields_named, methods_named, classes_named, classes_of_base}

-- all numbers of a list are less than n
abbrev pub AllBelow : ℕ → List ℕ → Type 0
AllBelow n [] = Unit {0}
AllBelow n (x ∷ xs) = (x < n) × AllBelow n xs

-- the target of an edge, if there is one, is less than n
abbrev pub Below : ℕ → Option PointNo → Type 0
Below n None = Unit {0}
Below n (Some to) = to.0 < n

-- the number of a slot, if there is one, is less than n
abbrev pub SlotBelow : ℕ → Option SlotNo → Type 0
SlotBelow n None = Unit {0}
SlotBelow n (Some slot) = slot.0 < n

-- the numbers of all slots that are there are less than n
abbrev pub SlotsBelow : ℕ → List (Option SlotNo) → Type 0
SlotsBelow n [] = Unit {0}
SlotsBelow n (x ∷ xs) = SlotBelow n x × SlotsBelow n xs

-- a register that may be missing, as a list of at most one
abbrev pub register_if : Option ℕ → List ℕ
register_if None = []
register_if (Some r) = r ∷ []

-- the types stand at the front of the registers
abbrev pub FrontOf : List BaseType → List BaseType → Type 0
FrontOf [] regs = Unit {0}
FrontOf (t ∷ ts) [] = ⊥
FrontOf (t ∷ ts) (r ∷ regs) = (r ≡ t) × FrontOf ts regs

-- the type of a literal (JLS 8, 15.8.1)
abbrev pub literal_base : Literal → BaseType
literal_base (IntOf i) = Int
literal_base (Truth b) = BoolBase
literal_base (Str n) = string_base
literal_base Null = NullBase

-- whether an operator makes an int of two: `+`, `-`, `*`, `/` and `%` (JLS 8, 15.17 and 15.18.2)
abbrev pub is_sum : Operator → Bool
is_sum Add = true
is_sum Sub = true
is_sum Mul = true
is_sum Div = true
is_sum Rem = true
is_sum op = false

-- the type of what an operation on a String gives: an int from `length`, a boolean from `isEmpty` and `equals`
abbrev pub operation_base : StrOperation → BaseType
operation_base Length = Int
operation_base op = BoolBase

-- `equals` is given what it compares with (JLS 8, 15.12.2)
abbrev pub HasArgument : StrOperation → Option Operand → Type 0
HasArgument Equals None = ⊥
HasArgument op other = Unit {0}

-- a static field is an int or a boolean; a boolean one starts with 0 or 1
abbrev pub StaticField : Field → Type 0
StaticField f = (is_primitive f.base ≡ true) × (f.base ≡ BoolBase → (f.first ≡ pos 0) ⊎ (f.first ≡ pos 1))

-- whether a method's body is there
abbrev pub has_body : Option BodyNo → Bool
has_body None = false
has_body (Some b) = true

-- whether a number is there
abbrev pub has_number : Option ℕ → Bool
has_number None = false
has_number (Some n) = true

-- two methods, and no constructors, of one name and arity
abbrev pub HasName : Method → Method → Type 0
HasName x y = (x.ctor ≡ false) × (is_named y x.name.0 (length x.params) ≡ true)

module _ (P : Program) where
  -- a class, if one is named, is one of the program
  abbrev pub ClassBelow : Option ClassNo → Type 0
  ClassBelow None = Unit {0}
  ClassBelow (Some c) = c.0 < length P.classes

  -- all classes of a list are among those of the program
  abbrev pub AllClasses : List ClassNo → Type 0
  AllClasses [] = Unit {0}
  AllClasses (c ∷ cs) = (c.0 < length P.classes) × AllClasses cs

  -- all classes that the types name are among those of the program
  abbrev pub AllBases : List BaseType → Type 0
  AllBases [] = Unit {0}
  AllBases (t ∷ ts) = AllBelow (length P.classes) (classes_of_base t) × AllBases ts

  -- a body, if there is one, is one of the program
  abbrev pub BodyBelow : Option BodyNo → Type 0
  BodyBelow None = Unit {0}
  BodyBelow (Some b) = b.0 < length P.bodies

  -- numbers of classes: none is its own supertype (JLS 8, 8.1.4 and 9.1.3), so supertypes can have lower ranks; what Object, String and interfaces have above them
  pub record RegularClass (rank : ℕ → ℕ) (c : ℕ) (x : Class) : Type 0 where
    pub supers : AllClasses x.supers
    pub ranked : (s : ClassNo) → some_of (λ t. eqb t.0 s.0) x.supers ≡ true → rank s.0 < rank c
    pub parent : (p : ClassNo) → x.parent ≡ Some p → some_of (λ t. eqb t.0 p.0) x.supers ≡ true
    pub parent_class : (p : ClassNo) → x.parent ≡ Some p → x.interface ≡ false → interface_of (class_info P p.0) ≡ false
    pub interfaces : (s : ClassNo) → some_of (λ t. eqb t.0 s.0) x.supers ≡ true → is_class x.parent s ≡ false → interface_of (class_info P s.0) ≡ true
    -- an interface has no parent but perhaps Object
    pub above_interface : (p : ClassNo) → x.interface ≡ true → x.parent ≡ Some p → p.0 ≡ 0
    -- nothing stands under String or a final class (8.1.1.2)
    pub no_string : (s : ClassNo) → some_of (λ t. eqb t.0 s.0) x.supers ≡ true → s.0 ≡ 1 → ⊥
    pub no_final : (p : ClassNo) (y : Class) → x.parent ≡ Some p → class_info P p.0 ≡ Some y → y.is_final ≡ false

  -- the classes as a whole: supertypes run in no circle, Object and String are there, and no two declared classes have one name
  pub record RegularClasses : Type 0 where
    pub rank : ℕ → ℕ
    pub few : (c : ℕ) → rank c < length P.classes
    pub classes : (c : ℕ) (x : Class) → class_info P c ≡ Some x → RegularClass rank c x
    pub object : Class
    pub object_there : class_info P 0 ≡ Some object
    pub object_class : object.interface ≡ false
    pub above_object : object.supers ≡ []
    pub string : Class
    pub string_there : class_info P 1 ≡ Some string
    pub string_class : string.interface ≡ false
    pub above_string : (s : ClassNo) → some_of (λ t. eqb t.0 s.0) string.supers ≡ true → s.0 ≡ 0
    -- one declared class of a name, and none named as Object or String (7.6)
    pub names : (c d : ℕ) (x y : Class) → class_info P c ≡ Some x → class_info P d ≡ Some y → 1 < d → x.name ≡ y.name → c ≡ d

  -- a field's slot is written, and is {N, C}
  pub record StartsNull (slot : SlotNo) : Type 0 where
    pub info : SlotInfo
    pub there : slice_get P.slots slot.0 ≡ Some info
    pub written : info.inferred ≡ false
    pub start : info.start ≡ null_or_committed

  -- a monotonic field is an object's reference, and may start null
  pub record MonotonicField (x : Field) : Type 0 where
    pub instance : x.is_static ≡ false
    pub slot : SlotNo
    pub there : x.slot ≡ Some slot
    pub starts : StartsNull slot

  -- field f is of a declared class, has a slot exactly where its type is a reference, and hides no field of its name
  pub record RegularField (f : ℕ) (x : Field) : Type 0 where
    pub owner : x.owner.0 < length P.classes
    pub no_interface : interface_of (class_info P x.owner.0) ≡ false
    pub declared : 1 < x.owner.0
    pub base : AllBelow (length P.classes) (classes_of_base x.base)
    pub static : x.is_static ≡ true → StaticField x
    pub slot : has_slot x.slot ≡ is_ref_base x.base
    pub slot_there : SlotBelow (length P.slots) x.slot
    -- a field's slot that isn't inferred has C, and no F
    pub slot_committed : (n : SlotNo) (info : SlotInfo) → x.slot ≡ Some n → slice_get P.slots n.0 ≡ Some info → info.inferred ≡ false → (info.start.committed ≡ true) × (info.start.free ≡ false)
    pub monotonic : x.is_monotonic ≡ true → MonotonicField x
    -- one field of a name along the supertypes of a class (8.3)
    pub names : (g : ℕ) (y : Field) → field_info P g ≡ Some y → sub P x.owner.0 y.owner.0 ≡ true → x.name ≡ y.name → f ≡ g

  -- a method or constructor has slots as its types want, modifiers that go together, and its name and arity alone in its class
  pub record RegularMethod (m : ℕ) (x : Method) : Type 0 where
    pub owner : x.owner.0 < length P.classes
    pub bases : AllBases (x.result ∷ x.params)
    pub body : BodyBelow x.body
    pub params : SlotsMatch x.param_slots x.params
    pub params_there : SlotsBelow (length P.slots) x.param_slots
    pub result : has_slot x.result_slot ≡ is_ref_base x.result
    pub result_there : SlotBelow (length P.slots) x.result_slot
    pub receiver : has_slot x.receiver ≡ not (x.is_static || x.ctor)
    pub receiver_there : SlotBelow (length P.slots) x.receiver
    -- one method or constructor of a name and arity in a class
    pub names : (k : ℕ) (y : Method) → method_at P k ≡ Some y → x.owner ≡ y.owner → x.name ≡ y.name → length x.params ≡ length y.params → m ≡ k
    -- what has no body is abstract, and neither private, static, final nor a constructor (8.4.3.1)
    pub abstract : x.is_abstract ≡ not (has_body x.body)
    pub plain : x.is_abstract ≡ true → (x.is_private || x.is_static || x.is_final || x.ctor) ≡ false
    pub ctor : x.ctor ≡ true → (x.is_static ≡ false) × (x.result ≡ Void)
    pub ctor_class : x.ctor ≡ true → interface_of (class_info P x.owner.0) ≡ false
    -- Object has no member but a constructor without parameters, and String has none
    pub of_object : x.owner.0 ≡ 0 → (x.ctor ≡ true) × (x.params ≡ [])
    pub of_string : x.owner.0 ≡ 1 → ⊥
    -- a main (12.1.4)
    pub main : x.is_main ≡ true → (x.ctor ≡ false) × (x.is_static ≡ true) × (has_body x.body ≡ true) × (x.result ≡ Void) × (x.params ≡ Array (RefElem (record { 0 = 1 })) false ∷ [])
    -- a static method may hide one of the same types only, and an instance method none (8.4.8)
    pub hides : (k : ℕ) (y : Method) → method_at P k ≡ Some y → HasName x y → y.is_static ≡ true → y.is_private ≡ false → eqb x.owner.0 y.owner.0 ≡ false → sub P x.owner.0 y.owner.0 ≡ true → (x.is_static ≡ true) × (x.params ≡ y.params) × (fits P x.result y.result ≡ true) × (y.is_final ≡ false)

  -- class p is the parent of class c
  abbrev pub IsParent : ℕ → ℕ → Type 0
  IsParent c p = parent_of (class_info P c) ≡ Some (record { 0 = p })

  -- class c is Object or stands right under it
  abbrev pub UnderObject : ℕ → Type 0
  UnderObject c = (c ≡ 0) ⊎ IsParent c 0

  -- whether the method of a number has a body
  abbrev pub has_body_at : ℕ → Bool
  has_body_at m = has_number (body_of (method_at P m))

  -- an overriding pair agrees in its types (8.4.8.3), and the overridden method is not final
  pub record RegularPair (over under : Method) : Type 0 where
    pub params : over.params ≡ under.params
    pub result : fits P over.result under.result ≡ true
    pub no_final : under.is_final ≡ false
    pub instance : over.is_static ≡ under.is_static

  -- a class that is neither abstract nor an interface has a body for each method (8.1.1.1)
  abbrev pub IsConcrete : ℕ → Type 0
  IsConcrete c = (x : Class) × (class_info P c ≡ Some x) × (x.interface ≡ false) × (x.is_abstract ≡ false)

  -- each method that can be called on an object of a concrete class selects one with a body (JLS 8, 15.12.4.4)
  pub record Implements : Type 0 where
    pub bodies : (c m : ℕ) → IsConcrete c → IsVirtual P m → sub P c (class_of (method_at P m)) ≡ true → (k : ℕ) × (dispatch P c m ≡ Some k)

  -- the register that a point writes has the type of the value that it gives; that of a Move is the local's
  abbrev pub Typed : ℕ → PointKind → Type 0
  Typed b (Const dst value) = reg_base P b dst.0 ≡ literal_base value
  Typed b (Unary dst negate of) = reg_base P b dst.0 ≡ Int
  Typed b (Binary dst op l r) = reg_base P b dst.0 ≡ cond (is_sum op) Int BoolBase
  Typed b (Concat dst l r) = reg_base P b dst.0 ≡ string_base
  Typed b (SameRef dst equal l r) = reg_base P b dst.0 ≡ BoolBase
  Typed b (FieldRead dst object field) = reg_base P b dst.0 ≡ field_base P field.0
  Typed b (StaticRead dst field) = reg_base P b dst.0 ≡ field_base P field.0
  Typed b (ElemRead dst array index) = reg_base P b dst.0 ≡ elem_base (reg_base P b array.reg.0)
  Typed b (ArrayLen dst array) = reg_base P b dst.0 ≡ Int
  Typed b (NewArray dst base count) = (is_array base ≡ true) × (reg_base P b dst.0 ≡ base)
  Typed b (ArrayOf dst base values) = (is_array base ≡ true) × (reg_base P b dst.0 ≡ base)
  Typed b (New dst ctor args) = reg_base P b dst.0 ≡ Ref (record { 0 = class_of (method_at P ctor.0) })
  Typed b (Call (Some dst) method receiver direct args) = (is_void (result_base_of (method_at P method.0)) ≡ false) × (reg_base P b dst.0 ≡ result_base_of (method_at P method.0))
  Typed b (StrOp dst op of other) = reg_base P b dst.0 ≡ operation_base op
  Typed b (Cast dst of class) = reg_base P b dst.0 ≡ Ref class
  Typed b kind = Unit {0}

  -- whether a field is static (JLS 8, 8.3.1.1); false where there is none
  abbrev pub static_field : Option Field → Bool
  static_field None = false
  static_field (Some f) = f.is_static

  -- a point that takes an object for a field names one that isn't static, and a point that takes none a static one
  abbrev pub NamesFields : PointKind → Type 0
  NamesFields (FieldRead dst object field) = static_field (field_info P field.0) ≡ false
  NamesFields (FieldWrite object field value) = static_field (field_info P field.0) ≡ false
  NamesFields (StaticRead dst field) = static_field (field_info P field.0) ≡ true
  NamesFields (StaticWrite field value) = static_field (field_info P field.0) ≡ true
  NamesFields kind = Unit {0}

  -- there are as many arguments as the method has parameters
  abbrev pub ArgumentsMatch : ℕ → List Operand → Type 0
  ArgumentsMatch m args = length args ≡ length (params_of (method_at P m))

  -- a virtual call names no private method; one without dispatch names a method with a body
  abbrev pub Selects : ℕ → Option Operand → Bool → Type 0
  Selects m None direct = Unit {0}
  Selects m (Some r) true = has_body_at m ≡ true
  Selects m (Some r) false = private_of (method_at P m) ≡ false

  -- a point names a constructor or a method as its kind wants, with arguments and a receiver that it can take
  abbrev pub NamesMethods : PointKind → Type 0
  NamesMethods (New dst ctor args) = (ctor_of (method_at P ctor.0) ≡ true) × IsConcrete (class_of (method_at P ctor.0)) × ArgumentsMatch ctor.0 args
  NamesMethods (CtorCall ctor args own) = (ctor_of (method_at P ctor.0) ≡ true) × ArgumentsMatch ctor.0 args
  NamesMethods (Call dst method receiver direct args) = (ctor_of (method_at P method.0) ≡ false) × ArgumentsMatch method.0 args × ReceiverMatches P method.0 receiver × Selects method.0 receiver direct
  NamesMethods (StrOp dst op of other) = HasArgument op other
  NamesMethods kind = Unit {0}

  -- numbers that a point of a body names are in range
  pub record InRange (b : ℕ) (k : PointKind) : Type 0 where
    pub reads : AllBelow (regs_of (body_at P b)) (regs_in (operands k))
    pub written : AllBelow (regs_of (body_at P b)) (register_if (writes k))
    pub origin : AllBelow (locals_of (body_at P b)) (origin_reg (origin_in k))
    pub fields : AllBelow (length P.fields) (fields_named k)
    pub methods : AllBelow (length P.methods) (methods_named k)
    pub classes : AllBelow (length P.classes) (classes_named k)

  -- the constructor call of body b
  pub record CtorCallAt (b p : ℕ) (ctor : ℕ) (own : Bool) : Type 0 where
    pub pt : Point
    pub args : List Operand
    pub there : point_at P b p ≡ Some pt
    pub calls : pt.kind ≡ CtorCall (record { 0 = ctor }) args own

  -- some point of body b is a constructor call, `this(..)` or `super(..)` (JLS 8, 8.8.7.1)
  abbrev pub CallsCtor : ℕ → Type 0
  CallsCtor b = (p : ℕ) × (ctor : ℕ) × (own : Bool) × CtorCallAt b p ctor own

  -- a constructor call: in constructors alone, at most one; of the own class, without a circle (8.8.7), or of the parent; nothing but its own edge passes it, nothing leads back after it or ends before it (8.8.7.1)
  pub record RegularCtorCall (ctor_rank : ℕ → ℕ) (b p ctor : ℕ) (own : Bool) : Type 0 where
    pub inside : ctor_of (method_in P b) ≡ true
    pub one : (q k : ℕ) (o : Bool) → CtorCallAt b q k o → q ≡ p
    pub same : own ≡ true → class_of (method_at P ctor) ≡ class_of (method_in P b)
    pub above : own ≡ false → IsParent (class_of (method_in P b)) (class_of (method_at P ctor))
    pub no_circle : (x : Body) → own ≡ true → body_at P b ≡ Some x → ctor_rank ctor < ctor_rank x.method.0
    pub passed : (q to : ℕ) (pt : Point) → point_at P b q ≡ Some pt → q ≤ p → LeadsTo (edges_of pt.kind q) to → p < to → q ≡ p
    pub back : (q to : ℕ) (pt : Point) → point_at P b q ≡ Some pt → p < q → LeadsTo (edges_of pt.kind q) to → p < to
    pub no_return : (q : ℕ) (pt : Point) (v : Option Operand) → point_at P b q ≡ Some pt → q ≤ p → pt.kind ≡ Return v → ⊥

  -- point p of body b: what it names is there and of the right sort, its edges stay in the body, and `this` is kept
  pub record RegularPoint (b p : ℕ) (k : PointKind) : Type 0 where
    pub range : InRange b k
    pub inside : Below (length (points_of (body_at P b))) (edges_of k p).first × Below (length (points_of (body_at P b))) (edges_of k p).second
    pub typed : Typed b k
    pub fields : NamesFields k
    pub methods : NamesMethods k
    -- a test with an origin is entered by the edge of the read of that field alone
    pub tests : (to : ℕ) → LeadsTo (edges_of k p) to → FromRead k (test_at P b to)
    pub this_kept : static_of (method_in P b) ≡ false → writes k ≡ Some 0 → ⊥

  -- body b is that of just one method, has what the method is given in its first registers, and its points are regular
  pub record RegularBody (ctor_rank : ℕ → ℕ) (b : ℕ) (x : Body) : Type 0 where
    pub some : 0 < length x.points
    pub few : length x.points < 2 ^ 32
    pub method : x.method.0 < length P.methods
    pub its_own : (m : ℕ) → body_of (method_at P m) ≡ Some b → m ≡ x.method.0
    pub of_method : body_of (method_at P x.method.0) ≡ Some b
    pub front : FrontOf (given_bases P x.method.0) x.regs
    pub given : given_count (method_at P x.method.0) ≤ x.locals
    pub locals : x.locals ≤ length x.regs
    pub bases : AllBases x.regs
    pub entry : test_at P b 0 ≡ None
    pub points : (p : ℕ) (pt : Point) → point_at P b p ≡ Some pt → RegularPoint b p pt.kind
    pub ctor_calls : (p ctor : ℕ) (own : Bool) → CtorCallAt b p ctor own → RegularCtorCall ctor_rank b p ctor own
    -- a constructor calls another one unless its class is Object or stands right under it
    pub calls : ctor_of (method_in P b) ≡ true → CallsCtor b ⊎ UnderObject (class_of (method_in P b))

  -- each item has a number of 32 bits
  pub record FewItems : Type 0 where
    pub classes : length P.classes < 2 ^ 32
    pub fields : length P.fields < 2 ^ 32
    pub methods : length P.methods < 2 ^ 32
    pub bodies : length P.bodies < 2 ^ 32
    pub slots : length P.slots < 2 ^ 32

  -- a regular program: its classes, fields, methods, overriding pairs and bodies are as they should be
  pub record Regular : Type 0 where
    pub few : FewItems
    pub classes : RegularClasses
    pub fields : (f : ℕ) (x : Field) → field_info P f ≡ Some x → RegularField f x
    pub methods : (m : ℕ) (x : Method) → method_at P m ≡ Some x → RegularMethod m x
    pub pairs : (m k : ℕ) (x y : Method) → is_pair P m k ≡ true → method_at P m ≡ Some x → method_at P k ≡ Some y → RegularPair x y
    pub implements : Implements
    -- constructors of a class call each other without a circle
    pub ctor_rank : ℕ → ℕ
    pub bodies : (b : ℕ) (x : Body) → body_at P b ≡ Some x → RegularBody ctor_rank b x
