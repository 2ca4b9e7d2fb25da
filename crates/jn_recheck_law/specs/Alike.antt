-- When two programs, each with the texts of its names, declare the same, and two bodies do the same at the same places.
use Rattle.std.specs.Prelude.{ℕ, ◌+◌, ◌≡◌, ◌≤◌, List, [], ◌∷◌, Option, Some, None, slice_get}
use Rattle.jn_base.specs.declared.number.NameNo.{NameNo}
use Rattle.jn_points.specs.declared.point.Literal.TheVariants.{Str}
use Rattle.jn_points.specs.declared.point.Point.{Point}
use Rattle.jn_points.specs.declared.point.PointKind.{PointKind}
use Rattle.jn_points.specs.declared.point.PointKind.TheVariants.{Const}
use Rattle.jn_points.specs.declared.program.Class.{Class}
use Rattle.jn_points.specs.declared.program.Field.{Field}
use Rattle.jn_points.specs.declared.program.Method.{Method}
use Rattle.jn_points.specs.declared.program.Body.{Body}
use Rattle.jn_points.specs.declared.program.SlotInfo.{SlotInfo}
use Rattle.jn_points.specs.declared.program.Program.{Program}
use Rattle.jn_places_law.specs.Bare.{bare_kind as placeless}

-- two lists have one length, and at each place what is alike there
abbrev pub AllAlike : {A : Type 0} → (ℕ → A → A → Type 0) → ℕ → List A → List A → Type 0
AllAlike R i [] [] = Unit {0}
AllAlike R i [] (y ∷ ys) = ⊥
AllAlike R i (x ∷ xs) [] = ⊥
AllAlike R i (x ∷ xs) (y ∷ ys) = R i x y × AllAlike R (i + 1) xs ys

-- a point but for the number of its string
abbrev pub bare_kind : PointKind → PointKind
bare_kind (Const dst (Str n)) = Const dst (Str (record { 0 = 0 }))
bare_kind kind = kind

-- the number of a point's string
abbrev pub string_of : PointKind → Option NameNo
string_of (Const dst (Str n)) = Some n
string_of kind = None

abbrev pub text_at : List (List ℕ) → Option NameNo → Option (List ℕ)
text_at names None = None
text_at names (Some n) = slice_get names n.0

-- a point but for the places of its operands and the number of its string
abbrev pub acting_kind : PointKind → PointKind
acting_kind kind = bare_kind (placeless kind)

-- a point that does the same, wherever it and its operands stand and whatever the text of its string
pub record SameKind (i : ℕ) (x y : Point) : Type 0 where
  pub kind : acting_kind x.kind ≡ acting_kind y.kind

-- bodies of one method with equal registers, parameters and locals, and points that do the same; neither places nor strings are compared
pub record ActsAlike (x y : Body) : Type 0 where
  pub method : x.method ≡ y.method
  pub regs : x.regs ≡ y.regs
  pub locals : x.locals ≡ y.locals
  pub points : AllAlike SameKind 0 x.points y.points

module _ (names more : List (List ℕ)) where
  -- two names have one text
  abbrev pub SameName : NameNo → NameNo → Type 0
  SameName n m = slice_get names n.0 ≡ slice_get more m.0

  -- the names of Object and String, which are the first two, aren't compared; no span is
  pub record SameClass (i : ℕ) (x y : Class) : Type 0 where
    pub name : 2 ≤ i → SameName x.name y.name
    pub interface : x.interface ≡ y.interface
    pub is_abstract : x.is_abstract ≡ y.is_abstract
    pub is_final : x.is_final ≡ y.is_final
    pub parent : x.parent ≡ y.parent
    pub supers : x.supers ≡ y.supers

  pub record SameField (i : ℕ) (x y : Field) : Type 0 where
    pub name : SameName x.name y.name
    pub owner : x.owner ≡ y.owner
    pub base : x.base ≡ y.base
    pub is_static : x.is_static ≡ y.is_static
    pub is_final : x.is_final ≡ y.is_final
    pub is_private : x.is_private ≡ y.is_private
    pub is_monotonic : x.is_monotonic ≡ y.is_monotonic
    pub first : x.first ≡ y.first
    pub slot : x.slot ≡ y.slot

  -- the name of Object's constructor, which is the first method, isn't compared
  pub record SameMethod (i : ℕ) (x y : Method) : Type 0 where
    pub name : 1 ≤ i → SameName x.name y.name
    pub owner : x.owner ≡ y.owner
    pub params : x.params ≡ y.params
    pub result : x.result ≡ y.result
    pub ctor : x.ctor ≡ y.ctor
    pub is_static : x.is_static ≡ y.is_static
    pub is_private : x.is_private ≡ y.is_private
    pub is_abstract : x.is_abstract ≡ y.is_abstract
    pub is_final : x.is_final ≡ y.is_final
    pub is_main : x.is_main ≡ y.is_main
    pub body : x.body ≡ y.body
    pub receiver : x.receiver ≡ y.receiver
    pub param_slots : x.param_slots ≡ y.param_slots
    pub result_slot : x.result_slot ≡ y.result_slot

  pub record SameSlot (i : ℕ) (x y : SlotInfo) : Type 0 where
    pub start : x.start ≡ y.start
    pub inferred : x.inferred ≡ y.inferred

  -- the programs have equal classes, fields, methods and slots
  pub record SameDeclarations (P Q : Program) : Type 0 where
    pub classes : AllAlike SameClass 0 P.classes Q.classes
    pub fields : AllAlike SameField 0 P.fields Q.fields
    pub methods : AllAlike SameMethod 0 P.methods Q.methods
    pub slots : AllAlike SameSlot 0 P.slots Q.slots

  -- a point at the same place that does the same, with strings of one text
  pub record SamePoint (i : ℕ) (x y : Point) : Type 0 where
    pub span : x.span ≡ y.span
    pub kind : bare_kind x.kind ≡ bare_kind y.kind
    pub string : text_at names (string_of x.kind) ≡ text_at more (string_of y.kind)

  -- bodies of one method with equal registers, parameters, locals and points
  pub record SameBody (x y : Body) : Type 0 where
    pub method : x.method ≡ y.method
    pub regs : x.regs ≡ y.regs
    pub locals : x.locals ≡ y.locals
    pub points : AllAlike SamePoint 0 x.points y.points
