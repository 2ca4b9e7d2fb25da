-- What the example programs are made of.
use Rattle.std.specs.Prelude.{ℕ, Bool, true, false, List, [], ◌∷◌, Option, Some, None, map}
use Rattle.jn_base.specs.declared.number.SlotNo.{SlotNo}
use Rattle.jn_base.specs.declared.place.Span.{Span}
use Rattle.jn_points.specs.declared.point.Operand.{Operand}
use Rattle.jn_points.specs.declared.point.BaseType.{BaseType}
use Rattle.jn_points.specs.declared.point.BaseType.TheVariants.{Void, Ref}
use Rattle.jn_points.specs.declared.point.Point.{Point}
use Rattle.jn_points.specs.declared.point.PointKind.{PointKind}
use Rattle.jn_points.specs.declared.program.Class.{Class}
use Rattle.jn_points.specs.declared.program.Method.{Method}

-- the place of all that stands nowhere
abbrev pub no_span : Span
no_span = record { file = record { 0 = 0 }; from = 0; to = 0 }

-- a point that stands nowhere
abbrev pub point_of : PointKind → Point
point_of k = record { kind = k; span = no_span }

-- the register of a number
abbrev pub reg : ℕ → Operand
reg n = record { reg = record { 0 = n }; span = no_span }

-- the type of a class
abbrev pub ref : ℕ → BaseType
ref c = Ref (record { 0 = c })

-- `Object`
abbrev pub object_class : Class
object_class = record { name = record { 0 = 0 }; span = no_span; interface = false; is_abstract = false; is_final = false; parent = None; supers = [] }

-- a class of a name right under another one
abbrev pub class_under : ℕ → ℕ → Bool → Class
class_under name parent is_final = record { name = record { 0 = name }; span = no_span; interface = false; is_abstract = false; is_final = is_final; parent = Some (record { 0 = parent }); supers = record { 0 = parent } ∷ [] }

-- a constructor of a class
abbrev pub ctor_in : ℕ → List BaseType → List (Option SlotNo) → ℕ → Method
ctor_in class params slots body = record {
  name = record { 0 = class };
  span = no_span;
  owner = record { 0 = class };
  params = params;
  param_spans = map (λ (t : BaseType). no_span) params;
  result = Void;
  ctor = true;
  is_static = false;
  is_private = false;
  is_abstract = false;
  is_final = false;
  is_main = false;
  body = Some (record { 0 = body });
  receiver = None;
  param_slots = slots;
  result_slot = None;
}
