-- What programs are made of that show that no law is empty.
use Rattle.std.specs.Prelude.{ℕ, Bool, true, false, List, [], ◌∷◌, Some, None}
use Rattle.jn_base.specs.declared.place.Span.{Span}
use Rattle.jn_quals.specs.Qualifier.{Qualifier}
use Rattle.jn_points.specs.declared.point.Operand.{Operand}
use Rattle.jn_points.specs.declared.point.BaseType.{BaseType}
use Rattle.jn_points.specs.declared.point.BaseType.TheVariants.{Void, Array}
use Rattle.jn_points.specs.declared.point.Elem.TheVariants.{Ref as RefElem}
use Rattle.jn_points.specs.declared.point.Point.{Point}
use Rattle.jn_points.specs.declared.point.PointKind.{PointKind}
use Rattle.jn_points.specs.declared.program.Class.{Class}
use Rattle.jn_points.specs.declared.program.Method.{Method}
use Rattle.jn_env.specs.Environment.{Env}

abbrev pub no_span : Span
no_span = record { file = record { 0 = 0 }; from = 0; to = 0 }

abbrev pub point_of : PointKind → Point
point_of k = record { kind = k; span = no_span }

abbrev pub reg : ℕ → Operand
reg n = record { reg = record { 0 = n }; span = no_span }

abbrev pub strings : BaseType
strings = Array (RefElem (record { 0 = 1 })) false

abbrev pub object_class : Class
object_class = record { name = record { 0 = 0 }; span = no_span; interface = false; is_abstract = false; is_final = false; parent = None; supers = [] }

-- a class of a name right under another one
abbrev pub class_under : ℕ → ℕ → Bool → Class
class_under name parent is_final = record { name = record { 0 = name }; span = no_span; interface = false; is_abstract = false; is_final = is_final; parent = Some (record { 0 = parent }); supers = record { 0 = parent } ∷ [] }

-- `main` of a class, with a body, whose parameter has a slot
abbrev pub main_method : ℕ → ℕ → ℕ → Method
main_method class body slot = record {
  name = record { 0 = 9 };
  span = no_span;
  owner = record { 0 = class };
  params = strings ∷ [];
  param_spans = no_span ∷ [];
  result = Void;
  ctor = false;
  is_static = true;
  is_private = false;
  is_abstract = false;
  is_final = false;
  is_main = true;
  body = Some (record { 0 = body });
  receiver = None;
  param_slots = Some (record { 0 = slot }) ∷ [];
  result_slot = None;
}

abbrev pub quals_env : List Qualifier → Env
quals_env qs = record { quals = qs; facts = []; assigned = [] }
