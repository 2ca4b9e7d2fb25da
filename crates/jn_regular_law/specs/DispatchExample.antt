-- A program with an interface, virtual calls, overriding, a call of an own constructor, a null test of a field, a static field and points that no path reaches, so that no part of Regular is empty:
--   interface Named { String name(); }
--   class Link implements Named { @Nullable Link next; static boolean seen; Link(@Nullable Link n) { this.next = n; } Link() { this(null); }
--     public String name() { if (this.next == null) { return ""; } return this.next.name(); } }
--   final class Leaf extends Link { Leaf() { super(); } public String name() { return ""; }
--     public static void main(String[] words) { Leaf.seen = true; Named x = new Leaf(); String s = x.name(); System.out.println(s); if (false) { return 1; } if (Leaf.seen) { } } }
use Rattle.std.specs.Prelude.{ℕ, Bool, true, false, List, [], ◌∷◌, Option, Some, None, pos}
use Rattle.jn_base.specs.declared.number.BodyNo.{BodyNo}
use Rattle.jn_points.specs.declared.point.BaseType.TheVariants.{Int, Bool as BoolBase, Null as NullBase}
use Rattle.jn_points.specs.declared.point.Literal.TheVariants.{Int as IntOf, Truth, Str, Null}
use Rattle.jn_points.specs.declared.point.Point.{Point}
use Rattle.jn_points.specs.declared.point.PointKind.TheVariants.{Const, Move, FieldRead, FieldWrite, StaticRead, StaticWrite, New, CtorCall, Call, Print, TestNull, Branch, Goto, Return}
use Rattle.jn_points.specs.declared.program.Class.{Class}
use Rattle.jn_points.specs.declared.program.Field.{Field}
use Rattle.jn_points.specs.declared.program.Method.{Method}
use Rattle.jn_points.specs.declared.program.SlotInfo.{SlotInfo}
use Rattle.jn_points.specs.declared.program.Program.{Program}
use Rattle.jn_soundness.specs.ExampleParts.{no_span, point_of, reg, strings, object_class, class_under, main_method}
use Rattle.jn_soundness.specs.ChainExample.{ref, ctor_in, body_of_method}

abbrev pub named_interface : Class
named_interface = record { name = record { 0 = 2 }; span = no_span; interface = true; is_abstract = false; is_final = false; parent = None; supers = [] }

abbrev pub link_class : Class
link_class = record { name = record { 0 = 3 }; span = no_span; interface = false; is_abstract = false; is_final = false; parent = Some (record { 0 = 0 }); supers = record { 0 = 0 } ∷ record { 0 = 2 } ∷ [] }

abbrev pub next_field : Field
next_field = record { name = record { 0 = 5 }; span = no_span; owner = record { 0 = 3 }; base = ref 3; is_static = false; is_final = false; is_private = false; is_monotonic = false; first = pos 0; slot = Some (record { 0 = 0 }) }

abbrev pub seen_field : Field
seen_field = record { name = record { 0 = 6 }; span = no_span; owner = record { 0 = 3 }; base = BoolBase; is_static = true; is_final = false; is_private = false; is_monotonic = false; first = pos 0; slot = None }

-- `String name()` of a class, with the slots of its receiver and its result
abbrev pub name_method : ℕ → Option BodyNo → Bool → ℕ → ℕ → Method
name_method class body is_abstract receiver result = record {
  name = record { 0 = 7 };
  span = no_span;
  owner = record { 0 = class };
  params = [];
  param_spans = [];
  result = ref 1;
  ctor = false;
  is_static = false;
  is_private = false;
  is_abstract = is_abstract;
  is_final = false;
  is_main = false;
  body = body;
  receiver = Some (record { 0 = receiver });
  param_slots = [];
  result_slot = Some (record { 0 = result });
}

abbrev pub object_points : List Point
object_points = point_of (Return None) ∷ []

abbrev pub link_points : List Point
link_points = point_of (FieldWrite (reg 0) (record { 0 = 0 }) (reg 1)) ∷ point_of (Return None) ∷ []

abbrev pub own_points : List Point
own_points = point_of (Const (record { 0 = 1 }) Null) ∷ point_of (CtorCall (record { 0 = 2 }) (reg 1 ∷ []) true) ∷ point_of (Return None) ∷ []

abbrev pub name_points : List Point
name_points =
    point_of (FieldRead (record { 0 = 1 }) (reg 0) (record { 0 = 0 }))
    ∷ point_of (TestNull (reg 1) (Some (record { reg = record { 0 = 0 }; field = record { 0 = 0 } })) (record { 0 = 2 }) (record { 0 = 4 }))
    ∷ point_of (Const (record { 0 = 2 }) (Str (record { 0 = 0 })))
    ∷ point_of (Return (Some (reg 2)))
    ∷ point_of (FieldRead (record { 0 = 1 }) (reg 0) (record { 0 = 0 }))
    ∷ point_of (Call (Some (record { 0 = 2 })) (record { 0 = 4 }) (Some (reg 1)) false [])
    ∷ point_of (Return (Some (reg 2)))
    ∷ point_of (Return None)
    ∷ []

abbrev pub leaf_points : List Point
leaf_points = point_of (CtorCall (record { 0 = 3 }) [] false) ∷ point_of (Return None) ∷ []

abbrev pub leaf_name_points : List Point
leaf_name_points = point_of (Const (record { 0 = 1 }) (Str (record { 0 = 0 }))) ∷ point_of (Return (Some (reg 1))) ∷ point_of (Return None) ∷ []

abbrev pub main_points : List Point
main_points =
    point_of (Const (record { 0 = 3 }) (Truth true))
    ∷ point_of (StaticWrite (record { 0 = 1 }) (reg 3))
    ∷ point_of (New (record { 0 = 4 }) (record { 0 = 5 }) [])
    ∷ point_of (Move (record { 0 = 1 }) (reg 4) None)
    ∷ point_of (Call (Some (record { 0 = 5 })) (record { 0 = 1 }) (Some (reg 1)) false [])
    ∷ point_of (Move (record { 0 = 2 }) (reg 5) None)
    ∷ point_of (Print (reg 2))
    ∷ point_of (Goto (record { 0 = 10 }))
    ∷ point_of (Const (record { 0 = 6 }) (IntOf (pos 1)))
    ∷ point_of (Return (Some (reg 6)))
    ∷ point_of (StaticRead (record { 0 = 3 }) (record { 0 = 1 }))
    ∷ point_of (Branch (reg 3) (record { 0 = 12 }) (record { 0 = 12 }))
    ∷ point_of (Return None)
    ∷ []

abbrev pub slot_info : Bool → SlotInfo
slot_info null = record { start = record { null = null; committed = true; free = false }; inferred = false }

abbrev pub dispatch_program : Program
dispatch_program = record {
  classes = object_class ∷ class_under 1 0 true ∷ named_interface ∷ link_class ∷ class_under 4 3 true ∷ [];
  fields = next_field ∷ seen_field ∷ [];
  methods = ctor_in 0 [] [] 0
      ∷ name_method 2 None true 2 5
      ∷ ctor_in 3 (ref 3 ∷ []) (Some (record { 0 = 1 }) ∷ []) 1
      ∷ ctor_in 3 [] [] 2
      ∷ name_method 3 (Some (record { 0 = 3 })) false 3 6
      ∷ ctor_in 4 [] [] 4
      ∷ name_method 4 (Some (record { 0 = 5 })) false 4 7
      ∷ main_method 4 6 8
      ∷ [];
  bodies = body_of_method 0 (ref 0 ∷ []) 1 object_points
      ∷ body_of_method 2 (ref 3 ∷ ref 3 ∷ []) 2 link_points
      ∷ body_of_method 3 (ref 3 ∷ NullBase ∷ []) 1 own_points
      ∷ body_of_method 4 (ref 3 ∷ ref 3 ∷ ref 1 ∷ []) 1 name_points
      ∷ body_of_method 5 (ref 4 ∷ []) 1 leaf_points
      ∷ body_of_method 6 (ref 4 ∷ ref 1 ∷ []) 1 leaf_name_points
      ∷ body_of_method 7 (strings ∷ ref 2 ∷ ref 1 ∷ BoolBase ∷ ref 4 ∷ ref 1 ∷ Int ∷ []) 3 main_points
      ∷ [];
  slots = slot_info true ∷ slot_info true ∷ slot_info false ∷ slot_info false ∷ slot_info false ∷ slot_info false ∷ slot_info false ∷ slot_info false ∷ slot_info false ∷ [];
}
