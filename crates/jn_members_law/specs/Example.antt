-- interface I { void f(); }
-- interface J extends I { void f(); }
-- class A implements I { int x; private int y; public void f() { } private void g() { } }
-- class B extends A { }
-- class C extends B implements J { public void f() { } }
-- abstract class D implements I, J { }
-- Constructors are left out, since they are no members.
use Rattle.std.specs.Prelude.{ℕ, Bool, not, true, false, List, [], ◌∷◌, pos, Option, Some, None}
use Rattle.jn_base.specs.declared.number.BodyNo.{BodyNo}
use Rattle.jn_base.specs.declared.number.ClassNo.{ClassNo}
use Rattle.jn_base.specs.declared.place.Span.{Span}
use Rattle.jn_quals.specs.Order.{committed_only}
use Rattle.jn_points.specs.declared.point.BaseType.TheVariants.{Int, Ref, Void}
use Rattle.jn_points.specs.declared.point.PointKind.TheVariants.{Return}
use Rattle.jn_points.specs.declared.program.Body.{Body}
use Rattle.jn_points.specs.declared.program.Class.{Class}
use Rattle.jn_points.specs.declared.program.Field.{Field}
use Rattle.jn_points.specs.declared.program.Method.{Method}
use Rattle.jn_points.specs.declared.program.Program.{Program}
use Rattle.jn_points.specs.declared.program.SlotInfo.{SlotInfo}
use Rattle.jn_points.specs.Regular.{has_body}

abbrev pub no_span : Span
no_span = record { file = record { 0 = 0 }; from = 0; to = 0 }

abbrev pub class_of : ℕ → Bool → Bool → Option ClassNo → List ClassNo → Class
class_of name interface is_abstract parent supers = record { name = record { 0 = name }; span = no_span; interface = interface; is_abstract = is_abstract; is_final = false; parent = parent; supers = supers }

-- Object, String, I, J, A, B, C and D are classes 0 to 7
abbrev pub object_class : Class
object_class = class_of 0 false false None []

abbrev pub string_class : Class
string_class = class_of 1 false false (Some (record { 0 = 0 })) (record { 0 = 0 } ∷ [])

abbrev pub i_class : Class
i_class = class_of 2 true true None []

abbrev pub j_class : Class
j_class = class_of 3 true true None (record { 0 = 2 } ∷ [])

abbrev pub a_class : Class
a_class = class_of 4 false false (Some (record { 0 = 0 })) (record { 0 = 0 } ∷ record { 0 = 2 } ∷ [])

abbrev pub b_class : Class
b_class = class_of 5 false false (Some (record { 0 = 4 })) (record { 0 = 4 } ∷ [])

abbrev pub c_class : Class
c_class = class_of 6 false false (Some (record { 0 = 5 })) (record { 0 = 5 } ∷ record { 0 = 3 } ∷ [])

abbrev pub d_class : Class
d_class = class_of 7 false true (Some (record { 0 = 0 })) (record { 0 = 0 } ∷ record { 0 = 2 } ∷ record { 0 = 3 } ∷ [])

-- an int field of A
abbrev pub field_in : ℕ → Bool → Field
field_in name is_private = record {
  name = record { 0 = name };
  span = no_span;
  owner = record { 0 = 4 };
  base = Int;
  is_static = false;
  is_final = false;
  is_private = is_private;
  is_monotonic = false;
  first = pos 0;
  slot = None;
}

-- a void method without parameters, abstract where it has no body, with its receiver's slot
abbrev pub method_in : ℕ → ℕ → ℕ → Bool → Option BodyNo → Method
method_in class name slot is_private body = record {
  name = record { 0 = name };
  span = no_span;
  owner = record { 0 = class };
  params = [];
  param_spans = [];
  result = Void;
  ctor = false;
  is_static = false;
  is_private = is_private;
  is_abstract = not (has_body body);
  is_final = false;
  is_main = false;
  body = body;
  receiver = Some (record { 0 = slot });
  param_slots = [];
  result_slot = None;
}

-- the body of a method that returns at once
abbrev pub body_in : ℕ → ℕ → Body
body_in class method = record {
  method = record { 0 = method };
  regs = Ref (record { 0 = class }) ∷ [];
  locals = 1;
  points = record { kind = Return None; span = no_span } ∷ [];
}

-- f is name 10, g 11, x 12 and y 13
abbrev pub x_of_a : Field
x_of_a = field_in 12 false

abbrev pub y_of_a : Field
y_of_a = field_in 13 true

abbrev pub f_of_i : Method
f_of_i = method_in 2 10 0 false None

abbrev pub f_of_j : Method
f_of_j = method_in 3 10 1 false None

abbrev pub f_of_a : Method
f_of_a = method_in 4 10 2 false (Some (record { 0 = 0 }))

abbrev pub g_of_a : Method
g_of_a = method_in 4 11 3 true (Some (record { 0 = 1 }))

abbrev pub f_of_c : Method
f_of_c = method_in 6 10 4 false (Some (record { 0 = 2 }))

abbrev pub committed_slot : SlotInfo
committed_slot = record { start = committed_only; inferred = false }

abbrev pub example : Program
example = record {
  classes = object_class ∷ string_class ∷ i_class ∷ j_class ∷ a_class ∷ b_class ∷ c_class ∷ d_class ∷ [];
  fields = x_of_a ∷ y_of_a ∷ [];
  methods = f_of_i ∷ f_of_j ∷ f_of_a ∷ g_of_a ∷ f_of_c ∷ [];
  bodies = body_in 4 2 ∷ body_in 4 3 ∷ body_in 6 4 ∷ [];
  slots = committed_slot ∷ committed_slot ∷ committed_slot ∷ committed_slot ∷ committed_slot ∷ [];
}
