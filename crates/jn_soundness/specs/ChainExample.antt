-- A program with a chain of constructors, a cycle of objects that is built by an escaping `this`, and an array, so that the law on accepted programs isn't empty:
--   class A { A peer; A() { this.peer = new A(this); }  A(@UnderInitialization A p) { this.peer = p; } }
--   class B extends A { String name; B() { super(); this.name = ""; }
--     public static void main(String[] words) { B b = new B(); String[] a = new String[] {""}; String s = b.name; A p = b.peer.peer; } }
use Rattle.std.specs.Prelude.{ℕ, Bool, true, false, List, [], ◌∷◌, Option, Some, None, pos, map}
use Rattle.jn_base.specs.declared.number.SlotNo.{SlotNo}
use Rattle.jn_quals.specs.Qualifier.{Qualifier}
use Rattle.jn_quals.specs.Order.{no_qual, committed_only, free_only}
use Rattle.jn_points.specs.declared.point.BaseType.{BaseType}
use Rattle.jn_points.specs.declared.point.BaseType.TheVariants.{Void, Ref}
use Rattle.jn_points.specs.declared.point.Literal.TheVariants.{Str}
use Rattle.jn_points.specs.declared.point.Point.{Point}
use Rattle.jn_points.specs.declared.point.PointKind.TheVariants.{Const, FieldRead, FieldWrite, ArrayOf, New, CtorCall, Return}
use Rattle.jn_points.specs.declared.program.Field.{Field}
use Rattle.jn_points.specs.declared.program.Method.{Method}
use Rattle.jn_points.specs.declared.program.Body.{Body}
use Rattle.jn_points.specs.declared.program.Program.{Program}
use Rattle.jn_env.specs.Environment.{Env}
use Rattle.jn_soundness.specs.World.{World}
use Rattle.jn_soundness.specs.ExampleParts.{no_span, point_of, reg, strings, object_class, class_under, main_method}

abbrev pub ref : ℕ → BaseType
ref c = Ref (record { 0 = c })

abbrev pub field_in_class : ℕ → ℕ → ℕ → ℕ → Field
field_in_class name class type slot = record { name = record { 0 = name }; span = no_span; owner = record { 0 = class }; base = ref type; is_static = false; is_final = false; is_private = false; is_monotonic = false; first = pos 0; slot = Some (record { 0 = slot }) }

abbrev pub ctor_in : ℕ → List BaseType → List (Option SlotNo) → ℕ → Method
ctor_in class params slots body = record {
  name = record { 0 = class };
  span = no_span;
  owner = record { 0 = class };
  params = params;
  param_spans = map (λ (t : BaseType). no_span) params;
  result = Void;
  ctor = true;
  is_static = false;
  is_private = false;
  is_abstract = false;
  is_final = false;
  is_main = false;
  body = Some (record { 0 = body });
  receiver = None;
  param_slots = slots;
  result_slot = None;
}

abbrev pub first_points : List Point
first_points = point_of (New (record { 0 = 1 }) (record { 0 = 1 }) (reg 0 ∷ [])) ∷ point_of (FieldWrite (reg 0) (record { 0 = 0 }) (reg 1)) ∷ point_of (Return None) ∷ []

abbrev pub second_points : List Point
second_points = point_of (FieldWrite (reg 0) (record { 0 = 0 }) (reg 1)) ∷ point_of (Return None) ∷ []

abbrev pub third_points : List Point
third_points = point_of (CtorCall (record { 0 = 0 }) [] false) ∷ point_of (Const (record { 0 = 1 }) (Str (record { 0 = 0 }))) ∷ point_of (FieldWrite (reg 0) (record { 0 = 1 }) (reg 1)) ∷ point_of (Return None) ∷ []

abbrev pub main_points : List Point
main_points =
    point_of (New (record { 0 = 1 }) (record { 0 = 2 }) [])
    ∷ point_of (Const (record { 0 = 2 }) (Str (record { 0 = 0 })))
    ∷ point_of (ArrayOf (record { 0 = 0 }) strings (reg 2 ∷ []))
    ∷ point_of (FieldRead (record { 0 = 2 }) (reg 1) (record { 0 = 1 }))
    ∷ point_of (FieldRead (record { 0 = 3 }) (reg 1) (record { 0 = 0 }))
    ∷ point_of (FieldRead (record { 0 = 3 }) (reg 3) (record { 0 = 0 }))
    ∷ point_of (Return None)
    ∷ []

abbrev pub body_of_method : ℕ → List BaseType → ℕ → List Point → Body
body_of_method m regs locals points = record { method = record { 0 = m }; regs = regs; locals = locals; points = points }

abbrev pub chain_program : Program
chain_program = record {
  classes = object_class ∷ class_under 1 0 true ∷ class_under 2 0 false ∷ class_under 3 2 false ∷ [];
  fields = field_in_class 5 2 2 0 ∷ field_in_class 6 3 1 1 ∷ [];
  methods = ctor_in 2 [] [] 0 ∷ ctor_in 2 (ref 2 ∷ []) (Some (record { 0 = 2 }) ∷ []) 1 ∷ ctor_in 3 [] [] 2 ∷ main_method 3 3 3 ∷ [];
  bodies = body_of_method 0 (ref 2 ∷ ref 2 ∷ []) 1 first_points
      ∷ body_of_method 1 (ref 2 ∷ ref 2 ∷ []) 2 second_points
      ∷ body_of_method 2 (ref 3 ∷ ref 1 ∷ []) 1 third_points
      ∷ body_of_method 3 (strings ∷ ref 3 ∷ ref 1 ∷ ref 2 ∷ []) 4 main_points
      ∷ [];
  slots = record { start = committed_only; inferred = false } ∷ record { start = committed_only; inferred = false } ∷ record { start = free_only; inferred = false } ∷ record { start = committed_only; inferred = false } ∷ [];
}

abbrev pub env_of : List Qualifier → List Bool → List Bool → Env
env_of qs facts assigned = record { quals = qs; facts = facts; assigned = assigned }

abbrev pub first_table : List (Option Env)
first_table =
    Some (env_of (free_only ∷ no_qual ∷ []) (false ∷ []) (false ∷ []))
    ∷ Some (env_of (free_only ∷ free_only ∷ []) (false ∷ []) (false ∷ []))
    ∷ Some (env_of (free_only ∷ free_only ∷ []) (true ∷ []) (true ∷ []))
    ∷ []

abbrev pub second_table : List (Option Env)
second_table =
    Some (env_of (free_only ∷ free_only ∷ []) (false ∷ []) (false ∷ []))
    ∷ Some (env_of (free_only ∷ free_only ∷ []) (true ∷ []) (true ∷ []))
    ∷ []

abbrev pub third_table : List (Option Env)
third_table =
    Some (env_of (free_only ∷ no_qual ∷ []) (false ∷ []) (false ∷ []))
    ∷ Some (env_of (free_only ∷ no_qual ∷ []) (false ∷ []) (false ∷ []))
    ∷ Some (env_of (free_only ∷ committed_only ∷ []) (false ∷ []) (false ∷ []))
    ∷ Some (env_of (free_only ∷ committed_only ∷ []) (true ∷ []) (true ∷ []))
    ∷ []

abbrev pub main_env : Qualifier → Qualifier → Qualifier → Option Env
main_env a b c = Some (env_of (committed_only ∷ a ∷ b ∷ c ∷ []) (false ∷ false ∷ false ∷ []) [])

abbrev pub main_table : List (Option Env)
main_table =
    main_env no_qual no_qual no_qual
    ∷ main_env committed_only no_qual no_qual
    ∷ main_env committed_only committed_only no_qual
    ∷ main_env committed_only committed_only no_qual
    ∷ main_env committed_only committed_only no_qual
    ∷ main_env committed_only committed_only committed_only
    ∷ main_env committed_only committed_only committed_only
    ∷ []

abbrev pub chain_world : World
chain_world = record { program = chain_program; sig = committed_only ∷ committed_only ∷ free_only ∷ committed_only ∷ []; tables = first_table ∷ second_table ∷ third_table ∷ main_table ∷ [] }
