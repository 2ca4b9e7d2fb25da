-- Which slots the rows of a body depend on: those of its method, of the fields that it reads and writes, of the methods that it calls, and of the fields that a constructor has to assign.
use Rattle.std.specs.Prelude.{ℕ, List, [], ◌∷◌, ◌++◌, Option}
use Rattle.jn_points.specs.declared.point.Point.{Point}
use Rattle.jn_points.specs.declared.point.PointKind.{PointKind}
use Rattle.jn_points.specs.declared.point.PointKind.TheVariants.{FieldRead, FieldWrite, New, CtorCall, Call}
use Rattle.jn_points.specs.declared.program.Method.{Method}
use Rattle.jn_points.specs.declared.program.Program.{Program}
use Rattle.jn_points.specs.Lookup.{points_of, slots_of, body_at, field_info, method_at, method_in}
use Rattle.jn_env.specs.Keys.{own_keys}
use Rattle.jn_transfer.specs.Contributions.{field_slot_of, receiver_slot_of, result_slot_of}
use Rattle.jn_recheck_law.specs.Slots.{slot_list, slot_lists}

-- receiver, parameters and result
abbrev pub method_slots : Option Method → List ℕ
method_slots m = slot_list (receiver_slot_of m) ++ (slot_lists (slots_of m) ++ slot_list (result_slot_of m))

module _ (P : Program) where
  abbrev pub field_slots : ℕ → List ℕ
  field_slots f = slot_list (field_slot_of (field_info P f))

  abbrev pub kind_slots : PointKind → List ℕ
  kind_slots (FieldRead dst object field) = field_slots field.0
  kind_slots (FieldWrite object field value) = field_slots field.0
  kind_slots (New dst ctor args) = method_slots (method_at P ctor.0)
  kind_slots (CtorCall ctor args own) = method_slots (method_at P ctor.0)
  kind_slots (Call dst method receiver direct args) = method_slots (method_at P method.0)
  kind_slots kind = []

  abbrev pub points_slots : List Point → List ℕ
  points_slots [] = []
  points_slots (pt ∷ pts) = kind_slots pt.kind ++ points_slots pts

  abbrev pub fields_slots : List ℕ → List ℕ
  fields_slots [] = []
  fields_slots (f ∷ fs) = field_slots f ++ fields_slots fs

  -- all that the entry, the points and the constructor's class name
  abbrev pub rule_reads : ℕ → List ℕ
  rule_reads b = method_slots (method_in P b) ++ (points_slots (points_of (body_at P b)) ++ fields_slots (own_keys P b))
