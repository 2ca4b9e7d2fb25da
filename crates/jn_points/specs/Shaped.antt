-- Shapes of a program as points on which the flow of facts and the construction of objects rest.
use Rattle.std.specs.Prelude.{ℕ, suc, eqb, ◌≡◌, ◌<◌, ◌≤◌, ◌⊎◌, Bool, true, false, List, [], ◌∷◌, length, Option, Some, None}
use Rattle.jn_base.specs.declared.number.MethodNo.{MethodNo}
use Rattle.jn_base.specs.declared.number.PointNo.{PointNo}
use Rattle.jn_base.specs.declared.number.SlotNo.{SlotNo}
use Rattle.jn_points.specs.declared.leads.Edges.{Edges}
use Rattle.jn_points.specs.declared.point.Operand.{Operand}
use Rattle.jn_points.specs.declared.point.Origin.{Origin}
use Rattle.jn_points.specs.declared.point.BaseType.{BaseType}
use Rattle.jn_points.specs.declared.point.Point.{Point}
use Rattle.jn_points.specs.declared.point.PointKind.{PointKind}
use Rattle.jn_points.specs.declared.point.PointKind.TheVariants.{Const, Move, Unary, Binary, Concat, SameRef, FieldRead, StaticRead, ElemRead, ArrayLen, NewArray, ArrayOf, New, CtorCall, Call, StrOp, Cast, TestInst, TestNull, Return}
use Rattle.jn_points.specs.declared.program.Class.{Class}
use Rattle.jn_points.specs.declared.program.Field.{Field}
use Rattle.jn_points.specs.declared.program.Method.{Method}
use Rattle.jn_points.specs.declared.program.Body.{Body}
use Rattle.jn_points.specs.declared.program.Program.{Program}
use Rattle.jn_points.specs.Edges.{edges_of}
use Rattle.jn_points.specs.Lookup.{is_ref_base, regs_of, has_slot, class_of, body_of, ctor_of, static_of, slots_of, body_at, point_at, field_info, owner, method_at, method_in, class_info}
use Rattle.jn_points.specs.Members.{has_field}

-- the field read after which a test stands, and the register tested
pub record Test : Type 0 where
  pub reg : ℕ
  pub field : ℕ
  pub tested : ℕ

-- the test of register t, where it has an origin
abbrev pub test_by : Option Origin → ℕ → Option Test
test_by None t = None
test_by (Some og) t = Some (record { reg = og.reg.0; field = og.field.0; tested = t })

-- the test that a point makes, None where it makes none or has no origin
abbrev pub test_of : PointKind → Option Test
test_of (TestInst of c og at_yes at_no) = test_by og of.reg.0
test_of (TestNull of og at_null at_value) = test_by og of.reg.0
test_of k = None

-- the same of a point that may be missing
abbrev pub test_in : Option Point → Option Test
test_in None = None
test_in (Some pt) = test_of pt.kind

-- a test with an origin is entered from the read of that field alone
abbrev pub FromRead : PointKind → Option Test → Type 0
FromRead k None = Unit {0}
FromRead (FieldRead dst r f) (Some t) = (dst.0 ≡ t.tested) × (r.reg.0 ≡ t.reg) × (f.0 ≡ t.field) × (t.reg ≡ t.tested → ⊥)
FromRead k (Some t) = ⊥

-- the point is no constructor call, that is no `this(..)` or `super(..)` (JLS 8, 8.8.7.1)
abbrev pub NotCtorCall : PointKind → Type 0
NotCtorCall (CtorCall m args own) = ⊥
NotCtorCall k = Unit {0}

-- the register that a point writes, None where it writes none
abbrev pub writes : PointKind → Option ℕ
writes (Const dst value) = Some dst.0
writes (Move dst from bound) = Some dst.0
writes (Unary dst neg of) = Some dst.0
writes (Binary dst op l r) = Some dst.0
writes (Concat dst l r) = Some dst.0
writes (SameRef dst eq l r) = Some dst.0
writes (FieldRead dst r f) = Some dst.0
writes (StaticRead dst f) = Some dst.0
writes (ElemRead dst r i) = Some dst.0
writes (ArrayLen dst r) = Some dst.0
writes (NewArray dst base n) = Some dst.0
writes (ArrayOf dst base xs) = Some dst.0
writes (New dst m args) = Some dst.0
writes (Call (Some dst) m r direct args) = Some dst.0
writes (StrOp dst op of other) = Some dst.0
writes (Cast dst of c) = Some dst.0
writes k = None

-- a point is there, and it is that of the number
abbrev pub IsAt : Option PointNo → ℕ → Type 0
IsAt None to = ⊥
IsAt (Some n) to = n.0 ≡ to

-- an edge leads there
abbrev pub LeadsTo : Edges → ℕ → Type 0
LeadsTo e to = IsAt e.first to ⊎ IsAt e.second to

-- exactly the reference types have slots
abbrev pub SlotsMatch : List (Option SlotNo) → List BaseType → Type 0
SlotsMatch [] [] = Unit {0}
SlotsMatch [] (t ∷ ts) = ⊥
SlotsMatch (x ∷ xs) [] = ⊥
SlotsMatch (x ∷ xs) (t ∷ ts) = (has_slot x ≡ is_ref_base t) × SlotsMatch xs ts

module _ (P : Program) where
  -- the test with an origin at a point
  abbrev pub test_at : ℕ → ℕ → Option Test
  test_at b p = test_in (point_at P b p)

  -- a call of the constructor's own class or its parent stands at the point or after it
  pub record Early (b p : ℕ) : Type 0 where
    pub place : ℕ
    pub pt : Point
    pub ctor : MethodNo
    pub args : List Operand
    pub own : Bool
    pub point : point_at P b place ≡ Some pt
    pub calls : pt.kind ≡ CtorCall ctor args own
    pub before : p ≤ place

  -- the constructor that a constructor calls is its own class's, or the parent's, whose objects have all other fields
  pub record Chains (b : ℕ) (m : ℕ) (own : Bool) : Type 0 where
    pub ctor : ctor_of (method_at P m) ≡ true
    pub inside : ctor_of (method_in P b) ≡ true
    pub same : own ≡ true → class_of (method_at P m) ≡ class_of (method_in P b)
    pub fields : (f : ℕ) → has_field P (class_of (method_in P b)) f ≡ true → (owner P f ≡ class_of (method_in P b)) ⊎ (has_field P (class_of (method_at P m)) f ≡ true)

  -- a class of which there are objects: no interface, and not String
  pub record IsObjectClass (c : ℕ) : Type 0 where
    pub info : Class
    pub there : class_info P c ≡ Some info
    pub class : info.interface ≡ false
    pub no_string : eqb c 1 ≡ false

  -- a method that an object selects: neither static nor private, and no constructor
  pub record IsVirtual (m : ℕ) : Type 0 where
    pub info : Method
    pub there : method_at P m ≡ Some info
    pub method : info.ctor ≡ false
    pub instance : info.is_static ≡ false
    pub open_to_all : info.is_private ≡ false

  -- a `new` names a constructor of a class with objects, a constructor call one of its class or the parent, a call a method
  abbrev pub Names : ℕ → PointKind → Type 0
  Names b (New dst m args) = (ctor_of (method_at P m.0) ≡ true) × IsObjectClass (class_of (method_at P m.0))
  Names b (CtorCall m args own) = Chains b m.0 own
  Names b (Call dst m (Some r) false args) = (ctor_of (method_at P m.0) ≡ false) × IsVirtual m.0
  Names b (Call dst m r direct args) = (ctor_of (method_at P m.0) ≡ false) × Unit {0}
  Names b k = Unit {0}

  -- where the point is a return, no constructor call of its body stands at it or at a later number
  abbrev pub NotEarlyReturn : ℕ → ℕ → PointKind → Type 0
  NotEarlyReturn b p (Return v) = Early b p → ⊥
  NotEarlyReturn b p k = Unit {0}

  -- as many arguments as parameters, and a receiver exactly where the method isn't static
  abbrev pub ArgsMatch : ℕ → List Operand → Type 0
  ArgsMatch m args = length args ≡ length (slots_of (method_at P m))

  -- a receiver is there exactly where the method isn't static
  abbrev pub ReceiverMatches : ℕ → Option Operand → Type 0
  ReceiverMatches m None = static_of (method_at P m) ≡ true
  ReceiverMatches m (Some r) = static_of (method_at P m) ≡ false

  -- what a point passes to a method or constructor is as many arguments as that takes, and a receiver where it has one
  abbrev pub Passes : PointKind → Type 0
  Passes (New dst m args) = ArgsMatch m.0 args
  Passes (CtorCall m args own) = ArgsMatch m.0 args
  Passes (Call dst m r direct args) = ArgsMatch m.0 args × ReceiverMatches m.0 r
  Passes k = Unit {0}

  -- an edge of the point leads to the place: a test is entered by its read, and no edge but a constructor call's own leads past that call
  pub record RegularEdge (b p : ℕ) (k : PointKind) (to : ℕ) : Type 0 where
    pub test : FromRead k (test_at b to)
    pub early : NotCtorCall k → Early b p → Early b to

  -- the edges of point p, what it names and what it passes are as they should be, and a constructor keeps its `this`
  pub record RegularPoint (b p : ℕ) (k : PointKind) : Type 0 where
    pub edges : (to : ℕ) → LeadsTo (edges_of k p) to → RegularEdge b p k to
    pub this_kept : ctor_of (method_in P b) ≡ true → writes k ≡ Some 0 → ⊥
    pub names : Names b k
    pub passes : Passes k
    pub end : ctor_of (method_in P b) ≡ true → NotEarlyReturn b p k

  -- a constructor calls another one, or its class has no fields but its own
  abbrev pub StartsRegular : ℕ → Type 0
  StartsRegular b = ctor_of (method_in P b) ≡ true → Early b 0 ⊎ ((f : ℕ) → has_field P (class_of (method_in P b)) f ≡ true → owner P f ≡ class_of (method_in P b))

  -- a program of such shape: bodies are those of their methods, points are regular, and exactly reference types have slots
  pub record Shaped : Type 0 where
    pub bodies : (m b : ℕ) → body_of (method_at P m) ≡ Some b → (x : Body) × (body_at P b ≡ Some x) × (x.method.0 ≡ m)
    pub entered : (b : ℕ) (x : Body) → body_at P b ≡ Some x → 0 < length x.points
    pub entry_test : (b : ℕ) → test_at b 0 ≡ None
    pub entry_early : (b : ℕ) → StartsRegular b
    pub points : (b p : ℕ) (pt : Point) → point_at P b p ≡ Some pt → RegularPoint b p pt.kind
    pub ctor_this : (m : ℕ) → ctor_of (method_at P m) ≡ true → static_of (method_at P m) ≡ false
    pub ctor_regs : (b : ℕ) → ctor_of (method_in P b) ≡ true → (n : ℕ) × (regs_of (body_at P b) ≡ suc n)
    pub fields : (f : ℕ) (x : Field) → field_info P f ≡ Some x → has_slot x.slot ≡ is_ref_base x.base
    pub params : (m : ℕ) (x : Method) → method_at P m ≡ Some x → SlotsMatch x.param_slots x.params
    pub mains : (m : ℕ) (x : Method) → method_at P m ≡ Some x → x.is_main ≡ true → (x.ctor ≡ false) × (x.is_static ≡ true)
