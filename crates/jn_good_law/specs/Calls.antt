-- Which body each frame runs, by the point that waits for it, and what its `this` is.
use Rattle.std.specs.Prelude.{ℕ, ◌≡◌, Bool, false, List, [], ◌∷◌, Option, Some, None}
use Rattle.jn_points.specs.declared.point.Point.{Point}
use Rattle.jn_points.specs.declared.point.PointKind.{PointKind}
use Rattle.jn_points.specs.declared.point.PointKind.TheVariants.{New, CtorCall, Call}
use Rattle.jn_points.specs.declared.program.Program.{Program}
use Rattle.jn_points.specs.Lookup.{body_of, class_of, method_at, method_in, point_at, static_of}
use Rattle.jn_heap.specs.Values.{At, Thing, Value}
use Rattle.jn_heap.specs.State.{Frame, value_at}
use Rattle.jn_heap.specs.Calls.{class_at, selected}

module _ (P : Program) where
  -- the frame runs the body of method m
  abbrev pub Runs : ℕ → Frame → Type 0
  Runs m f = body_of (method_at P m) ≡ Some f.body

  -- the value is the frame's `this`
  pub record HasThis (f : Frame) (v : Value) : Type 0 where
    pub instance : static_of (method_in P f.body) ≡ false
    pub held : value_at f.regs 0 ≡ Some v

  -- entered by a new of constructor m: `this` is an object of exactly its class
  pub record NewOn (heap : List Thing) (f : Frame) (m : ℕ) : Type 0 where
    pub runs : Runs m f
    pub object : ℕ
    pub this : HasThis f (At object)
    pub class : class_at heap object ≡ Some (class_of (method_at P m))

  -- entered by this(..) or super(..) of frame w: `this` is that of w
  pub record CtorOn (f w : Frame) (m : ℕ) : Type 0 where
    pub runs : Runs m f
    pub value : Value
    pub this : HasThis f value
    pub caller : value_at w.regs 0 ≡ Some value

  -- entered by a call on what register r of frame w still holds: that selects the method, and is `this`
  pub record CallOn (heap : List Thing) (f w : Frame) (m r : ℕ) (direct : Bool) : Type 0 where
    pub object : ℕ
    pub receiver : value_at w.regs r ≡ Some (At object)
    pub this : HasThis f (At object)
    pub method : ℕ
    pub selects : selected P heap object m direct ≡ Some method
    pub runs : Runs method f

  -- the frame above, by the waiting point of w
  abbrev pub Entered : List Thing → Frame → Frame → PointKind → Type 0
  Entered heap f w (New dst m args) = NewOn heap f m.0
  Entered heap f w (CtorCall m args own) = CtorOn f w m.0
  Entered heap f w (Call dst m None direct args) = Runs m.0 f
  Entered heap f w (Call dst m (Some r) direct args) = CallOn heap f w m.0 r.reg.0 direct
  Entered heap f w k = ⊥

  abbrev pub EnteredAt : List Thing → Frame → Frame → Option Point → Type 0
  EnteredAt heap f w None = ⊥
  EnteredAt heap f w (Some pt) = Entered heap f w pt.kind

  -- each frame was entered by the one below
  abbrev pub Calls : List Thing → Frame → List Frame → Type 0
  Calls heap f [] = Unit {0}
  Calls heap f (w ∷ ws) = EnteredAt heap f w (point_at P w.body w.at) × Calls heap w ws
