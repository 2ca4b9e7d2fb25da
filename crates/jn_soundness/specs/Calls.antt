-- Waiting frames: eras, and what a waiting point knows of the frame above it.
use Rattle.std.specs.Prelude.{ℕ, ◌≡◌, true, false, IsTrue, [], Some, List, ◌∷◌, Option, ◌<◌, not}
use Rattle.jn_quals.specs.Order.{within}
use Rattle.jn_points.specs.declared.point.Point.{Point}
use Rattle.jn_points.specs.declared.point.PointKind.{PointKind}
use Rattle.jn_points.specs.Lookup.{point_at, ctor_of, method_at, method_in, slots_of, class_of}
use Rattle.jn_env.specs.Environment.{Env}
use Rattle.jn_soundness.specs.World.{World}
use Rattle.jn_points.specs.declared.point.PointKind.TheVariants.{New, Call, CtorCall}
use Rattle.jn_quals.specs.Qualifier.{Qualifier}
use Rattle.jn_sigs.specs.Signature.{result_of}
use Rattle.jn_points.specs.declared.program.Method.{Method}
use Rattle.jn_heap.specs.Values.{Thing}
use Rattle.jn_heap.specs.State.{Frame}
use Rattle.jn_transfer.specs.Transfer.{new_qual, ref_quals, any_free}
use Rattle.jn_soundness.specs.Marks.{ObjMark, FrameMark, Marks}
use Rattle.jn_soundness.specs.Frames.{GoodFrame}

-- a frame that opened its era has a greater one than the frame below, and every other the same
pub record EraStep (g below : FrameMark) : Type 0 where
  pub opened : g.opened ≡ true → below.era < g.era
  pub same : g.opened ≡ false → g.era ≡ below.era

module _ (W : World) where
  -- body b was entered by a new whose reference arguments have these qualifiers
  pub record NewWaits (b : ℕ) (g below : FrameMark) (quals : List Qualifier) : Type 0 where
    pub ctor : ctor_of (method_in W.program b) ≡ true
    pub made : g.made ≡ true
    pub opens : g.opened ≡ not (any_free quals)
    pub opened : g.opened ≡ true → (new_qual quals).committed ≡ true
    pub shared : g.opened ≡ false → (new_qual quals).free ≡ true

  -- body b was entered by this(..) or super(..), and builds what the frame below builds
  pub record CtorWaits (b : ℕ) (g below : FrameMark) (m : Option Method) : Type 0 where
    pub ctor : ctor_of (method_in W.program b) ≡ true
    pub class : class_of (method_in W.program b) ≡ class_of m
    pub made : g.made ≡ false
    pub built : g.built ≡ below.built
    pub shared : g.opened ≡ false

  -- body b was entered by a call of method m
  pub record CallWaits (b : ℕ) (g below : FrameMark) (m : Option Method) : Type 0 where
    pub method : ctor_of (method_in W.program b) ≡ false
    pub made : g.made ≡ false
    pub result : IsTrue (within (result_of W.sig (method_in W.program b)) (result_of W.sig m))
    pub shared : g.opened ≡ false

  -- what a waiting point knows of its callee, body b
  abbrev pub Waits : ℕ → FrameMark → FrameMark → Env → PointKind → Type 0
  Waits b g below e (New dst m args) = NewWaits b g below (ref_quals e (slots_of (method_at W.program m.0)) args)
  Waits b g below e (CtorCall m args own) = CtorWaits b g below (method_at W.program m.0)
  Waits b g below e (Call dst m r direct args) = CallWaits b g below (method_at W.program m.0)
  Waits b g below e k = ⊥

  -- a frame that waits, with what it knows of the frame above it
  pub record WaitingFrame (m : ℕ → ObjMark) (heap : List Thing) (b : ℕ) (g : FrameMark) (w : Frame) (below : FrameMark) : Type 0 where
    pub frame : GoodFrame W m heap w below
    pub pt : Point
    pub point : point_at W.program w.body w.at ≡ Some pt
    pub waits : Waits b g below frame.env pt.kind
    pub era : EraStep g below

  -- the frames below body b's; main's is the last, in era 0, which it didn't open
  abbrev pub Waiting : Marks → List Thing → ℕ → FrameMark → List Frame → List FrameMark → Type 0
  Waiting m heap b g [] [] = (g.era ≡ 0) × (g.opened ≡ false)
  Waiting m heap b g [] (h ∷ hs) = ⊥
  Waiting m heap b g (w ∷ ws) [] = ⊥
  Waiting m heap b g (w ∷ ws) (h ∷ hs) = WaitingFrame m heap b g w h × Waiting m heap w.body h ws hs
