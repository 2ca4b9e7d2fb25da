-- What has been constructed: the classes whose constructors have ended on a free object, and on the `this` of a constructor's frame.
use Rattle.std.specs.Prelude.{ℕ, zero, suc, ◌≡◌, ◌<◌, ◌⊎◌, true, List, [], ◌∷◌, Some}
use Rattle.jn_base.specs.declared.number.ClassNo.{ClassNo}
use Rattle.jn_points.specs.declared.program.Program.{Program}
use Rattle.jn_points.specs.Lookup.{class_info, class_of, method_in, parent_of}
use Rattle.jn_points.specs.Regular.{CtorCallAt}
use Rattle.jn_points.specs.Shaped.{Early}
use Rattle.jn_heap.specs.Values.{Thing}
use Rattle.jn_heap.specs.State.{Frame, State}
use Rattle.jn_heap.specs.Calls.{class_at}
use Rattle.jn_soundness.specs.Marks.{FrameMark, Free, Marking, Marks, ObjMark, Unborn}
use Rattle.jn_soundness.specs.Heaps.{Building, IsMember}

-- Object counts as ended on every object
abbrev pub HasEnded : ℕ → List ℕ → Type 0
HasEnded d ended = (d ≡ 0) ⊎ IsMember d ended

module _ (P : Program) where
  -- class d stands so many parents above class c
  abbrev pub Above : ℕ → ℕ → ℕ → Type 0
  Above zero c d = c ≡ d
  Above (suc n) c d = (q : ClassNo) × (parent_of (class_info P c) ≡ Some q) × Above n q.0 d

  -- all constructors of class c and its superclasses have ended
  abbrev pub ClassesEnded : ℕ → List ℕ → Type 0
  ClassesEnded c ended = (n d : ℕ) → Above n c d → HasEnded d ended

  -- those of its superclasses
  abbrev pub SuperclassesEnded : ℕ → List ℕ → Type 0
  SuperclassesEnded c ended = (n d : ℕ) → Above n c d → (d ≡ c) ⊎ HasEnded d ended

  -- a constructor past its CtorCall, or without one, has all superclasses ended on `this`; past a this(..) its own class too
  pub record Chained (b at : ℕ) (ended : List ℕ) : Type 0 where
    pub supers : Early P b at ⊎ SuperclassesEnded (class_of (method_in P b)) ended
    pub own : (p m : ℕ) → CtorCallAt P b p m true → p < at → IsMember (class_of (method_in P b)) ended

  -- the object that a constructor's frame builds
  pub record Built (m : ℕ → ObjMark) (f : Frame) (g : FrameMark) (o : ℕ) : Type 0 where
    pub born : m o ≡ Unborn → ⊥
    pub chained : (ended : List ℕ) → m o ≡ Free g.era ended → Chained f.body f.at ended

  abbrev pub FrameBuilds : Marks → Frame → FrameMark → Type 0
  FrameBuilds m f g = (o : ℕ) → g.built ≡ Some o → Built m f g o

  abbrev pub AllBuild : Marks → List Frame → List FrameMark → Type 0
  AllBuild m [] gs = Unit {0}
  AllBuild m (f ∷ fs) [] = Unit {0}
  AllBuild m (f ∷ fs) (g ∷ gs) = FrameBuilds m f g × AllBuild m fs gs

  -- all constructors of a free object have ended, or the frame of its new is there
  abbrev pub ObjectsBuilt : Marks → List Thing → List FrameMark → Type 0
  ObjectsBuilt m heap gs = (o a c : ℕ) (ended : List ℕ) → m o ≡ Free a ended → class_at heap o ≡ Some c → ClassesEnded c ended ⊎ Building gs o a

  pub record Constructs (st : State) (mk : Marking) : Type 0 where
    pub objects : ObjectsBuilt mk.marks st.heap (mk.top ∷ mk.waiting)
    pub top : FrameBuilds mk.marks st.top mk.top
    pub waiting : AllBuild mk.marks st.waiting mk.waiting
