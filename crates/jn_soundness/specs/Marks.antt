-- A marking: an era for each frame, and for each object whether it is committed or free (Summers and Müller, Freedom
-- Before Commitment). Proofs carry it beside a state; no program has it.
use Rattle.std.specs.Prelude.{ℕ, true, false, [], Some, List, ◌∷◌, Option, None, Bool, eqb, ◌+◌, cond, length}
use Rattle.jn_points.specs.declared.point.Point.{Point}
use Rattle.jn_points.specs.declared.point.PointKind.{PointKind}
use Rattle.jn_points.specs.Lookup.{point_at, method_at, method_in, slots_of, class_of}
use Rattle.jn_env.specs.Environment.{Env}
use Rattle.jn_soundness.specs.World.{World, env_at}
use Rattle.jn_points.specs.declared.point.PointKind.TheVariants.{ArrayOf, New, Call, CtorCall, Return, NewArray}
use Rattle.jn_base.specs.declared.number.SlotNo.{SlotNo}
use Rattle.jn_points.specs.declared.point.Operand.{Operand}
use Rattle.jn_heap.specs.State.{State}
use Rattle.jn_transfer.specs.Transfer.{ref_quals, any_free}

-- not made yet; part of what is whole; or free in an era, with the classes whose constructor has ended on it
pub data ObjMark : Type 0 where
  Unborn : ObjMark
  Committed : ObjMark
  Free : (era : ℕ) (ended : List ℕ) → ObjMark

-- what a frame was entered by
pub record FrameMark : Type 0 where
  pub era : ℕ
  -- entered by a new without a free argument, which opened the era
  pub opened : Bool
  -- entered by a new
  pub made : Bool
  -- the object that a constructor's frame builds
  pub built : Option ℕ

-- a mark for each place of the heap
abbrev pub Marks : Type 0
Marks = ℕ → ObjMark

-- all marks of a state
pub record Marking : Type 0 where
  pub marks : ℕ → ObjMark
  pub top : FrameMark
  pub waiting : List FrameMark
  -- the era that is opened next
  pub next : ℕ

-- place i has mark k, and all others what they had
abbrev pub with_mark : Marks → ℕ → ObjMark → Marks
with_mark m i k = λ j. cond (eqb j i) k (m j)

-- class c's constructor has ended on a free object
abbrev pub ended_mark : ℕ → ObjMark → ObjMark
ended_mark c Unborn = Unborn
ended_mark c Committed = Committed
ended_mark c (Free era ended) = Free era (c ∷ ended)

-- an object of era e is committed
abbrev pub commit_mark : ℕ → ObjMark → ObjMark
commit_mark e Unborn = Unborn
commit_mark e Committed = Committed
commit_mark e (Free era ended) = cond (eqb era e) Committed (Free era ended)

-- where a constructor's frame returns, its class has ended on what it builds
abbrev pub end_on : Marks → Option ℕ → ℕ → Marks
end_on m None c = m
end_on m (Some o) c = with_mark m o (ended_mark c (m o))

-- where the frame that returns opened era e, all objects of the era are committed
abbrev pub close_era : Marks → ℕ → Bool → Marks
close_era m e true = λ o. commit_mark e (m o)
close_era m e false = m

-- a thing is made at place o
abbrev pub births : Marking → ℕ → ObjMark → Marking
births mk o k = record { marks = with_mark mk.marks o k; top = mk.top; waiting = mk.waiting; next = mk.next }

-- a frame is entered, over the running one
abbrev pub enters_with : Marking → Marks → FrameMark → ℕ → Marking
enters_with mk m g next = record { marks = m; top = g; waiting = mk.top ∷ mk.waiting; next = next }

-- a frame is entered in the era of the one below, by no new
abbrev pub enters_shared : Marking → Option ℕ → Marking
enters_shared mk built = enters_with mk mk.marks (record { era = mk.top.era; opened = false; made = false; built = built }) mk.next

-- the frame of a new that makes object o
abbrev pub new_frame : ℕ → Bool → ℕ → FrameMark
new_frame era opened o = record { era = era; opened = opened; made = true; built = Some o }

-- a new makes object o and enters its constructor: with a free argument in the era of the frame below, else in the next era
abbrev pub enters_new : Marking → ℕ → Bool → Marking
enters_new mk o true = enters_with mk (with_mark mk.marks o (Free mk.top.era [])) (new_frame mk.top.era false o) mk.next
enters_new mk o false = enters_with mk (with_mark mk.marks o (Free mk.next [])) (new_frame mk.next true o) (mk.next + 1)

-- the frame below goes on, where there is one
abbrev pub resumes_with : Marking → Marks → List FrameMark → Marking
resumes_with mk m [] = mk
resumes_with mk m (h ∷ hs) = record { marks = m; top = h; waiting = hs; next = mk.next }

-- the frame of a method or constructor of class c returns
abbrev pub leaves : Marking → ℕ → Marking
leaves mk c = resumes_with mk (close_era (end_on mk.marks mk.top.built c) mk.top.era mk.top.opened) mk.waiting

-- some reference argument's qualifier has F
abbrev pub shares_era : Option Env → List (Option SlotNo) → List Operand → Bool
shares_era None slots args = false
shares_era (Some e) slots args = any_free (ref_quals e slots args)

module _ (W : World) where
  -- the marking after a point of that kind
  abbrev pub mark_by : State → Marking → PointKind → Marking
  mark_by st mk (NewArray dst b n) = births mk (length st.heap) Committed
  mark_by st mk (ArrayOf dst b xs) = births mk (length st.heap) Committed
  mark_by st mk (New dst m args) = enters_new mk (length st.heap) (shares_era (env_at W st.top.body st.top.at) (slots_of (method_at W.program m.0)) args)
  mark_by st mk (CtorCall m args own) = enters_shared mk mk.top.built
  mark_by st mk (Call dst m r direct args) = enters_shared mk None
  mark_by st mk (Return v) = leaves mk (class_of (method_in W.program st.top.body))
  mark_by st mk k = mk

  -- where no point stands, no step gives a state
  abbrev pub mark_at : State → Marking → Option Point → Marking
  mark_at st mk None = mk
  mark_at st mk (Some pt) = mark_by st mk pt.kind

  -- the marking after a step that gives a state
  abbrev pub mark_after : State → Marking → Marking
  mark_after st mk = mark_at st mk (point_at W.program st.top.body st.top.at)

-- main's frame in era 0, which it didn't open, and the words' array committed
abbrev pub start_marking : Marking
start_marking = record {
  marks = with_mark (λ o. Unborn) 0 Committed;
  top = record { era = 0; opened = false; made = false; built = None };
  waiting = [];
  next = 1;
}
