-- Points that enter a frame or leave it: new objects, constructors, calls and returns (JLS 8, 15.9.4, 8.8.7.1, 15.12.4 and 14.17).
use Rattle.std.specs.Prelude.{ℕ, zero, suc, ◌+◌, Bool, true, false, ltb, List, [], ◌∷◌, ◌++◌, length, Option, Some, None, slice_get}
use Rattle.jn_base.specs.declared.number.RegNo.{RegNo}
use Rattle.jn_points.specs.declared.point.Operand.{Operand}
use Rattle.jn_points.specs.declared.point.Point.{Point}
use Rattle.jn_points.specs.declared.point.PointKind.{PointKind}
use Rattle.jn_points.specs.declared.point.PointKind.TheVariants.{New, CtorCall, Call}
use Rattle.jn_points.specs.declared.program.Program.{Program}
use Rattle.jn_points.specs.Lookup.{regs_of, class_of, body_of, body_at, point_at, method_at}
use Rattle.jn_points.specs.Members.{dispatch}
use Rattle.jn_heap.specs.Values.{Value, At, Thing, Object, Elems, Done, Deep, defaults}
use Rattle.jn_heap.specs.State.{Regs, Frame, State, Next, Goes, Ends, Stuck, value_at, object_of, moves_to, holds_at}

-- the values in the first registers, and nothing in the others
abbrev pub pad : List Value → ℕ → Regs
pad vs zero = []
pad [] (suc n) = None ∷ pad [] n
pad (v ∷ vs) (suc n) = Some v ∷ pad vs n

-- the class of a thing that is an object
abbrev pub class_in : Option Thing → Option ℕ
class_in None = None
class_in (Some (Object c fs)) = Some c
class_in (Some (Elems b xs)) = None

-- the class of the object at a place
abbrev pub class_at : List Thing → ℕ → Option ℕ
class_at heap o = class_in (slice_get heap o)

-- what a frame gives back

-- the frame waits no more
abbrev pub resumes : State → Frame → List Frame → Next
resumes st w ws = Goes (record st { top = w; waiting = ws })

-- the frame takes the value into a register, and waits no more
abbrev pub gives : State → Frame → List Frame → ℕ → Option Value → Next
gives st w ws dst None = Stuck
gives st w ws dst (Some v) = resumes st (holds_at w dst v) ws

-- the frame takes the value where its call has a register for it, and waits no more
abbrev pub gives_to : State → Frame → List Frame → Option RegNo → Option Value → Next
gives_to st w ws None v = resumes st (moves_to w (w.at + 1)) ws
gives_to st w ws (Some dst) v = gives st w ws dst.0 v

-- the waiting point takes what its callee gives, or the object made (JLS 8, 15.9.4, 15.12.4.5)
abbrev pub takes : State → Frame → List Frame → Option Value → Option Value → PointKind → Next
takes st w ws this v (New dst ctor args) = gives st w ws dst.0 this
takes st w ws this v (CtorCall ctor args own) = resumes st (moves_to w (w.at + 1)) ws
takes st w ws this v (Call dst method receiver direct args) = gives_to st w ws dst v
takes st w ws this v k = Stuck

-- so does a point that waits, if there is one
abbrev pub takes_at : State → Frame → List Frame → Option Value → Option Value → Option Point → Next
takes_at st w ws this v None = Stuck
takes_at st w ws this v (Some pt) = takes st w ws this v pt.kind

module _ (P : Program) where
  -- a frame at the first point of body b, with these values (JLS 8, 15.12.4.5)
  abbrev pub entered : ℕ → List Value → Frame
  entered b vs = record { body = b; at = 0; regs = pad vs (regs_of (body_at P b)) }

  -- a frame for the body, over this heap, unless there are too many
  abbrev pub enter : Bool → State → List Thing → Option ℕ → List Value → Next
  enter true st heap b vs = Ends Deep st
  enter false st heap None vs = Stuck
  enter false st heap (Some b) vs = Goes (record st { heap = heap; top = entered b vs; waiting = st.top ∷ st.waiting })

  -- a frame for the method's body, where that makes at most so many
  abbrev pub enters : State → List Thing → ℕ → List Value → Next
  enters st heap m vs = enter (ltb st.limits.deepest (length st.waiting + 2)) st heap (body_of (method_at P m)) vs

  -- the object with default fields, then its constructor (JLS 8, 15.9.4, 12.5)
  abbrev pub news : State → ℕ → Option (List Value) → Next
  news st m None = Stuck
  news st m (Some vs) = enters st (st.heap ++ Object (class_of (method_at P m)) (defaults P.fields) ∷ []) m (At (length st.heap) ∷ vs)

  -- `this(..)` or `super(..)` (JLS 8, 8.8.7.1)
  abbrev pub ctor_calls : State → ℕ → Option Value → Option (List Value) → Next
  ctor_calls st m this None = Stuck
  ctor_calls st m None (Some vs) = Stuck
  ctor_calls st m (Some v) (Some vs) = enters st st.heap m (v ∷ vs)

  -- the method that an object's class has for the one named
  abbrev pub dispatched : Option ℕ → ℕ → Option ℕ
  dispatched None m = None
  dispatched (Some c) m = dispatch P c m

  -- the method of the object's class, or the one named (JLS 8, 15.12.4.4)
  abbrev pub selected : List Thing → ℕ → ℕ → Bool → Option ℕ
  selected heap o m true = Some m
  selected heap o m false = dispatched (class_at heap o) m

  -- a call of the method, if there is one
  abbrev pub calls_on : State → Option ℕ → List Value → Next
  calls_on st None vs = Stuck
  calls_on st (Some m) vs = enters st st.heap m vs

  -- a call on an object, which is `this`
  abbrev pub calls_this : State → Option ℕ → ℕ → Bool → List Value → Next
  calls_this st None m direct vs = Stuck
  calls_this st (Some o) m direct vs = calls_on st (selected st.heap o m direct) (At o ∷ vs)

  -- a call of a static method, or on a receiver (JLS 8, 15.12.4)
  abbrev pub calls : State → ℕ → Option Operand → Bool → Option (List Value) → Next
  calls st m r direct None = Stuck
  calls st m None direct (Some vs) = calls_on st (Some m) vs
  calls st m (Some r) direct (Some vs) = calls_this st (object_of (value_at st.top.regs r.reg.0)) m direct vs

  -- a return (JLS 8, 14.17); main's frame is the last
  abbrev pub returns : State → List Frame → Option Value → Option Value → Next
  returns st [] this v = Ends Done st
  returns st (w ∷ ws) this v = takes_at st w ws this v (point_at P w.body w.at)
