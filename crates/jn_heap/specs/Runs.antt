-- What a point of each kind does, as one step, and runs; null faults, the start of a main, and what it is that no run comes to a null dereference.
use Rattle.std.specs.Prelude.{ℕ, zero, suc, ◌≡◌, true, false, List, [], ◌∷◌, Option, Some, None, slice_get}
use Rattle.jn_base.specs.declared.number.SlotNo.{SlotNo}
use Rattle.jn_quals.specs.Order.{committed_only}
use Rattle.jn_points.specs.declared.point.Operand.{Operand}
use Rattle.jn_points.specs.declared.point.BaseType.{BaseType}
use Rattle.jn_points.specs.declared.point.BaseType.TheVariants.{Array}
use Rattle.jn_points.specs.declared.point.Elem.TheVariants.{Ref as RefElem}
use Rattle.jn_points.specs.declared.point.Point.{Point}
use Rattle.jn_points.specs.declared.point.PointKind.{PointKind}
use Rattle.jn_points.specs.declared.point.PointKind.TheVariants.{Const, Move, Unary, Binary, Concat, SameRef, FieldRead, FieldWrite, StaticRead, StaticWrite, ElemRead, ElemWrite, ArrayLen, NewArray, ArrayOf, New, CtorCall, Call, StrOp, Print, Cast, TestInst, TestNull, Branch, Goto, Return}
use Rattle.jn_points.specs.declared.program.Method.{Method}
use Rattle.jn_points.specs.declared.program.SlotInfo.{SlotInfo}
use Rattle.jn_points.specs.declared.program.Program.{Program}
use Rattle.jn_points.specs.Lookup.{body_of, dereferences, point_at, method_at}
use Rattle.jn_heap.specs.Values.{Value, NullRef, Text, At, Elems, Limits, statics_of}
use Rattle.jn_heap.specs.State.{Regs, State, Next, Goes, Ends, Stuck, value_at, value_of, object_of, prim_of, int_of, truth_of, text_in, gather, got_of, got_prim, got_plain, moves, sets, got_sets}
use Rattle.jn_heap.specs.Steps.{literal_value, unary_of, binary_of, concat_of, same_of, str_op, print, branch, test_null, write_static, read_elem, array_len, count_of, new_array, array_of, cast_of, test_inst, read_field, write_field, write_elem}
use Rattle.jn_heap.specs.Calls.{entered, news, ctor_calls, calls, returns}

module _ (P : Program) (names : List (List ℕ)) where
  -- what a point of each kind does; the texts of strings are those of the names
  abbrev pub act : State → PointKind → Next
  act st (Const dst value) = sets st dst.0 (literal_value names value)
  act st (Move dst from bound) = got_sets st dst.0 (got_of (value_at st.top.regs from.reg.0))
  act st (Unary dst negate of) = got_sets st dst.0 (unary_of negate (prim_of (value_at st.top.regs of.reg.0)))
  act st (Binary dst op l r) = got_sets st dst.0 (binary_of op (prim_of (value_at st.top.regs l.reg.0)) (prim_of (value_at st.top.regs r.reg.0)))
  act st (Concat dst l r) = got_sets st dst.0 (concat_of st.limits.longest (text_in (value_at st.top.regs l.reg.0)) (text_in (value_at st.top.regs r.reg.0)))
  act st (SameRef dst equal l r) = got_sets st dst.0 (same_of equal (value_at st.top.regs l.reg.0) (value_at st.top.regs r.reg.0))
  act st (FieldRead dst r f) = got_sets st dst.0 (read_field P st.heap (object_of (value_at st.top.regs r.reg.0)) f.0)
  act st (FieldWrite r f v) = write_field P st (object_of (value_at st.top.regs r.reg.0)) f.0 (value_at st.top.regs v.reg.0)
  act st (StaticRead dst f) = got_sets st dst.0 (got_plain (got_prim (slice_get st.statics f.0)))
  act st (StaticWrite f v) = write_static st f.0 (prim_of (value_at st.top.regs v.reg.0))
  act st (ElemRead dst r i) = got_sets st dst.0 (read_elem st.heap (object_of (value_at st.top.regs r.reg.0)) (int_of (prim_of (value_at st.top.regs i.reg.0))))
  act st (ElemWrite r i v) = write_elem P st (object_of (value_at st.top.regs r.reg.0)) (int_of (prim_of (value_at st.top.regs i.reg.0))) (value_at st.top.regs v.reg.0)
  act st (ArrayLen dst r) = got_sets st dst.0 (array_len st.heap (object_of (value_at st.top.regs r.reg.0)))
  act st (NewArray dst b n) = new_array st dst.0 b (count_of st.limits.longest (int_of (prim_of (value_at st.top.regs n.reg.0))))
  act st (ArrayOf dst b xs) = array_of st dst.0 b (gather st.top.regs xs)
  act st (New dst m args) = news P st m.0 (gather st.top.regs args)
  act st (CtorCall m args own) = ctor_calls P st m.0 (value_at st.top.regs 0) (gather st.top.regs args)
  act st (Call dst m r direct args) = calls P st m.0 r direct (gather st.top.regs args)
  act st (StrOp dst op of other) = got_sets st dst.0 (str_op op (value_at st.top.regs of.reg.0) (value_of st.top.regs other))
  act st (Print of) = print st (text_in (value_at st.top.regs of.reg.0))
  act st (Cast dst of c) = got_sets st dst.0 (cast_of P st.heap (value_at st.top.regs of.reg.0) c.0)
  act st (TestInst of c og at_yes at_no) = test_inst P st c.0 at_yes.0 at_no.0 (value_at st.top.regs of.reg.0)
  act st (TestNull of og at_null at_value) = test_null st at_null.0 at_value.0 (value_at st.top.regs of.reg.0)
  act st (Branch of at_yes at_no) = branch st at_yes.0 at_no.0 (truth_of (prim_of (value_at st.top.regs of.reg.0)))
  act st (Goto to) = moves st to.0
  act st (Return v) = returns P st st.waiting (value_at st.top.regs 0) (value_of st.top.regs v)

  -- what the point does, if there is one
  abbrev pub step_at : State → Option Point → Next
  step_at st None = Stuck
  step_at st (Some pt) = act st pt.kind

  -- one point is one step
  abbrev pub step : State → Next
  step st = step_at st (point_at P st.top.body st.top.at)

  -- a step more, unless the run ended
  abbrev pub then_step : Next → Next
  then_step (Goes st) = step st
  then_step (Ends e st) = Ends e st
  then_step Stuck = Stuck

  -- so many steps, or the end that came first
  abbrev pub run : Next → ℕ → Next
  run start zero = start
  run start (suc n) = then_step (run start n)

-- the register that is dereferenced holds null, which would be a NullPointerException (JLS 8, 15.6)
abbrev pub derefs_null : Regs → Option Operand → Type 0
derefs_null regs None = ⊥
derefs_null regs (Some of) = value_at regs of.reg.0 ≡ Some NullRef

-- the point, if there is one, dereferences null
abbrev pub fault_at : Regs → Option Point → Type 0
fault_at regs None = ⊥
fault_at regs (Some pt) = derefs_null regs (dereferences pt.kind)

-- words as Strings
abbrev pub texts : List (List ℕ) → List Value
texts [] = []
texts (w ∷ ws) = Text w ∷ texts ws

-- an array of String whose elements are non-null
abbrev pub words_base : BaseType
words_base = Array (RefElem (record { 0 = 1 })) false

module _ (P : Program) where
  -- the next point dereferences a register that holds null
  abbrev pub NullFault : State → Type 0
  NullFault st = fault_at st.top.regs (point_at P st.top.body st.top.at)

  -- one frame of body b, the words as an array, static fields at their initializers, and nothing printed (JLS 8, 12.1.4)
  abbrev pub start_state : Limits → ℕ → List (List ℕ) → State
  start_state limits b words = record {
    limits = limits;
    heap = Elems words_base (texts words) ∷ [];
    statics = statics_of P.fields;
    out = [];
    top = entered P b (At 0 ∷ []);
    waiting = [];
  }

  -- method m is of the form main, with body b: its one parameter's slot is written or by default {C} (JLS 8, 12.1.4)
  pub record MainForm (m b : ℕ) : Type 0 where
    pub method : Method
    pub there : method_at P m ≡ Some method
    pub is_main : method.is_main ≡ true
    pub body : body_of (Some method) ≡ Some b
    pub slot : SlotNo
    pub info : SlotInfo
    pub param : method.param_slots ≡ Some slot ∷ []
    pub start : slice_get P.slots slot.0 ≡ Some info
    pub written : info.inferred ≡ false
    pub committed : info.start ≡ committed_only

  -- no run of a main reaches a null dereference, within any limits, with any texts of strings, any words and any number of steps
  abbrev pub NeverNull : Type 0
  NeverNull = (m b : ℕ) → MainForm m b → (limits : Limits) (names words : List (List ℕ)) (n : ℕ) (st : State) → run P names (Goes (start_state limits b words)) n ≡ Goes st → NullFault st → ⊥
