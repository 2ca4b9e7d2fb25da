-- Parts of the definition's steps, as the code does them.
use Rattle.std.specs.Prelude.{ℕ, ◌≡◌, ◌+◌, ◌++◌, Bool, true, false, ltb, length, List, Option, Some, None}
use Rattle.jn_base.specs.declared.number.PointNo.{PointNo}
use Rattle.jn_points.specs.declared.program.Program.{Program}
use Rattle.jn_points.specs.Lookup.{elem_base}
use Rattle.jn_heap.specs.Values.{Value, Thing, Object, Elems, Deep, Index, Got, Gives, Fails, Lacks}
use Rattle.jn_heap.specs.State.{State, Next, Goes, Ends, Stuck, moves, moves_to}
use Rattle.jn_heap.specs.Steps.{stored, may_hold}
use Rattle.jn_machine.specs.declared.prim.Got.{Got as Answer}
use Rattle.jn_machine.specs.declared.prim.Got.TheVariants.{Gives as IsGiven, Fails as HasFailed, Lacks as HasNone}
use Rattle.jn_machine.specs.Ends.{end_of}

-- goes to the point, where there is one
abbrev pub goes_to : State → Option PointNo → Next
goes_to st None = Stuck
goes_to st (Some to) = moves st to.0

-- the values with these before them
abbrev pub prepended : List Value → Option (List Value) → Option (List Value)
prepended front None = None
prepended front (Some vs) = Some (front ++ vs)

-- the thing as it is now, where the write was done
abbrev pub put_answer : {A : Type 0} → Answer A → Thing → Got Thing
put_answer (IsGiven done) x = Gives x
put_answer (HasFailed e) x = Fails (end_of e)
put_answer HasNone x = Lacks

-- a thing into which a write failed is as it was
abbrev pub IsKept : {A : Type 0} → Answer A → Thing → Thing → Type 0
IsKept (IsGiven done) old new = Unit {0}
IsKept (HasFailed e) old new = new ≡ old
IsKept HasNone old new = Unit {0}

-- what a write into a thing of the heap did that left the heap so
abbrev pub put_next : {A : Type 0} → Answer A → State → List Thing → Next
put_next (IsGiven done) st heap = Goes (record st { heap = heap; top = moves_to st.top (st.top.at + 1) })
put_next (HasFailed e) st heap = Ends (end_of e) (record st { heap = heap })
put_next HasNone st heap = Stuck

-- whether a thing may hold the value as an element
abbrev pub may_hold_in : Program → List Thing → Option Thing → Value → Bool
may_hold_in P heap None v = false
may_hold_in P heap (Some (Object c fields)) v = false
may_hold_in P heap (Some (Elems b items)) v = may_hold P heap (elem_base b) v

-- the thing with the value as the element at an index, where it may hold it
abbrev pub store_as : Option Thing → Option ℕ → Value → Bool → Got Thing
store_as None i v may = Lacks
store_as (Some (Object c fields)) i v may = Lacks
store_as (Some (Elems b items)) None v may = Fails Index
store_as (Some (Elems b items)) (Some i) v may = stored b items i v (ltb i (length items)) may

-- the number of the body that a call enters, where that makes few enough frames
abbrev pub entry_of : Bool → Option ℕ → Got ℕ
entry_of true b = Fails Deep
entry_of false None = Lacks
entry_of false (Some b) = Gives b
