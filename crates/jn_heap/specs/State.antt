-- States of the machine: heap, static numbers, frames with their registers, and the text printed; what registers hold, and what a step gives.
use Rattle.std.specs.Prelude.{ℕ, ◌+◌, Bool, List, [], ◌∷◌, ℤ, Option, Some, None, slice_set, slice_index_or}
use Rattle.jn_points.specs.declared.point.Operand.{Operand}
use Rattle.jn_heap.specs.Values.{Prim, Number, Truth, Value, NullRef, Text, Plain, At, Thing, End, Got, Gives, Fails, Lacks, Limits, text_of}

-- a value for each register, or none before its first write
abbrev pub Regs : Type 0
Regs = List (Option Value)

-- a body that runs, the number of the point that runs next in it, and its registers (JLS 8, 15.12.4.5)
pub record Frame : Type 0 where
  pub body : ℕ
  pub at : ℕ
  pub regs : List (Option Value)

-- heap, numbers of static fields, text printed, the frame that runs, and those that wait for it, the last caller first; no step changes the limits
pub record State : Type 0 where
  pub limits : Limits
  pub heap : List Thing
  pub statics : List Prim
  pub out : List ℕ
  pub top : Frame
  pub waiting : List Frame

-- a state, an end with the state whose point ended the run, or what no base-typed program without a null fault does
pub data Next : Type 0 where
  Goes : (state : State) → Next
  Ends : (end : End) (state : State) → Next
  Stuck : Next

-- what a register holds
abbrev pub value_at : Regs → ℕ → Option Value
value_at regs r = slice_index_or regs r None

-- what the register of an operand holds, if there is one
abbrev pub value_of : Regs → Option Operand → Option Value
value_of regs None = None
value_of regs (Some a) = value_at regs a.reg.0

-- the place on the heap that a value refers to
abbrev pub object_of : Option Value → Option ℕ
object_of None = None
object_of (Some NullRef) = None
object_of (Some (Text t)) = None
object_of (Some (Plain p)) = None
object_of (Some (At o)) = Some o

-- the int or boolean that a value is
abbrev pub prim_of : Option Value → Option Prim
prim_of None = None
prim_of (Some NullRef) = None
prim_of (Some (Text t)) = None
prim_of (Some (Plain p)) = Some p
prim_of (Some (At o)) = None

-- the number that an int is
abbrev pub int_of : Option Prim → Option ℤ
int_of None = None
int_of (Some (Number n)) = Some n
int_of (Some (Truth b)) = None

-- the truth that a boolean is
abbrev pub truth_of : Option Prim → Option Bool
truth_of None = None
truth_of (Some (Number n)) = None
truth_of (Some (Truth b)) = Some b

-- the string that a value is converted to (JLS 8, 5.1.11)
abbrev pub text_in : Option Value → Option (List ℕ)
text_in None = None
text_in (Some v) = text_of v

-- a first value in front of the others, where all are there
abbrev pub gather_more : Option Value → Option (List Value) → Option (List Value)
gather_more None vs = None
gather_more (Some v) None = None
gather_more (Some v) (Some vs) = Some (v ∷ vs)

-- the values of all operands, where each register holds one
abbrev pub gather : Regs → List Operand → Option (List Value)
gather regs [] = Some []
gather regs (a ∷ args) = gather_more (value_at regs a.reg.0) (gather regs args)

-- a value is given where there is one
abbrev pub got_of : Option Value → Got Value
got_of None = Lacks
got_of (Some v) = Gives v

-- an int or boolean is given where there is one
abbrev pub got_prim : Option Prim → Got Prim
got_prim None = Lacks
got_prim (Some p) = Gives p

-- an int or boolean that is given, as a value
abbrev pub got_plain : Got Prim → Got Value
got_plain (Gives p) = Gives (Plain p)
got_plain (Fails e) = Fails e
got_plain Lacks = Lacks

-- the frame at another point
abbrev pub moves_to : Frame → ℕ → Frame
moves_to f to = record { body = f.body; at = to; regs = f.regs }

-- the frame at its next point, with a value in a register
abbrev pub holds_at : Frame → ℕ → Value → Frame
holds_at f dst v = record { body = f.body; at = f.at + 1; regs = slice_set f.regs dst (Some v) }

-- the running frame goes to a point
abbrev pub moves : State → ℕ → Next
moves st to = Goes (record st { top = moves_to st.top to })

-- the running frame takes a value into a register, and goes to its next point
abbrev pub sets : State → ℕ → Value → Next
sets st dst v = Goes (record st { top = holds_at st.top dst v })

-- the running frame takes what is given into a register; else the run ends (JLS 8, 15.6)
abbrev pub got_sets : State → ℕ → Got Value → Next
got_sets st dst (Gives v) = sets st dst v
got_sets st dst (Fails e) = Ends e st
got_sets st dst Lacks = Stuck
