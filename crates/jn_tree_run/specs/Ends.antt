-- Ends of runs by trees, of the code as those of the definition.
use Rattle.std.specs.Prelude.{ℕ, ◌≡◌, List, Option, Result as Answer, Ok, Err}
use Rattle.jn_heap.specs.Values.{Value, End, Arithmetic, Index, NegativeSize, ClassCast, ArrayStore}
use Rattle.jn_machine.specs.Ends.{end_of}
use Rattle.jn_meaning.specs.Bodies as spec
use Rattle.jn_outside.specs.Sink.{Appends, AppendsPrefix}
use Rattle.jn_tree_world.specs.declared.halt.Halt.{Halt}
use Rattle.jn_tree_world.specs.declared.halt.Halt.TheVariants as halt
use Rattle.jn_tree_run.specs.declared.ended.FaultKind.{FaultKind}
use Rattle.jn_tree_run.specs.declared.ended.FaultKind.TheVariants as kind
use Rattle.jn_tree_run.specs.declared.ended.TreeEnd.{TreeEnd}
use Rattle.jn_tree_run.specs.declared.ended.TreeEnd.TheVariants.{Done, Fault, Long, Null, Out, Deep, WriteFault, OutOfMemory}

-- an exception of Java
abbrev pub fault_of : FaultKind → End
fault_of kind.Arithmetic = Arithmetic
fault_of kind.Index = Index
fault_of kind.NegativeSize = NegativeSize
fault_of kind.ClassCast = ClassCast
fault_of kind.ArrayStore = ArrayStore

-- the run ended so; neither a write fault nor want of memory is an end of trees
abbrev pub IsEnd : spec.TreeEnd → TreeEnd → Type 0
IsEnd end Done = end ≡ spec.Returned
IsEnd end (Fault kind span) = end ≡ spec.Fault (fault_of kind) span
IsEnd end Long = end ≡ spec.TooLong
IsEnd end (Null span) = end ≡ spec.Null span
IsEnd end Out = end ≡ spec.Out
IsEnd end Deep = end ≡ spec.Deep
IsEnd end WriteFault = ⊥
IsEnd end OutOfMemory = ⊥

-- the end to which a stop brings a run; of want of memory nothing is said
abbrev pub IsEndOf : Halt → spec.TreeEnd → Type 0
IsEndOf (halt.Faulted e span) end = end ≡ spec.fault (end_of e) span
IsEndOf (halt.NullAt span) end = end ≡ spec.Null span
IsEndOf halt.FuelOut end = end ≡ spec.Out
IsEndOf halt.TooDeep end = end ≡ spec.Deep
IsEndOf halt.Senseless end = end ≡ spec.Stuck
IsEndOf halt.OutOfMemory end = Unit {0}

-- the end to which the answer of a main's body brings a run
abbrev pub EndsAs : Answer (Option Value) Halt → spec.TreeEnd → Type 0
EndsAs (Ok v) end = end ≡ spec.Returned
EndsAs (Err h) end = IsEndOf h end

-- how the run ended, and its text
pub record IsTold (t : spec.Told) (e : TreeEnd) (printed : List ℕ) : Type 0 where
  pub end : IsEnd t.end e
  pub text : t.text ≡ printed

module _ (t : spec.Told) (old new : Option (List ℕ)) where
  -- the text was written whole
  abbrev pub Writes : spec.TreeEnd → Type 0
  Writes end = (t.end ≡ end) × Appends old new t.text

  -- each end is that of the trees, after their whole text; after a write fault a prefix of it went out, and after want of memory nothing
  abbrev pub Answers : TreeEnd → Type 0
  Answers Done = Writes spec.Returned
  Answers (Fault kind span) = Writes (spec.Fault (fault_of kind) span)
  Answers Long = Writes spec.TooLong
  Answers (Null span) = Writes (spec.Null span)
  Answers Out = Writes spec.Out
  Answers Deep = Writes spec.Deep
  Answers WriteFault = AppendsPrefix old new t.text
  Answers OutOfMemory = new ≡ old
