-- What is written of how a run ended, and nothing else.
use Rattle.std.specs.Prelude.{ℕ, ◌≡◌, ◌⊎◌, List, Option, codes}
use Rattle.jn_front.specs.declared.source.SourceFile.{SourceFile}
use Rattle.jn_command.specs.declared.status.Status.{Status}
use Rattle.jn_command.specs.declared.status.Status.TheVariants.{Ok, RunFault, Stopped, WriteFault, OutOfMemory}
use Rattle.jn_command.specs.Answer.{Finished}
use Rattle.jn_running.specs.declared.ended.Ended.{Ended}
use Rattle.jn_running.specs.declared.ended.Ended.TheVariants.{Done as IsDone, Fault as HasFault, Steps as HasSteps, Deep as IsDeep, Long as IsLong, WriteFault as HasWriteFault, OutOfMemory as HasNoMemory}
use Rattle.jn_running.specs.declared.ended.FaultKind.{FaultKind}
use Rattle.jn_running.specs.declared.ended.FaultKind.TheVariants.{Arithmetic, Index, NegativeSize, ClassCast, ArrayStore}
use Rattle.jn_run.specs.Line.{fault_line}

-- the class of an exception, by its simple name (java.lang)
abbrev pub class_name : FaultKind → List ℕ
class_name Arithmetic = codes "ArithmeticException"
class_name Index = codes "ArrayIndexOutOfBoundsException"
class_name NegativeSize = codes "NegativeArraySizeException"
class_name ClassCast = codes "ClassCastException"
class_name ArrayStore = codes "ArrayStoreException"

module _ (old new : Option (List ℕ)) (before now : ℕ) where
  -- the sink is as it was
  abbrev pub WritesNothing : Status → Status → Type 0
  WritesNothing status result = (result ≡ status) × (new ≡ old) × (now ≡ before)

  module _ (files : List SourceFile) where
    -- the line and its status; of a fault there may be no memory for it, and nothing is told of a write fault or of want of memory
    abbrev pub Tells : Ended → Status → Type 0
    Tells IsDone result = Finished old new (codes "done\n") Ok before now result
    Tells (HasFault kind span) result = Finished old new (fault_line files (class_name kind) span) RunFault before now result ⊎ WritesNothing OutOfMemory result
    Tells HasSteps result = Finished old new (codes "steps\n") Stopped before now result
    Tells IsDeep result = Finished old new (codes "deep\n") Stopped before now result
    Tells IsLong result = Finished old new (codes "long\n") Stopped before now result
    Tells HasWriteFault result = WritesNothing WriteFault result
    Tells HasNoMemory result = WritesNothing OutOfMemory result
