-- The line that tells how a run ended, and the status with which the program ends then.
use Rattle.std.specs.Prelude.{ℕ, ◌++◌, List, Option, Some, None, codes, decimal, slice_get}
use Rattle.jn_base.specs.declared.place.Span.{Span}
use Rattle.jn_base.specs.Place.{place_in}
use Rattle.jn_heap.specs.Values.{End, Done, Arithmetic, Index, NegativeSize, ClassCast, ArrayStore, Deep, Long}
use Rattle.jn_front.specs.declared.source.SourceFile.{SourceFile}
use Rattle.jn_command.specs.declared.status.Status.{Status}
use Rattle.jn_command.specs.declared.status.Status.TheVariants.{Ok, RunFault, Stopped}

-- FILE:LINE:COL of a span's first byte; a span of no file has no name, and stands at its beginning
abbrev pub place_in_file : Option SourceFile → Span → List ℕ
place_in_file None span = codes ":1:1"
place_in_file (Some file) span = let place = place_in file.bytes span in file.name ++ codes ":" ++ decimal place.line ++ codes ":" ++ decimal place.col

module _ (files : List SourceFile) where
  -- the same of a span of these files, which says by number in which of them it stands
  abbrev pub place_text : Span → List ℕ
  place_text span = place_in_file (slice_get files span.file.0) span

  -- an exception of Java by its class's name, and where the point stands that made it
  abbrev pub fault_line : List ℕ → Span → List ℕ
  fault_line name span = codes "fault " ++ name ++ codes " " ++ place_text span ++ codes "\n"

  -- the line of an end to which the point of this span came
  abbrev pub end_line : End → Span → List ℕ
  end_line Done span = codes "done\n"
  end_line Arithmetic span = fault_line (codes "ArithmeticException") span
  end_line Index span = fault_line (codes "ArrayIndexOutOfBoundsException") span
  end_line NegativeSize span = fault_line (codes "NegativeArraySizeException") span
  end_line ClassCast span = fault_line (codes "ClassCastException") span
  end_line ArrayStore span = fault_line (codes "ArrayStoreException") span
  end_line Deep span = codes "deep\n"
  end_line Long span = codes "long\n"

-- the status of a run by its end: main returned, an exception of Java was thrown, or a limit stopped it
abbrev pub end_status : End → Status
end_status Done = Ok
end_status Arithmetic = RunFault
end_status Index = RunFault
end_status NegativeSize = RunFault
end_status ClassCast = RunFault
end_status ArrayStore = RunFault
end_status Deep = Stopped
end_status Long = Stopped
