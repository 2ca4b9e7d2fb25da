-- What a run of the one main writes, said of its trees.
use Rattle.std.specs.Prelude.{ℕ, ◌≡◌, ◌≤◌, ◌++◌, List, codes}
use Rattle.jn_points.specs.declared.program.Program.{Program}
use Rattle.jn_front.specs.declared.source.SourceFile.{SourceFile}
use Rattle.jn_command.specs.declared.status.Status.{Status}
use Rattle.jn_command.specs.declared.status.Status.TheVariants.{Ok, Stopped}
use Rattle.jn_run.specs.Line.{end_line, end_status}
use Rattle.jn_run.specs.Main.{RunsTo}
use Rattle.jn_meaning.specs.Bodies.{TreeEnd, Returned, Fault, TooLong, Deep}

-- the trees came to an end of their own, within the units of fuel
abbrev pub IsOver : TreeEnd → Type 0
IsOver Returned = Unit {0}
IsOver (Fault kind span) = Unit {0}
IsOver TooLong = Unit {0}
IsOver Deep = Unit {0}
IsOver end = ⊥

-- a run came to an end of its own, within the steps: its last line isn't `steps`
abbrev pub IsRunOver : Status → List ℕ → Type 0
IsRunOver status bytes = status ≡ Stopped → (text : List ℕ) → bytes ≡ text ++ codes "steps\n" → ⊥

-- the text, then the line of the end, and the status: `done`, an exception by its name with the place of the form that made it, `long` or `deep`
abbrev pub IsWritten : List SourceFile → TreeEnd → List ℕ → Status → List ℕ → Type 0
IsWritten files Returned text status bytes = (status ≡ Ok) × (bytes ≡ text ++ codes "done\n")
IsWritten files (Fault kind span) text status bytes = (status ≡ end_status kind) × (bytes ≡ text ++ end_line files kind span)
IsWritten files TooLong text status bytes = (status ≡ Stopped) × (bytes ≡ text ++ codes "long\n")
IsWritten files Deep text status bytes = (status ≡ Stopped) × (bytes ≡ text ++ codes "deep\n")
IsWritten files end text status bytes = ⊥

module _ (files : List SourceFile) (P : Program) (names words : List (List ℕ)) where
  -- each run of enough steps writes what the trees came to
  abbrev pub RunsWrite : TreeEnd → List ℕ → Type 0
  RunsWrite end text = (k : ℕ) × ((steps : ℕ) (status : Status) (bytes : List ℕ) → k ≤ steps → RunsTo files P names words steps status bytes → IsWritten files end text status bytes)
