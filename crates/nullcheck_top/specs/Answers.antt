-- What an answer says, by the report, its notes, the safety and the runs of files.
use Rattle.std.specs.Prelude.{ℕ, ◌≡◌, true, List, Option, Some, None}
use Rattle.jn_command.specs.declared.status.Status.{Status}
use Rattle.jn_asked.specs.Asked.{Asked}
use Rattle.jn_command.specs.Answer.{Reading}
use Rattle.nullcheck_top.specs.CommandAnswer.{Answers as CommandAnswers, AnswersFiles as CommandAnswersFiles, Completes as CommandCompletes, Safe as CommandSafe}
use Rattle.jn_front.specs.declared.source.SourceFile.{SourceFile}
use Rattle.jn_report.specs.Report.{IsReport}
use Rattle.jn_safe_files.specs.Safe.{IsSafe}
use Rattle.nullcheck_top.specs.Report.{AreNotes, RunsTo, Prints}

-- what holds after a call with this status, by what it read, what was asked, and what its output had before and has after
abbrev pub Answers : Reading → Option Asked → Option (List ℕ) → Option (List ℕ) → Status → Type 0
Answers = CommandAnswers IsReport AreNotes IsSafe RunsTo Prints

-- the same of a command whose files were read
abbrev pub AnswersFiles : Asked → List SourceFile → Option (List ℕ) → Option (List ℕ) → Status → Type 0
AnswersFiles = CommandAnswersFiles IsReport AreNotes IsSafe RunsTo Prints

-- of a command, where no fault is outside: its output was written whole, or no memory was found
abbrev pub Completes : Reading → Option Asked → Option (List ℕ) → Option (List ℕ) → Status → Type 0
Completes = CommandCompletes IsReport AreNotes IsSafe RunsTo Prints

-- a command is asked for, and the files that it checks are safe in each run and for each caller
abbrev pub Safe : Reading → Option Asked → Type 0
Safe = CommandSafe IsReport AreNotes IsSafe RunsTo Prints

-- the words ask for a run
abbrev pub AsksRun : Option Asked → Type 0
AsksRun None = ⊥
AsksRun (Some a) = a.command.run ≡ true
