use Rattle.std.proofs.Common.{◌≡◌, ◌≤◌, ◌-◌, ◌++◌, length, take}
use Rattle.jn_front.specs.Files.{files_of_reads}
use Rattle.jn_command.specs.Shown.{rows_with}
use Rattle.jn_command.specs.Stands.{IsPlace}
use Rattle.jn_command.proofs.show.show_noted.Given as goal

abbrev pub invariant-loop-at : goal.invariant-loop-at
invariant-loop-at g l = record {
  place : IsPlace l.reads l.place;
  within : l.at ≤ length l.rows;
  taken : (g.P.Reporter.form l.shower).rows ≡ (g.P.Reporter.form l.fn.reporter).rows ++ rows_with (files_of_reads l.reads) (g.N.Notes.told l.notes) (take l.at l.rows);
  shown : (g.P.Reporter.form l.shower).shown ≡ (g.P.Reporter.form l.fn.reporter).shown;
}

abbrev pub decreases-loop-at : goal.decreases-loop-at
decreases-loop-at g l = length l.rows - l.at
