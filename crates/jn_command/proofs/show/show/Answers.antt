use Rattle.std.proofs.Common.{[], refl}
use Rattle.jn_front.specs.Files.{files_of_reads}
use Rattle.jn_command.specs.Reports.{rows_of}
use Rattle.jn_command.proofs.Showing.{plain_rows}
use Rattle.jn_command.proofs.show.show.Goals as goal

pub returns-clause-rows : goal.returns-clause-rows
returns-clause-rows g c = plain_rows (λ s. (g.P.Reporter.form s).rows) (g.P.Reporter.form c.args.reporter).rows (files_of_reads c.args.reads.now) (rows_of c.args.report.now) [] c.show_noted.result refl c.show_noted.ensures.rows
