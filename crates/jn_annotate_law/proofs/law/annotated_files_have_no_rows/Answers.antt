use Rattle.jn_heads.specs.Extract.{heads}
use Rattle.jn_annotate_law.proofs.AllRows.{no_rows_more}
use Rattle.jn_annotate_law.proofs.Extracting.{heads_plain}
use Rattle.jn_annotate_law.proofs.Sources.{same_body_rows}
use Rattle.jn_heads_law.proofs.Tables.{tables_alike}
use Rattle.jn_annotate_law.proofs.law.annotated_files_have_no_rows.Goals as goal

pub returns : goal.returns
returns c = record {
  bodies = λ slots s tokens others trees places fields methods p q e. same_body_rows slots s tokens others trees places fields methods p q e (tables_alike (heads trees) (heads places) (heads_plain slots s tokens others trees places fields methods p q e));
  none = no_rows_more;
}
