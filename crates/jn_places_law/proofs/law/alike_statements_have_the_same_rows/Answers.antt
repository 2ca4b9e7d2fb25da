use Rattle.jn_lowering.specs.BodyRows.{no_this}
use Rattle.jn_places_law.proofs.StatementRows.{rows_alike, statement_like}
use Rattle.jn_places_law.proofs.law.alike_statements_have_the_same_rows.Goals as goal

pub returns : goal.returns
returns c = record {
  rows = λ P Q k first at st r ts us x h l m. rows_alike P Q h k first at st r ts us x (l, m);
  scopes = λ P Q k first st r ts us x h l m. (statement_like P Q h k first no_this st r ts us x (l, m)).1;
}
