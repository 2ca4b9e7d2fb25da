use Rattle.jn_cert_exists_law.proofs.Parts.{are_parts, table_plain}
use Rattle.jn_cert_exists_law.proofs.law.least_tables_have_a_form.Goals as goal

pub returns : goal.returns
returns c = record { plain = table_plain; parts = are_parts }
