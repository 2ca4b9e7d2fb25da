use Rattle.jn_lsp_actions.proofs.Taken.{fields_say, values_say}
use Rattle.jn_lsp_actions.proofs.law.written_null_is_taken.Goals as goal

pub returns-clause-values : goal.returns-clause-values
returns-clause-values c = values_say

pub returns-clause-fields : goal.returns-clause-fields
returns-clause-fields c = fields_say
