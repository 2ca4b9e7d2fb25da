use Rattle.std.proofs.Common.{codes, sym}
use Rattle.serde_json.specs.Find.{pointer}
use Rattle.serde_json.specs.View.{view}
use Rattle.jn_lsp_messages.specs.Incoming.{named_range}
use Rattle.jn_lsp_messages.proofs.Finding.{range_there}
use Rattle.jn_lsp_messages.proofs.params.named_range.Goals as goal

pub returns-in-Some : goal.returns-in-Some
unfolding named_range
returns-in-Some c = range_there (pointer (codes "/params/range") (view c.args.body.now)) (view c.in-Some.range.now) c.range_in.result (sym c.in-Some.ensures) c.range_in.ensures
