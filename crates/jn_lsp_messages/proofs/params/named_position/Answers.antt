use Rattle.std.proofs.Common.{codes, sym}
use Rattle.serde_json.specs.Find.{pointer}
use Rattle.serde_json.specs.View.{view}
use Rattle.jn_lsp_messages.specs.Incoming.{named_position}
use Rattle.jn_lsp_messages.proofs.Finding.{position_there}
use Rattle.jn_lsp_messages.proofs.params.named_position.Goals as goal

pub returns-in-Some : goal.returns-in-Some
unfolding named_position
returns-in-Some c = position_there (pointer (codes "/params/position") (view c.args.body.now)) (view c.in-Some.position.now) c.position_in.result (sym c.in-Some.ensures) c.position_in.ensures
