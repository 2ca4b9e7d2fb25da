use Rattle.serde_json.specs.View.{view}
use Rattle.jn_lsp_messages.proofs.Shallow.{is_compact, reads_as}
use Rattle.jn_lsp_messages.proofs.writing.write_reply.Goals as goal

pub returns-clause-reads : goal.returns-clause-reads
returns-clause-reads c = reads_as c.args.address.now c.args.reply.now (view c.in_ok-value.value) c.in_ok-to_vec.field-0.items c.in_ok-value.ensures c.in_ok-to_vec.ensures.reads_back c.in_ok-to_vec.ensures.utf8

pub returns-clause-text : goal.returns-clause-text
returns-clause-text c = is_compact c.args.address.now c.args.reply.now (view c.in_ok-value.value) c.in_ok-to_vec.field-0.items c.in_ok-value.ensures c.in_ok-to_vec.ensures.text
