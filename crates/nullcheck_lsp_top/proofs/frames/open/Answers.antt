use Rattle.std.proofs.Common.{List, ap, ◌∙◌}
use Rattle.jn_lsp_text.specs.declared.reply.Reply.{Reply}
use Rattle.nullcheck_lsp_top.specs.Announcing.{begins}
use Rattle.nullcheck_lsp_top.specs.Hearing.{framed}
use Rattle.nullcheck_lsp_top.proofs.frames.open.Goals as goal

pub returns : goal.returns
returns c = record {
  message = c.in_ok-message.message;
  is = c.in_ok-message.ensures;
  task = c.in_ok-task.ensures;
  bytes = c.in_ok-bytes.ensures ∙ ap (λ (rs : List Reply). framed c.args.address.now rs) (c.deref.ensures.value ∙ c.in_ok-begun.ensures ∙ ap (λ b. begins b c.args.client.now.progress.next) c.in_ok-task.ensures.announced);
}
