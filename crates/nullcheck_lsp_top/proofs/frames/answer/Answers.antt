use Rattle.std.proofs.Common.{List, ap, ◌∙◌}
use Rattle.jn_lsp_text.specs.declared.reply.Reply.{Reply}
use Rattle.nullcheck_lsp_top.specs.Hearing.{framed}
use Rattle.nullcheck_lsp_top.proofs.frames.answer.Goals as goal

pub returns-clause-answers : goal.returns-clause-answers
returns-clause-answers g c message is = record { replies = c.in_ok-replies.replies.items; hears = c.in_ok-replies.ensures.hears message is; are = c.in_ok-bytes.ensures ∙ ap (λ (rs : List Reply). framed c.args.address.now rs) c.deref.ensures.value }
