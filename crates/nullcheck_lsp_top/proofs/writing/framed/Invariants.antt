use Rattle.std.proofs.Common.{◌≡◌, take}
use Rattle.nullcheck_lsp_top.specs.Hearing.{framed}
use Rattle.nullcheck_lsp_top.proofs.writing.framed.Given as goal

abbrev pub invariant-loop-reply : goal.invariant-loop-reply
invariant-loop-reply l = l.bytes.items ≡ framed l.address (take l.reply-index l.replies)
