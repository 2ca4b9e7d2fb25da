use Rattle.std.proofs.Common.{◌≡◌, ◌++◌}
use Rattle.nullcheck_lsp_top.proofs.messages.joined.Given as goal

abbrev pub invariant-loop-reply : goal.invariant-loop-reply
invariant-loop-reply l = l.all.items ≡ l.fn.replies.items ++ l.yielded
