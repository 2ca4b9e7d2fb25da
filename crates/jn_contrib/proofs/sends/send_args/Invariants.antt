use Rattle.std.proofs.Common.{◌≡◌, ◌++◌, drop}
use Rattle.jn_transfer.specs.Contributions.{arg_sends}
use Rattle.jn_contrib.proofs.sends.send_args.Given as goal

abbrev pub invariant-loop-i : goal.invariant-loop-i
invariant-loop-i l = l.list.items ++ arg_sends l.program l.env (drop l.i l.slots) (drop l.i l.args) ≡ l.fn.list.items ++ arg_sends l.program l.env l.slots l.args
