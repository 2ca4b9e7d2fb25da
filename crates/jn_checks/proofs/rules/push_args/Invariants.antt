use Rattle.std.proofs.Common.{◌≡◌, ◌++◌, drop}
use Rattle.jn_sigs.specs.Signature.{slot_quals}
use Rattle.jn_transfer.specs.Rules.{arg_rows}
use Rattle.jn_checks.proofs.rules.push_args.Given as goal

abbrev pub invariant-loop-i : goal.invariant-loop-i
invariant-loop-i l = l.rows.items ++ arg_rows l.env (slot_quals l.sig (drop l.i l.slots)) (drop l.i l.args) ≡ l.fn.rows.items ++ arg_rows l.env (slot_quals l.sig l.slots) l.args
