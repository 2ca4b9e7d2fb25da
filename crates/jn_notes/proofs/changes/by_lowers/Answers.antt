use Rattle.std.proofs.Common.{◌<◌, Some, length, sym, ◌∙◌, arith}
use Rattle.jn_notes.proofs.Finding.{found_is}
use Rattle.jn_notes.specs.Spoken.{changed_at}
use Rattle.jn_notes.proofs.changes.by_lowers.Goals as goal

pub returns-then-is_some : goal.returns-then-is_some
returns-then-is_some c =
    let lt : c.loop-i.i < length c.args.under.now = omega (arith, c.loop-i-test.true) in
    found_is (changed_at c.args.program.now c.args.sig.now c.args.part (Some c.args.over.now) c.args.under.now) c.loop-i.i (length c.args.under.now) c.by_lower-found.result lt c.loop-i.invariant
    c.by_lower-found.ensures (sym c.is_some.ensures ∙ c.if-is_some.true)
