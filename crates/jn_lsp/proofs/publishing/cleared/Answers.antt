use Rattle.jn_lsp.proofs.Announcing.{gone_cleared}
use Rattle.jn_lsp.proofs.publishing.cleared.Goals as goal

pub loop-one-preserved : goal.loop-one-preserved
loop-one-preserved c = gone_cleared c.args.opened.now c.args.versions.now c.args.before.now c.args.after.now c.loop-one.one-index c.one-item.result c.as_str.result.now c.loop-one.replies c.clear.new.replies c.loop-one-test.true c.one-item.is c.as_str.ensures c.loop-one.invariant c.in_ok-clear.ensures
