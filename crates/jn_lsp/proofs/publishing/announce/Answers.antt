use Rattle.jn_lsp.specs.Publications.{gone}
use Rattle.jn_lsp.proofs.Announcing.{announced_one}
use Rattle.jn_lsp.proofs.publishing.announce.Goals as goal

pub loop-one-preserved : goal.loop-one-preserved
loop-one-preserved c = announced_one c.args.opened.now c.args.versions.now c.args.before.now (gone c.args.before.now c.args.after.now) c.args.after.now c.loop-one.one-index c.one-item.result c.as_str-name.result.now c.as_slice.result.now c.loop-one.replies c.publish.new.replies c.loop-one-test.true c.one-item.is c.as_str-name.ensures c.as_slice.ensures c.loop-one.invariant c.in_ok-publish.ensures
