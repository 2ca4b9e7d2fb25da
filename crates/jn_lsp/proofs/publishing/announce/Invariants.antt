use Rattle.std.proofs.Common.{◌++◌, take}
use Rattle.jn_lsp.specs.Publications.{ArePublished, gone}
use Rattle.jn_lsp.proofs.publishing.announce.Given as goal

abbrev pub invariant-loop-one : goal.invariant-loop-one
invariant-loop-one l = ArePublished l.opened l.versions l.before (gone l.before l.after ++ take l.one-index l.after) l.replies
